-- A state whose flash is sound and agrees with its maps: every move finds its programs and erases accepted, and leaves such a state.
use Rattle.std.proofs.Common.{◌≡◌, ℕ, ◌+◌, ◌<◌, ◌≤◌, Bool, ◌≢◌, List, [], ◌∷◌, ◌++◌, map, length, get_or, set, Some, None, sym, ap, ◌∙◌, subst, inl, inr, arith}
use Rattle.std.proofs.lemmas.List.{length-set, length-map, length_push, get_or-set_same, get_or-set_other, get_or-map}
use Rattle.std.proofs.lemmas.List.Elements.{All-get_or}
use Rattle.std.proofs.lemmas.Bool.{cases_eq}
use Rattle.flash.specs.Meaning.{Card, Shape, Block, block_count, floor_at, erase_count_at, programmed, erased, Sound}
use Rattle.flash.specs.Refusals.{program_refusal, erase_refusal}
use Rattle.flash.proofs.CardLaws.{programmed_floor, programmed_floor_elsewhere, erased_floor, erased_floor_elsewhere}
use Rattle.flash.proofs.RefusalLaws.{CanProgram, CanErase, program_accepted, erase_accepted}
use Rattle.flash.proofs.SoundLaws.{programmed_sound, erased_sound}
use Rattle.rules.specs.State.{Slot, live, State}
use Rattle.rules.specs.Moves.{Row, retire, retired, dropped, kept, copied, compacted_at, gathered, cleared, rewritten, stored_at}
use Rattle.rules.specs.Ready.{Filed}
use Rattle.rules.proofs.CardCounts.{alike_cleared, cleared_elsewhere}
use Rattle.rules.proofs.Rounds.{Good, dropping, rewriting, compacted_moved}
use Rattle.rules.proofs.OpenBlock.{OpenIn}
use Rattle.rules.proofs.Appending.{storing}
use Rattle.rules.proofs.ReadyCards.{Sized, Copying, copying_none, copying_all, endurance_same, Filling, filling_none, filling_all}
use Rattle.rules.proofs.ReadyErases.{cleared_sound, cleared_floor}
use Rattle.rules.proofs.ReadyHeld.{gathered_sized}

-- the floors in the region are the programmed slots
abbrev pub Floors : Card → ℕ → ℕ → List (List Slot) → Type 0
Floors c l n t = (r : ℕ) → r < n → floor_at c (l + r) ≡ length (get_or t r [])

-- all that a state in which every call can be carried out has, but that no page is named twice
pub record Firm (s : State) : Type 0 where
  pub two_blocks : 2 ≤ s.plan.region
  pub good : Good s
  pub floors : Floors s.card s.plan.data s.plan.region s.table
  pub sound : Sound s.card

-- no block of the region has more slots than pages
pub slots_short : (s : State) (r : ℕ) → Firm s → r < s.plan.region → length (get_or s.table r []) ≤ s.card.shape.pages
slots_short s r f h =
    let g = f.good in
    omega (arith, (All-get_or (Filed s.plan.data s.pages) s.table r [] (omega (arith, g.rows)) g.filed).short, g.pages_are)

-- ---- compaction

-- its copies begin at the blank reserve
pub compact_starts :
    (s : State) (v : ℕ) → Firm s → v < s.plan.region →
    Copying s.card (s.plan.data + v) (s.plan.data + s.reserve) s.card 0 0
compact_starts s v f h =
    let g = f.good in
    copying_none s.card (s.plan.data + v) (s.plan.data + s.reserve) f.sound (omega (arith, g.inside)) (omega (arith, g.inside, g.reserve_in))
    (f.floors s.reserve g.reserve_in ∙ ap length g.reserve_empty)

-- and after any of them the block may still be erased
compact_can :
    (s : State) (v : ℕ) (c : Card) (i t : ℕ) → Copying s.card (s.plan.data + v) (s.plan.data + s.reserve) c i t →
    erase_count_at s.card (s.plan.data + v) < s.card.shape.endurance → CanErase c (s.plan.data + v)
compact_can s v c i t h low =
    let w = h.written in
    record {
      block = omega (arith, w.blocks_same, h.from_in);
      below = omega (arith, w.erases_same (s.plan.data + v), endurance_same s.card (s.plan.data + s.reserve) c w);
    }

pub compact_erases :
    (s : State) (v : ℕ) (c : Card) (i t : ℕ) → Copying s.card (s.plan.data + v) (s.plan.data + s.reserve) c i t →
    erase_count_at s.card (s.plan.data + v) < s.card.shape.endurance → erase_refusal c (s.plan.data + v) ≡ None
compact_erases s v c i t h low = erase_accepted c (s.plan.data + v) (compact_can s v c i t h low)

pub firm_compacted :
    (s : State) (v : ℕ) → Firm s → v < s.plan.region → v ≢ s.reserve →
    erase_count_at s.card (s.plan.data + v) < s.card.shape.endurance → Firm (compacted_at s v)
unfolding compacted_at
firm_compacted s v f h ne low =
    let g = f.good in
    let l = s.plan.data in
    let xs = get_or s.table v [] in
    let from = l + v in
    let to = l + s.reserve in
    let c = copied from to xs 0 0 s.card in
    let all = copying_all s.card from to xs s.card 0 0 (compact_starts s v f h) (omega (arith, slots_short s v f h)) in
    let can = compact_can s v c (0 + length xs) (0 + length (kept xs)) all low in
    let t₁ = set s.table s.reserve (kept xs) in
    let n₁ : length t₁ ≡ length s.table = length-set s.table s.reserve (kept xs) in
    record {
      two_blocks = f.two_blocks;
      good = (compacted_moved s v g h).good;
      floors = λ r hr.
          elim (cases_eq r v) [
            | inl q ↦
                ap (λ (k : ℕ). floor_at (erased c from) (l + k)) q ∙ erased_floor c from can.block
                ∙ sym (ap (λ (k : ℕ). length (get_or (set t₁ v []) k [])) q ∙ ap length (get_or-set_same t₁ v [] [] (omega (arith, n₁, g.rows))))
            | inr nv ↦
                let rest : length (get_or (set t₁ v []) r []) ≡ length (get_or t₁ r []) = ap length (get_or-set_other t₁ v r [] [] nv) in
                let same : floor_at (erased c from) (l + r) ≡ floor_at c (l + r) = erased_floor_elsewhere c from (l + r) (omega arith) in
                elim (cases_eq r s.reserve) [
                  | inl q ↦
                      let up : floor_at c (l + r) ≡ floor_at c to = ap (λ (k : ℕ). floor_at c (l + k)) q in
                      let here : length (get_or t₁ r []) ≡ length (kept xs) =
                      ap (λ (k : ℕ). length (get_or t₁ k [])) q ∙ ap length (get_or-set_same s.table s.reserve (kept xs) [] (omega (arith, g.rows, g.reserve_in))) in
                      omega (arith, all.floor)
                  | inr nr ↦
                      let was : floor_at c (l + r) ≡ floor_at s.card (l + r) = ap (λ (x : Block). x.floor) (all.written.elsewhere (l + r) (omega arith)) in
                      let here : length (get_or t₁ r []) ≡ length (get_or s.table r []) = ap length (get_or-set_other s.table s.reserve r (kept xs) [] nr) in
                      omega (arith, f.floors r hr)
                ]
          ];
      sound = erased_sound c from can all.written.sound;
    }

-- ---- slots die

-- as many slots are programmed as before
retired_floors :
    (c : Card) (l n : ℕ) (t : List (List Slot)) (picks : ℕ → ℕ → Bool) → length t ≡ n → Floors c l n t → Floors c l n (retired picks t)
retired_floors c l n t picks e f r h =
    f r h
    ∙ sym (ap length (get_or-map (map (retire picks)) t r [] [] (omega arith)) ∙ length-map (get_or t r []) (retire picks))

pub firm_dropped : (s : State) (d : ℕ) (picks : ℕ → Bool) → Firm s → Firm (dropped s d picks)
unfolding dropped
firm_dropped s d picks f =
    record {
      two_blocks = f.two_blocks;
      good = (dropping s d picks f.good).leaves.good;
      floors = retired_floors s.card s.plan.data s.plan.region s.table _ f.good.rows f.floors;
      sound = f.sound;
    }

-- ---- a data block written anew

-- its programs begin at the cleared block
pub rewrite_starts :
    (s : State) (d : ℕ) → Firm s → d < s.plan.data → erase_count_at s.card d < s.card.shape.endurance →
    Filling (cleared s.card d) d (cleared s.card d) 0
rewrite_starts s d f hd low =
    let c = s.card in
    let hb : d < block_count c = omega (arith, f.good.inside) in
    filling_none (cleared c d) d (cleared_sound c d f.sound hb low) (omega (arith, (alike_cleared c d hb).blocks_same))
    (cleared_floor c d hb)

pub firm_rewritten :
    (s : State) (d : ℕ) (row : Row) → Firm s → d < s.plan.data → erase_count_at s.card d < s.card.shape.endurance →
    Sized s.card.shape.size row → Firm (rewritten s d row)
unfolding rewritten
firm_rewritten s d row f hd low sized =
    let g = f.good in
    let c = cleared s.card d in
    let new = gathered s d row in
    let shape : c.shape ≡ s.card.shape = (alike_cleared s.card d (omega (arith, g.inside))).shape_same in
    let whole : Sized c.shape.size new =
    subst (λ (x : Shape). Sized x.size new) (sym shape) (gathered_sized s d row g f.sound hd sized) in
    let pages : c.shape.pages ≡ s.card.shape.pages = ap (λ (x : Shape). x.pages) shape in
    let all = filling_all c d new whole (rewrite_starts s d f hd low) s.pages (omega (arith, g.pages_are)) in
    record {
      two_blocks = f.two_blocks;
      good = (rewriting s d row g hd).leaves.good;
      floors = λ r hr.
          ap (λ (x : Block). x.floor) (all.written.elsewhere (s.plan.data + r) (omega arith) ∙ cleared_elsewhere s.card d (s.plan.data + r) (omega arith))
          ∙ retired_floors s.card s.plan.data s.plan.region s.table _ g.rows f.floors r hr;
      sound = all.written.sound;
    }

-- ---- a page into the region

store_can :
    (s : State) (r n : ℕ) → Firm s → OpenIn s r → n ≡ s.card.shape.size →
    CanProgram s.card (s.plan.data + r) (length (get_or s.table r [])) n
store_can s r n f o e =
    let g = f.good in
    record {
      block = omega (arith, g.inside, o.inside);
      page = omega (arith, g.pages_are, o.room);
      bytes = e;
      above = omega (arith, f.floors r o.inside);
    }

-- the next page of an open block may be programmed
pub store_programs :
    (s : State) (r n : ℕ) → Firm s → OpenIn s r → n ≡ s.card.shape.size →
    program_refusal s.card (s.plan.data + r) (length (get_or s.table r [])) n ≡ None
store_programs s r n f o e = program_accepted s.card (s.plan.data + r) (length (get_or s.table r [])) n (store_can s r n f o e)

pub firm_stored :
    (s : State) (d i : ℕ) (x : List ℕ) (r : ℕ) → Firm s → OpenIn s r → d < s.plan.data → i < s.pages →
    length x ≡ s.card.shape.size → Firm (stored_at s d i x (Some r))
firm_stored s d i x r f o hd hi e =
    let g = f.good in
    let l = s.plan.data in
    let xs = get_or s.table r [] in
    let ys = xs ++ (live d i ∷ []) in
    let can = store_can s r (length x) f o e in
    record {
      two_blocks = f.two_blocks;
      good = (storing s d i x r g hd hi o).leaves.good;
      floors = λ k hk.
          elim (cases_eq k r) [
            | inl q ↦
                let up : floor_at (programmed s.card (l + r) (length xs) x) (l + k) ≡ length xs + 1 =
                ap (λ (m : ℕ). floor_at (programmed s.card (l + r) (length xs) x) (l + m)) q ∙ programmed_floor s.card (l + r) (length xs) x can.block in
                let here : length (get_or (set s.table r ys) k []) ≡ length ys =
                ap (λ (m : ℕ). length (get_or (set s.table r ys) m [])) q
                ∙ ap length (get_or-set_same s.table r ys [] (omega (arith, g.rows, o.inside))) in
                omega (arith, length_push xs (live d i))
            | inr ne ↦
                programmed_floor_elsewhere s.card (l + r) (length xs) x (l + k) (omega arith) ∙ f.floors k hk
                ∙ sym (ap length (get_or-set_other s.table r k ys [] ne))
          ];
      sound = programmed_sound s.card (l + r) (length xs) x can f.sound;
    }
