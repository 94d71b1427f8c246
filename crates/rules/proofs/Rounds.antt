-- What one move does: the state stays good, the erase counts rise by just what is told, and no slot is lost but those that a compaction recovers.
use Rattle.std.proofs.Common.{◌≡◌, ℕ, ◌+◌, ◌*◌, ◌^◌, ◌<◌, ◌≤◌, Bool, not, ◌&&◌, List, [], map, length, get_or, set, is_some, sym, refl, ap, ◌∙◌, subst, mul_comm, add-mul, arith}
use Rattle.std.specs.List.{All}
use Rattle.std.proofs.lemmas.List.{length-set, length-map, get_or-set_same, get_or-map}
use Rattle.std.proofs.lemmas.List.Elements.{All-set, All-map, All-get_or, All-weaker}
use Rattle.flash.specs.Meaning.{Card, Shape, block_count, erased}
use Rattle.rules.specs.Sets.{has, set_of}
use Rattle.rules.specs.State.{Slot, State, deads, live_of, dead_of, share_of}
use Rattle.rules.specs.Moves.{Row, retire, retired, of_block, among, dropped, kept, copied, compacted_at, filled, gathered, cleared, clearing, rewritten, or_zero, victim, fullest, no_row}
use Rattle.rules.specs.Ready.{Filed}
use Rattle.rules.proofs.SetLaws.{set_of_below}
use Rattle.rules.proofs.Slots.{filed_none, filed_kept, filed_retire}
use Rattle.rules.proofs.Counts.{all_slots, merge_live, retired_live, retired_slots, Share, share, Freed, freed}
use Rattle.rules.proofs.CardCounts.{Alike, alike_refl, alike_then, alike_erased, alike_filled, alike_copied, alike_cleared}

-- what every state of a formatted store has, whatever its pages hold
pub record Good (s : State) : Type 0 where
  pub some_data : 0 < s.plan.data
  pub inside : s.plan.data + s.plan.region ≤ block_count s.card
  pub pages_are : s.pages ≡ s.card.shape.pages
  pub sets_are : length s.sets ≡ s.plan.data
  pub sets_fit : All (λ g. g < 2 ^ s.pages) s.sets
  pub rows : length s.table ≡ s.plan.region
  pub reserve_in : s.reserve < s.plan.region
  pub reserve_empty : get_or s.table s.reserve [] ≡ []
  pub filed : All (Filed s.plan.data s.pages) s.table

-- what a move leaves, with e erases
pub record Moved (e : ℕ) (s t : State) : Type 0 where
  pub plan_same : t.plan ≡ s.plan
  pub pages_same : t.pages ≡ s.pages
  pub card_alike : Alike e s.card t.card
  pub good : Good t

pub moved_none : (s : State) → Good s → Moved 0 s s
moved_none s g = record { plan_same = refl; pages_same = refl; card_alike = alike_refl s.card; good = g }

pub moved_then : (e f : ℕ) (a b c : State) → Moved e a b → Moved f b c → Moved (e + f) a c
moved_then e f a b c p q =
    record {
      plan_same = q.plan_same ∙ p.plan_same;
      pages_same = q.pages_same ∙ p.pages_same;
      card_alike = alike_then e f a.card b.card c.card p.card_alike q.card_alike;
      good = q.good;
    }

-- a move that erases nothing, after which n slots more are in use and at most n more are live
pub record Taken (n : ℕ) (s t : State) : Type 0 where
  pub leaves : Moved 0 s t
  pub slots : live_of t + dead_of t ≡ live_of s + dead_of s + n
  pub live_le : live_of t ≤ live_of s + n

pub taken_none : (s : State) → Good s → Taken 0 s s
taken_none s g = record { leaves = moved_none s g; slots = omega arith; live_le = omega arith }

pub taken_then : (m n : ℕ) (a b c : State) → Taken m a b → Taken n b c → Taken (m + n) a c
taken_then m n a b c p q =
    record {
      leaves = moved_then 0 0 a b c p.leaves q.leaves;
      slots = omega (arith, p.slots, q.slots);
      live_le = omega (arith, p.live_le, q.live_le);
    }

-- ---- slots die, and one data block has another set

abbrev pub marked : State → Card → ℕ → ℕ → (ℕ → ℕ → Bool) → State
marked s c d g picks =
    record {
      plan = s.plan;
      pages = s.pages;
      card = c;
      sets = set s.sets d g;
      table = retired picks s.table;
      reserve = s.reserve;
    }

marked_moved :
    (e : ℕ) (s : State) (c : Card) (d g : ℕ) (picks : ℕ → ℕ → Bool) → Good s → Alike e s.card c → g < 2 ^ s.pages →
    Moved e s (marked s c d g picks)
marked_moved e s c d g picks h a fits =
    let l = s.plan.data in
    record {
      plan_same = refl;
      pages_same = refl;
      card_alike = a;
      good =
          record {
            some_data = h.some_data;
            inside = omega (arith, a.blocks_same, h.inside);
            pages_are = h.pages_are ∙ ap (λ (x : Shape). x.pages) (sym a.shape_same);
            sets_are = length-set s.sets d g ∙ h.sets_are;
            sets_fit = All-set (λ n. n < 2 ^ s.pages) s.sets d g fits h.sets_fit;
            rows = length-map s.table (map (retire picks)) ∙ h.rows;
            reserve_in = h.reserve_in;
            reserve_empty =
                get_or-map (map (retire picks)) s.table s.reserve [] [] (omega (arith, h.rows, h.reserve_in))
                ∙ ap (map (retire picks)) h.reserve_empty;
            filed =
                All-map (Filed l s.pages) (map (retire picks)) s.table
                (All-weaker (Filed l s.pages) (λ xs. Filed l s.pages (map (retire picks) xs)) (filed_retire l s.pages picks) s.table h.filed);
          };
    }

-- as many slots are live or dead as before
marked_slots :
    (s : State) (c : Card) (d g : ℕ) (picks : ℕ → ℕ → Bool) →
    live_of (marked s c d g picks) + dead_of (marked s c d g picks) ≡ live_of s + dead_of s
marked_slots s c d g picks =
    omega (arith, all_slots s.table, all_slots (retired picks s.table), retired_slots picks s.table)

-- ---- pages that are held no more

pub dropping : (s : State) (d : ℕ) (picks : ℕ → Bool) → Good s → Taken 0 s (dropped s d picks)
unfolding dropped
dropping s d picks h =
    let g = set_of s.pages (λ i. has (get_or s.sets d 0) i && not (picks i)) in
    record {
      leaves = marked_moved 0 s s.card d g (among d picks) h (alike_refl s.card) (set_of_below s.pages _);
      slots = omega (arith, marked_slots s s.card d g (among d picks));
      live_le = omega (arith, retired_live (among d picks) s.table);
    }

-- ---- a data block written anew: by a large group, or by a merge

pub record Rewriting (s : State) (d : ℕ) (t : State) : Type 0 where
  pub leaves : Moved (clearing s.card d) s t
  pub slots : live_of t + dead_of t ≡ live_of s + dead_of s
  pub live_less : live_of t + share_of s.table d ≡ live_of s

pub rewriting : (s : State) (d : ℕ) (row : Row) → Good s → d < s.plan.data → Rewriting s d (rewritten s d row)
unfolding rewritten
rewriting s d row h lt =
    let c = cleared s.card d in
    let new = gathered s d row in
    let k = filled c d new s.pages in
    let g = set_of s.pages (λ i. is_some (new i)) in
    let e = clearing s.card d in
    let a = alike_cleared s.card d (omega (arith, h.inside)) in
    let b = alike_then e 0 s.card c k a (alike_filled c d new s.pages) in
    record {
      leaves = marked_moved e s k d g (of_block d) h (subst (λ (n : ℕ). Alike n s.card k) (omega arith) b) (set_of_below s.pages _);
      slots = marked_slots s k d g (of_block d);
      live_less = merge_live d s.table;
    }

-- a merge of the fullest block: its share of the live slots dies
pub record Merge (s : State) (d : ℕ) (t : State) : Type 0 where
  pub inside : d < s.plan.data
  pub leaves : Moved (clearing s.card d) s t
  pub slots : live_of t + dead_of t ≡ live_of s + dead_of s
  pub share : live_of t * s.plan.data + live_of s ≤ live_of s * s.plan.data

product : (k p l n : ℕ) → k + p ≡ n → n ≤ l * p → k * l + n ≤ n * l
product k p l n e h =
    let a : (k + p) * l ≡ k * l + p * l = add-mul k p l in
    let b : n * l ≡ k * l + p * l = subst (λ (x : ℕ). x * l ≡ k * l + p * l) e a in
    let c : p * l ≡ l * p = mul_comm p l in
    omega arith

merge_at : (s : State) → Good s → (d : ℕ) → Share s.plan.data s.table d → Merge s d (rewritten s d no_row)
merge_at s g d h =
    let t = rewritten s d no_row in
    let r = rewriting s d no_row g h.inside in
    record {
      inside = h.inside;
      leaves = r.leaves;
      slots = r.slots;
      share = product (live_of t) (share_of s.table d) s.plan.data (live_of s) r.live_less h.share;
    }

pub merging : (s : State) → Good s → Merge s (fullest s) (rewritten s (fullest s) no_row)
merging s g =
    let r = share s.plan.data s.pages s.table g.some_data g.filed in
    subst (λ (d : ℕ). Merge s d (rewritten s d no_row)) (sym (ap or_zero r.1.chosen)) (merge_at s g r.0 r.1)

-- ---- compaction

-- any block of the region but the reserve
pub compacted_moved : (s : State) (v : ℕ) → Good s → v < s.plan.region → Moved 1 s (compacted_at s v)
unfolding compacted_at
compacted_moved s v g h =
    let l = s.plan.data in
    let xs = get_or s.table v [] in
    let from = l + v in
    let c = copied from (l + s.reserve) xs 0 0 s.card in
    let a = alike_copied from (l + s.reserve) xs 0 0 s.card in
    let lt : from < block_count c = omega (arith, a.blocks_same, g.inside) in
    let b = alike_then 0 1 s.card c (erased c from) a (alike_erased c from lt) in
    let t₁ = set s.table s.reserve (kept xs) in
    let n₁ : length t₁ ≡ length s.table = length-set s.table s.reserve (kept xs) in
    let lv : v < length s.table = omega (arith, g.rows) in
    let F : List Slot → Type 0 = Filed l s.pages in
    record {
      plan_same = refl;
      pages_same = refl;
      card_alike = b;
      good =
          record {
            some_data = g.some_data;
            inside = omega (arith, b.blocks_same, g.inside);
            pages_are = g.pages_are ∙ ap (λ (x : Shape). x.pages) (sym b.shape_same);
            sets_are = g.sets_are;
            sets_fit = g.sets_fit;
            rows = length-set t₁ v [] ∙ n₁ ∙ g.rows;
            reserve_in = h;
            reserve_empty = get_or-set_same t₁ v [] [] (omega (arith, n₁));
            filed =
                All-set F t₁ v [] (filed_none l s.pages)
                (All-set F s.table s.reserve (kept xs) (filed_kept l s.pages xs (All-get_or F s.table v [] lv g.filed)) g.filed);
          };
    }

pub record Compaction (s : State) (v : ℕ) (t : State) : Type 0 where
  pub freed : Freed s.table s.reserve v
  pub leaves : Moved 1 s t
  pub live_same : live_of t ≡ live_of s
  pub recovered : dead_of t + deads (get_or s.table v []) ≡ dead_of s

pub compacting_at : (s : State) → Good s → (v : ℕ) → Freed s.table s.reserve v → Compaction s v (compacted_at s v)
unfolding compacted_at
compacting_at s g v f =
    record {
      freed = f;
      leaves = compacted_moved s v g (omega (arith, g.rows, f.inside));
      live_same = f.live_same;
      recovered = f.dead_less;
    }

pub compacting : (s : State) → Good s → 0 < dead_of s → Compaction s (victim s) (compacted_at s (victim s))
compacting s g h =
    let r = freed s.table s.reserve (omega (arith, g.rows, g.reserve_in)) g.reserve_empty h in
    subst (λ (v : ℕ). Compaction s v (compacted_at s v)) (sym (ap or_zero r.1.chosen)) (compacting_at s g r.0 r.1)
