-- What a write to the tables is to the state, and slots that die in every row.
use Rattle.std.proofs.Common.{◌≡◌, ℕ, ◌+◌, ◌≤◌, Bool, true, false, cond, List, [], map, get_or, set, ap, ◌∙◌, arith}
use Rattle.std.specs.List.{All}
use Rattle.std.proofs.lemmas.List.{length-map, get_or-map}
use Rattle.std.proofs.lemmas.List.Elements.{All-map, All-weaker}
use Rattle.flash.specs.Meaning.{Card}
use Rattle.rules.specs.declared.plan.Plan.{Plan}
use Rattle.rules.specs.declared.pages.PageSet.{PageSet}
use Rattle.rules.specs.State.{State, Slot}
use Rattle.rules.specs.Moves.{retire, retired}
use Rattle.rules.specs.Ready.{Filed, Orderly}
use Rattle.rules.proofs.OrderlyLaws.{in_set}
use Rattle.rules.proofs.Places.{named_in, named_retired}
use Rattle.rules.proofs.Slots.{filed_retire}
use Rattle.store.specs.declared.slot.RegionBlock.{RegionBlock}
use Rattle.store.specs.Changes.{with_maps}
use Rattle.store.specs.View.{slots_of, state_with}
use Rattle.store.proofs.TableLaws.{table_set, sets_set}

-- the state with another row, and with another set
abbrev pub with_row : State → ℕ → List Slot → State
with_row s r xs = with_maps s s.sets (set s.table r xs) s.reserve

abbrev pub with_set : State → ℕ → ℕ → State
with_set s d g = with_maps s (set s.sets d g) s.table s.reserve

module _ (p : Plan) (n : ℕ) (sets : List PageSet) (t : List RegionBlock) (res : ℕ) (c : Card) where
  pub state_row : (r : ℕ) (b : RegionBlock) → state_with p n sets (set t r b) res c ≡ with_row (state_with p n sets t res c) r (slots_of b)
  state_row r b = ap (λ (x : List (List Slot)). with_maps (state_with p n sets t res c) (state_with p n sets t res c).sets x res) (table_set p t r b)

  pub state_set : (d : ℕ) (s : PageSet) → state_with p n (set sets d s) t res c ≡ with_set (state_with p n sets t res c) d s.0
  state_set d s = ap (λ (x : List ℕ). with_maps (state_with p n sets t res c) x (state_with p n sets t res c).table res) (sets_set p sets d s)

-- ---- every row dies in part

-- maps in which slots die, as a test picks them, stay orderly
module _ (p : Plan) (n : ℕ) (sets : List ℕ) (t : List (List Slot)) (res : ℕ) (picks : ℕ → ℕ → Bool) (o : Orderly p n sets t res) where
  filed_retired : (u : List (List Slot)) → All (Filed p.data n) u → All (Filed p.data n) (retired picks u)
  filed_retired u h =
      All-map (Filed p.data n) (map (retire picks)) u
      (All-weaker (Filed p.data n) (λ xs. Filed p.data n (map (retire picks) xs)) (filed_retire p.data n picks) u h)

  fewer : (d i m : ℕ) (b : Bool) → named_in d i (retired picks t) ≡ cond b 0 (named_in d i t) → m + named_in d i t ≤ 1 → m + named_in d i (retired picks t) ≤ 1
  fewer d i m true e h = omega arith
  fewer d i m false e h = omega arith

  pub orderly_retired : Orderly p n sets (retired picks t) res
  orderly_retired =
      record {
        sets_are = o.sets_are;
        sets_fit = o.sets_fit;
        rows = length-map t (map (retire picks)) ∙ o.rows;
        filed = filed_retired t o.filed;
        reserve_in = o.reserve_in;
        reserve_empty =
            get_or-map (map (retire picks)) t res [] [] (omega (arith, o.reserve_in, o.rows)) ∙ ap (map (retire picks)) o.reserve_empty;
        once = λ d i. fewer d i (in_set (get_or sets d 0) i) (picks d i) (named_retired d i picks t) (o.once d i);
      }
