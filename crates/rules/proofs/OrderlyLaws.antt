-- Maps that name only pages of the plan, and each at most once, stay so where a row or a set changes, and have room for their slots.
-- And such a fact can be taken out of its truncation.
use Rattle.std.proofs.Common.{◌≡◌, ℕ, ◌+◌, ◌-◌, ◌^◌, ◌<◌, ◌≤◌, false, cond, List, [], length, get_or, set, replicate, sum_by, count_by, sym, refl, ap, ◌∙◌, subst, inl, inr, arith}
use mathlib.Core.Logic.{∥∥₁_elim}
use denote.Struct.Props.{props}
use std.HLevel.{Π_prop}
use native.Mathlib.Bridge.{le_prop}
use Rattle.std.specs.List.{All}
use Rattle.std.proofs.lemmas.List.{length-set, get_or-set_same, get_or-set_other, set_past, length-replicate, get_or-replicate, get_or_past, nil_from_length}
use Rattle.std.proofs.lemmas.List.Elements.{All-set, All-from_get_or}
use Rattle.std.proofs.lemmas.List.Sums.{sum_by-set}
use Rattle.std.proofs.lemmas.Bool.{cases_Bool, cases_eq, cases_lt}
use Rattle.flash.specs.Meaning.{Card, absent}
use Rattle.rules.specs.declared.plan.Plan.{Plan}
use Rattle.rules.specs.Sets.{has}
use Rattle.rules.specs.State.{Slot, live, dead, State, capacity, is_at}
use Rattle.rules.specs.Ready.{Within, Filed, Orderly}
use Rattle.rules.proofs.SetLaws.{has_none, set_of_below}
use Rattle.rules.proofs.Slots.{filed_none}
use Rattle.rules.proofs.Sums.{sum_replicate_zero}
use Rattle.rules.proofs.Rounds.{Good}
use Rattle.rules.proofs.Space.{used_le}
use Rattle.rules.proofs.Places.{one_at, named_in}

-- a set counts page i once if it has it
abbrev pub in_set : ℕ → ℕ → ℕ
in_set g i = cond (has g i) 1 0

pub in_set_le : (g i : ℕ) → in_set g i ≤ 1
in_set_le g i = elim (cases_Bool (has g i)) [ inl e ↦ rw e (omega arith) | inr e ↦ rw e (omega arith) ]

-- how many slots of a block name page i of block d
abbrev pub named_by : ℕ → ℕ → List Slot → ℕ
named_by d i xs = count_by (is_at d i) xs

-- ---- one row changes

-- a row of the same length, whose slots name no page more often than before
pub record Lesser (l n : ℕ) (was is : List Slot) : Type 0 where
  pub filed : Filed l n is
  pub same : length is ≡ length was
  pub fewer : (d i : ℕ) → named_by d i is ≤ named_by d i was

pub orderly_row :
    (p : Plan) (n : ℕ) (sets : List ℕ) (t : List (List Slot)) (res r : ℕ) (xs : List Slot) → r < length t →
    Lesser p.data n (get_or t r []) xs → Orderly p n sets t res → Orderly p n sets (set t r xs) res
orderly_row p n sets t res r xs h k o =
    record {
      sets_are = o.sets_are;
      sets_fit = o.sets_fit;
      rows = length-set t r xs ∙ o.rows;
      filed = All-set (Filed p.data n) t r xs k.filed o.filed;
      reserve_in = o.reserve_in;
      reserve_empty =
          elim (cases_eq res r) [
            | inl e ↦
                ap (λ (m : ℕ). get_or (set t r xs) m []) e
                ∙ get_or-set_same t r xs [] h
                ∙ nil_from_length xs (k.same ∙ ap (λ (m : ℕ). length (get_or t m [])) (sym e) ∙ ap length o.reserve_empty)
            | inr ne ↦ get_or-set_other t r res xs [] ne ∙ o.reserve_empty
          ];
      once = λ d i. omega (arith, o.once d i, k.fewer d i, sum_by-set (count_by (is_at d i)) t r xs [] h);
    }

-- one slot that dies
pub lesser_marked : (l n : ℕ) (xs : List Slot) (k : ℕ) → Filed l n xs → k < length xs → Lesser l n xs (set xs k dead)
unfolding is_at
lesser_marked l n xs k f h =
    record {
      filed = record { within = All-set (Within l n) xs k dead tt f.within; short = omega (arith, length-set xs k dead, f.short) };
      same = length-set xs k dead;
      fewer = λ d i. omega (arith, sum_by-set (one_at d i) xs k dead dead h);
    }

-- ---- one set changes

-- a set of pages of the plan, of which no slot names one
pub orderly_set :
    (p : Plan) (n : ℕ) (sets : List ℕ) (t : List (List Slot)) (res d g : ℕ) → g < 2 ^ n →
    ((i : ℕ) → in_set g i + named_in d i t ≤ 1) → Orderly p n sets t res → Orderly p n (set sets d g) t res
orderly_set p n sets t res d g h k o =
    record {
      sets_are = length-set sets d g ∙ o.sets_are;
      sets_fit = All-set (λ x. x < 2 ^ n) sets d g h o.sets_fit;
      rows = o.rows;
      filed = o.filed;
      reserve_in = o.reserve_in;
      reserve_empty = o.reserve_empty;
      once = once;
    }
  where
    same : (e i : ℕ) → get_or (set sets d g) e 0 ≡ get_or sets e 0 → in_set (get_or (set sets d g) e 0) i + named_in e i t ≤ 1
    same e i q = rw q (o.once e i)

    once : (e i : ℕ) → in_set (get_or (set sets d g) e 0) i + named_in e i t ≤ 1
    once e i =
        elim (cases_eq e d) [
          | inl q ↦
              elim (cases_lt d (length sets)) [
                | inl l ↦
                    subst (λ (m : ℕ). in_set (get_or (set sets d g) m 0) i + named_in m i t ≤ 1) (sym q)
                    (rw (get_or-set_same sets d g 0 l) (k i))
                | inr l ↦ same e i (ap (λ (xs : List ℕ). get_or xs e 0) (set_past sets d g l))
              ]
          | inr ne ↦ same e i (get_or-set_other sets d e g 0 ne)
        ]

-- ---- over any card on which the plan fits

-- such a card
roomy : Plan → ℕ → Card
roomy p n = record { shape = record { pages = n; size = 0; endurance = 0 }; blocks = replicate (p.data + p.region) absent }

-- the state with these maps over it
over : Plan → ℕ → List ℕ → List (List Slot) → ℕ → State
over p n sets t res = record { plan = p; pages = n; card = roomy p n; sets = sets; table = t; reserve = res }

module _ (p : Plan) (n : ℕ) (sets : List ℕ) (t : List (List Slot)) (res : ℕ) (some : 1 ≤ p.data) (o : Orderly p n sets t res) where
  orderly_good : Good (over p n sets t res)
  unfolding over roomy
  orderly_good =
      record {
        some_data = omega arith;
        inside = omega (arith, length-replicate (p.data + p.region) absent);
        pages_are = refl;
        sets_are = o.sets_are;
        sets_fit = o.sets_fit;
        rows = o.rows;
        reserve_in = o.reserve_in;
        reserve_empty = o.reserve_empty;
        filed = o.filed;
      }

  -- no more slots are in use than there are
  pub orderly_used : sum_by length t ≤ capacity p n
  unfolding over
  orderly_used = used_le (over p n sets t res) orderly_good

-- ---- maps without pages

pub orderly_empty : (p : Plan) (n : ℕ) → 2 ≤ p.region → Orderly p n (replicate p.data 0) (replicate p.region []) (p.region - 1)
orderly_empty p n h =
    record {
      sets_are = length-replicate p.data 0;
      sets_fit =
          All-from_get_or (λ g. g < 2 ^ n) (replicate p.data 0) 0 (λ i _. rw (no_set i) (omega (arith, set_of_below n (λ _. false))));
      rows = length-replicate p.region [];
      filed =
          All-from_get_or (Filed p.data n) (replicate p.region []) []
          (λ i l. rw (get_or-replicate {A = List Slot} p.region i [] [] (rw length-replicate at l)) (filed_none p.data n));
      reserve_in = omega arith;
      reserve_empty = get_or-replicate p.region (p.region - 1) [] [] (omega arith);
      once = λ d i.
          let a : in_set (get_or (replicate p.data 0) d 0) i ≡ 0 = rw (no_set d, has_none i) refl in
          omega (arith, a, sum_replicate_zero (count_by (is_at d i)) [] refl p.region);
    }
  where
    no_set : (d : ℕ) → get_or {A = ℕ} (replicate p.data 0) d 0 ≡ 0
    no_set d =
        elim (cases_lt d p.data) [
          | inl l ↦ get_or-replicate p.data d 0 0 l
          | inr l ↦ get_or_past (replicate p.data 0) d 0 (rw length-replicate l)
        ]

-- ---- out of the truncation

pub all_prop : {X : Type 0} (P : X → Type 0) → ((x : X) → IsProp (P x)) → (xs : List X) → IsProp (All P xs)
all_prop P e xs = Π_prop (λ k. Π_prop (λ d. Π_prop (λ _. e (get_or xs k d))))

within_prop : (l n : ℕ) (x : Slot) → IsProp (Within l n x)
within_prop l n (live d i) a b = λ j. (le_prop a.0 b.0 j, le_prop a.1 b.1 j)
within_prop l n dead a b = refl

filed_prop : (l n : ℕ) (xs : List Slot) → IsProp (Filed l n xs)
filed_prop l n xs a b = λ i. record { within = all_prop (Within l n) (within_prop l n) xs a.within b.within i; short = le_prop a.short b.short i }

module _ (p : Plan) (n : ℕ) (sets : List ℕ) (t : List (List Slot)) (res : ℕ) where
  pub open_orderly : ∥ Orderly p n sets t res ∥₁ → Orderly p n sets t res
  open_orderly o =
      let same : (a b : ℕ) → IsProp (a ≡ b) = λ a b. hlevel props in
      let counts : IsProp ((d i : ℕ) → in_set (get_or sets d 0) i + named_in d i t ≤ 1) = Π_prop (λ d. Π_prop (λ i. le_prop)) in
      record {
        sets_are = ∥∥₁_elim o (same (length sets) p.data) (λ x. x.sets_are);
        sets_fit = ∥∥₁_elim o (all_prop (λ g. g < 2 ^ n) (λ g. le_prop) sets) (λ x. x.sets_fit);
        rows = ∥∥₁_elim o (same (length t) p.region) (λ x. x.rows);
        filed = ∥∥₁_elim o (all_prop (Filed p.data n) (filed_prop p.data n) t) (λ x. x.filed);
        reserve_in = ∥∥₁_elim o le_prop (λ x. x.reserve_in);
        reserve_empty = nil_from_length (get_or t res []) (∥∥₁_elim o (same (length (get_or t res [])) 0) (λ x. ap length x.reserve_empty));
        once = ∥∥₁_elim o counts (λ x. x.once);
      }
