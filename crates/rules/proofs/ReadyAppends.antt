-- The pages of a group that go to the region: each finds an open block and is accepted, and the state is ready once all are appended.
use Rattle.std.proofs.Common.{◌≡◌, ℕ, suc, ◌+◌, ◌*◌, ◌^◌, ◌<◌, ◌≤◌, Bool, true, false, cond, List, length, drop, Some, sym, refl, ap, ◌∙◌, inl, inr, mul-le-mul_right, add-mul, arith}
use Rattle.std.proofs.lemmas.List.{length-take-le, length-drop}
use Rattle.std.proofs.lemmas.Bool.{cases_lt, both_ways}
use Rattle.flash.specs.Meaning.{Shape}
use Rattle.rules.specs.declared.plan.Plan.{Plan}
use Rattle.rules.specs.Sets.{has, pages_in}
use Rattle.rules.specs.State.{State, free_of, places}
use Rattle.rules.specs.Moves.{dropped, appended}
use Rattle.rules.specs.Calls.{row_at, row_of}
use Rattle.rules.specs.Ready.{Ready}
use Rattle.rules.proofs.SetLaws.{has_high, pages_more}
use Rattle.rules.proofs.Counts.{all_slots}
use Rattle.rules.proofs.Rounds.{Taken, dropping}
use Rattle.rules.proofs.OpenBlock.{OpenIn, open_some}
use Rattle.rules.proofs.Space.{capacity_same}
use Rattle.rules.proofs.Appending.{page_of, appended_rule}
use Rattle.rules.proofs.ReadyCards.{Sized}
use Rattle.rules.proofs.ReadyFirm.{Firm, firm_dropped, firm_stored}
use Rattle.rules.proofs.ReadyOnce.{Once, places_dropped, places_stored, one_at_other, once_stored}
use Rattle.rules.proofs.ReadyMoves.{ready_good, ready_firm, ready_once, ready_dropped, firm_ready}

-- ---- the bytes of a group

-- each page of a group is as long as a page
pub page_whole :
    (size g n : ℕ) (bytes : List ℕ) (i : ℕ) → length bytes ≡ pages_in n g * size → i < n → has g i ≡ true →
    length (page_of size g bytes i) ≡ size
unfolding pages_in
page_whole size g n bytes i e h q =
    let one : ◌≡◌ {A = ℕ} (cond (has g i) 1 0) 1 = ap (λ (b : Bool). cond b 1 0) q in
    let up : pages_in i g + 1 ≤ pages_in n g = omega (arith, pages_more g (suc i) n (omega arith)) in
    let fits : (pages_in i g + 1) * size ≤ pages_in n g * size = mul-le-mul_right size up in
    length-take-le size (drop (pages_in i g * size) bytes)
    (omega (arith, add-mul (pages_in i g) 1 size, length-drop (pages_in i g * size) bytes))

pub row_sized :
    (size g n : ℕ) (bytes : List ℕ) → g < 2 ^ n → length bytes ≡ pages_in n g * size → Sized size (row_of size g bytes)
unfolding row_of
row_sized size g n bytes fits e i x q = go (has g i) refl q
  where
    go : (b : Bool) → has g i ≡ b → row_at size g bytes i b ≡ Some x → length x ≡ size
    go false h f = absurd (let z : ◌≡◌ {A = ℕ} 0 1 = cc in omega arith)
    go true h f =
        let z : page_of size g bytes i ≡ x = cc in
        let below : i < n =
        elim (cases_lt i n) [ inl l ↦ l | inr l ↦ absurd (both_ways (has g i) (has_high n g i fits l) h) ] in
        ap length (sym z) ∙ page_whole size g n bytes i e below h

-- ---- one page after the other

-- what holds with the pages below n of a group appended to the state s: for the next page of the group a block is open
pub record Appends (s : State) (g n : ℕ) (t : State) : Type 0 where
  pub firm : Firm t
  pub taken : Taken (pages_in n g) s t
  pub opens : has g n ≡ true → n < s.pages → (r : ℕ) × OpenIn t r

-- with the pages below n of a group appended to s, the next one can be stored
pub record NextPage (s : State) (d g n : ℕ) (t : State) : Type 0 where
  pub ready : Ready t
  pub opens : has g n ≡ true → n < s.pages → (r : ℕ) × OpenIn t r
  pub absent : has g n ≡ true → places t d n ≡ 0
  pub plan_same : t.plan ≡ s.plan
  pub pages_same : t.pages ≡ s.pages
  pub shape_same : t.card.shape ≡ s.card.shape

module _ (s : State) (d g : ℕ) (bytes : List ℕ) (hd : d < s.plan.data)
    (len : length bytes ≡ pages_in s.pages g * s.card.shape.size) (room : pages_in s.pages g ≤ free_of s) where
  pub appends :
      Firm s → (n : ℕ) → n ≤ s.pages → Appends s g n (appended s d (row_of s.card.shape.size g bytes) n)
  unfolding pages_in
  appends f n h =
      let size = s.card.shape.size in
      let t = appended s d (row_of size g bytes) n in
      let r =
      appended_rule s d size g bytes (λ _. Firm) f.good hd f (λ m k q p. p)
      (λ m k r q l taken o p.
      let m₀ = taken.leaves in
      let plan : k.plan.data ≡ s.plan.data = ap (λ (x : Plan). x.data) m₀.plan_same in
      let shape : k.card.shape.size ≡ size = ap (λ (x : Shape). x.size) m₀.card_alike.shape_same in
      firm_stored k d m (page_of size g bytes m) r p o (omega arith) (omega (arith, m₀.pages_same))
      (page_whole size g s.pages bytes m len l q ∙ sym shape))
      n h (omega (arith, pages_more g n s.pages h)) in
      let k = r.0 in
      record {
        firm = r.1;
        taken = k;
        opens = λ q l.
            let one : ◌≡◌ {A = ℕ} (cond (has g n) 1 0) 1 = ap (λ (b : Bool). cond b 1 0) q in
            let up = pages_more g (suc n) s.pages (omega arith) in
            open_some t k.leaves.good
            (omega (arith, capacity_same s t k.leaves, k.slots, all_slots s.table, all_slots t.table));
      }

  -- none of the group's pages was named before, so each is named once, and the next ones not yet
  named_appended :
      Firm s → Once s → ((j : ℕ) → has g j ≡ true → places s d j ≡ 0) → (n : ℕ) → n ≤ s.pages →
      Once (appended s d (row_of s.card.shape.size g bytes) n)
      × ((j : ℕ) → n ≤ j → has g j ≡ true → places (appended s d (row_of s.card.shape.size g bytes) n) d j ≡ 0)
  named_appended f o none n h =
      let size = s.card.shape.size in
      (appended_rule s d size g bytes
      (λ m t. Once t × ((j : ℕ) → m ≤ j → has g j ≡ true → places t d j ≡ 0)) f.good hd
      (o, λ j _ q. none j q)
      (λ m t q p. (p.0, λ j l e. p.1 j (omega arith) e))
      (λ m t r q l taken open' p. (
        once_stored t d m (page_of size g bytes m) r taken.leaves.good open' (p.1 m (omega arith) q) p.0,
        λ j k e.
            omega (
              arith,
              p.1 j (omega arith) e,
              places_stored t d m (page_of size g bytes m) r taken.leaves.good open' d j,
              one_at_other d j d m (λ same. omega (arith, same.1)),
            ),
      ))
      n h (omega (arith, pages_more g n s.pages h))).1

  -- so the next page can be stored
  pub next_appends :
      Ready s → ((j : ℕ) → has g j ≡ true → places s d j ≡ 0) → (n : ℕ) → n ≤ s.pages →
      NextPage s d g n (appended s d (row_of s.card.shape.size g bytes) n)
  next_appends r none n h =
      let a = appends (ready_firm s r) n h in
      let m = a.taken.leaves in
      let named = named_appended (ready_firm s r) (ready_once s r) none n h in
      record {
        ready = firm_ready (appended s d (row_of s.card.shape.size g bytes) n) a.firm named.0;
        opens = a.opens;
        absent = λ q. named.1 n (omega arith) q;
        plan_same = m.plan_same;
        pages_same = m.pages_same;
        shape_same = m.card_alike.shape_same;
      }

-- ---- a group whose older copies are dead

-- as many slots are free as before they died
pub free_dropped : (s : State) (d : ℕ) (picks : ℕ → Bool) → Ready s → free_of (dropped s d picks) ≡ free_of s
free_dropped s d picks r =
    let t = dropped s d picks in
    let k = dropping s d picks (ready_good s r) in
    omega (arith, capacity_same s t k.leaves, k.slots, all_slots s.table, all_slots t.table)

module _ (s : State) (d g : ℕ) (bytes : List ℕ) (r : Ready s) (hd : d < s.plan.data)
    (len : length bytes ≡ pages_in s.pages g * s.card.shape.size) (room : pages_in s.pages g ≤ free_of s) where
  pub appends_dropped :
      (n : ℕ) → n ≤ s.pages →
      Appends (dropped s d (has g)) g n (appended (dropped s d (has g)) d (row_of s.card.shape.size g bytes) n)
  unfolding dropped
  appends_dropped n h =
      appends (dropped s d (has g)) d g bytes hd len (omega (arith, free_dropped s d (has g) r)) (firm_dropped s d (has g) (ready_firm s r)) n h

  pub ready_appended : (n : ℕ) → n ≤ s.pages → Ready (appended (dropped s d (has g)) d (row_of s.card.shape.size g bytes) n)
  unfolding dropped
  ready_appended n h =
      (next_appends (dropped s d (has g)) d g bytes hd len (omega (arith, free_dropped s d (has g) r)) (ready_dropped s d (has g) r)
      (λ j q. places_dropped s d (has g) j (ready_good s r) hd q) n h).ready
