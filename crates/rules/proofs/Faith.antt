-- The maps and the flash show the ledger: what that means of a state, and that reads then tell it.
use Rattle.std.proofs.Common.{◌≡◌, ℕ, ◌+◌, ◌<◌, Bool, true, false, cond, List, [], get_or, is_some, Some, None, Option, sym, refl, ap, ◌∙◌, subst, arith}
use mathlib.Core.Path.{fun_ext}
use Rattle.std.proofs.lemmas.Bool.Decides.{nat_tests}
use Rattle.flash.specs.Meaning.{page_at}
use Rattle.rules.specs.Sets.{has}
use Rattle.rules.specs.State.{State, place_for, held, places}
use Rattle.rules.specs.Calls.{Answer, done, read, read_number, gives}
use Rattle.rules.specs.Runs.{Ledger}
use Rattle.rules.specs.Law.{Unread, Reads, Shows}
use Rattle.rules.proofs.Rounds.{Good}
use Rattle.rules.proofs.CardPages.{Paged, Backed}
use Rattle.rules.proofs.Places.{place_found, place_none}
use Rattle.rules.proofs.Steps.{step_meant, step_refused}

abbrev pub one_if : Option (List ℕ) → ℕ
one_if None = 0
one_if (Some x) = 1

pub record Faith (led : Ledger) (s : State) : Type 0 where
  pub good : Good s
  pub paged : Paged s.pages s.card
  -- the ledger has only pages of the plan
  pub within : (d i : ℕ) (x : List ℕ) → led d i ≡ Some x → (d < s.plan.data) × (i < s.pages)
  -- the maps name one flash page for each page that the ledger has, and none for any other
  pub once : (d i : ℕ) → places s d i ≡ one_if (led d i)
  -- a slot of the page map has its bytes
  pub slots : (r : ℕ) → r < s.plan.region → Backed led s.card (s.plan.data + r) 0 (get_or s.table r [])
  -- and so has a page of the block map
  pub data_pages : (d i : ℕ) → has (get_or s.sets d 0) i ≡ true → led d i ≡ Some (page_at s.card d i)

-- a ledger with the same entries
pub faith_as : (led new : Ledger) (s : State) → ((d i : ℕ) → led d i ≡ new d i) → Faith led s → Faith new s
faith_as led new s h f = subst (λ (x : Ledger). Faith x s) (fun_ext (λ d. fun_ext (λ i. h d i))) f

-- ---- where a page is held

-- the place that is named, with the ledger's bytes
pub record Holds (led : Ledger) (s : State) (d i : ℕ) : Type 0 where
  pub way : ℕ
  pub block : ℕ
  pub page : ℕ
  pub found : held s d i ≡ Some (way, block, page)
  pub bytes : led d i ≡ Some (page_at s.card block page)

abbrev in_region : Option (ℕ × ℕ) → Option (ℕ × ℕ × ℕ)
in_region o = elim o [ Some p ↦ Some (1, p.0, p.1) | None ↦ None ]

abbrev held_from : ℕ → ℕ → Option (ℕ × ℕ) → Bool → Option (ℕ × ℕ × ℕ)
held_from d i o b = elim b [ true ↦ Some (2, d, i) | false ↦ in_region o ]

pub holds : (led : Ledger) (s : State) → Faith led s → (d i : ℕ) → 0 < places s d i → Holds led s d i
unfolding held places
holds led s f d i h = go (has (get_or s.sets d 0) i) refl
  where
    go : (b : Bool) → has (get_or s.sets d 0) i ≡ b → Holds led s d i
    go true q =
        record {
          way = 2;
          block = d;
          page = i;
          found = ap (held_from d i (place_for d i s.plan.data s.table)) q;
          bytes = f.data_pages d i q;
        }
    go false q =
        let z : ◌≡◌ {A = ℕ} (cond (has (get_or s.sets d 0) i) 1 0) 0 = rw q in
        let t =
        place_found led s.card d i s.plan.data s.table (omega arith)
        (λ r l. f.slots r (omega (arith, f.good.rows))) in
        record {
          way = 1;
          block = t.block;
          page = t.page;
          found = ap (held_from d i (place_for d i s.plan.data s.table)) q ∙ ap in_region t.found;
          bytes = t.bytes;
        }

pub holds_not : (s : State) (d i : ℕ) → places s d i ≡ 0 → held s d i ≡ None
unfolding held places
holds_not s d i h = go (has (get_or s.sets d 0) i) refl
  where
    go : (b : Bool) → has (get_or s.sets d 0) i ≡ b → held s d i ≡ None
    go true q =
        let z : ◌≡◌ {A = ℕ} (cond (has (get_or s.sets d 0) i) 1 0) 1 = rw q in
        absurd (omega arith)
    go false q =
        let z : ◌≡◌ {A = ℕ} (cond (has (get_or s.sets d 0) i) 1 0) 0 = rw q in
        ap (held_from d i (place_for d i s.plan.data s.table)) q ∙ ap in_region (place_none d i s.plan.data s.table (omega arith))

-- ---- what a read gives

unread : (s : State) (d i : ℕ) → held s d i ≡ None → Unread s d i
unfolding read_number
unread s d i h =
    let size = s.card.shape.size in
    let none : is_some (held s d i) ≡ false = ap is_some h in
    let positive : 0 < read_number s d i size = grind (arith, nat_tests) in
    record {
      number = read_number s d i size;
      is = ap (λ (x : Answer × State). x.0) (step_refused s (read d i size) (read_number s d i size) refl positive);
      of_plan = λ hd hi. grind (arith, nat_tests);
    }

reads :
    (s : State) (d i way block page : ℕ) (x : List ℕ) → d < s.plan.data → i < s.pages → held s d i ≡ Some (way, block, page) →
    page_at s.card block page ≡ x → Reads s d i x
unfolding read_number
reads s d i way block page x hd hi h e =
    let size = s.card.shape.size in
    let some : is_some (held s d i) ≡ true = ap is_some h in
    let none : read_number s d i size ≡ 0 = grind (arith, nat_tests) in
    record {
      way = way;
      block = block;
      page = page;
      names = h;
      holds = e;
      gives =
          ap (λ (r : Answer × State). r.0) (step_meant s (read d i size) none)
          ∙ ap (gives s.card) h
          ∙ ap (λ (y : List ℕ). done (record { way = way; erases = 0; compactions = 0; merges = 0; bytes = y })) e;
    }

pub same_bytes : {x y : List ℕ} → ◌≡◌ {A = Option (List ℕ)} (Some x) (Some y) → y ≡ x
same_bytes e = cc

-- each page, also one outside the plan, is shown as the ledger has it
pub shows : (led : Ledger) (s : State) → Faith led s → (d i : ℕ) → Shows s (led d i) d i
shows led s f d i = go (led d i) refl
  where
    go : (o : Option (List ℕ)) → led d i ≡ o → Shows s o d i
    go None e =
        let z : places s d i ≡ 0 = f.once d i ∙ ap one_if e in
        (z, unread s d i (holds_not s d i z))
    go (Some x) e =
        let z : places s d i ≡ 1 = f.once d i ∙ ap one_if e in
        let h = holds led s f d i (omega arith) in
        let w = f.within d i x e in
        (z, reads s d i h.way h.block h.page x w.0 w.1 h.found (same_bytes (sym e ∙ h.bytes)))
