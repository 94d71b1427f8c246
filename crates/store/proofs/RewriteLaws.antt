-- A data block written anew with the pages that were gathered is as the rules have it.
use Rattle.std.proofs.Common.{◌≡◌, ℕ, zero, suc, ◌*◌, ◌^◌, ◌<◌, ◌≤◌, Bool, true, false, List, [], take, drop, is_some, sym, refl, ap, ◌∙◌, arith}
use mathlib.Core.Path.{fun_ext}
use Rattle.flash.specs.Meaning.{Card}
use Rattle.rules.specs.Sets.{has, set_of}
use Rattle.rules.specs.State.{State}
use Rattle.rules.specs.Moves.{Row, put, filled, cleared, gathered, rewritten, no_row}
use Rattle.rules.specs.Calls.{row_at, row_of}
use Rattle.rules.proofs.SetLaws.{has_none, set_of_below}
use Rattle.rules.proofs.PageSetLaws.{set_is}
use Rattle.rules.proofs.DropLaws.{set_of_same}
use Rattle.store.specs.Changes.{renewed_in}
use Rattle.store.specs.Moves.{page_if, row_in, Laid}

-- ---- the set of the gathered pages

page_there : (b : Bool) (x : List ℕ) → is_some (page_if b x) ≡ b
page_there true x = refl
page_there false x = refl

module _ (row : Row) (set size : ℕ) (area : List ℕ) (n : ℕ) (laid : Laid row set size area n) (few : n ≤ 64) (fits : set < 2 ^ 64) where
  -- it has the pages that the row has
  pub laid_set : set ≡ set_of n (λ i. is_some (row i))
  laid_set =
      set_is 64 set (has set) fits (λ k l. refl)
      ∙ set_of_same n 64 (has set) (λ i. is_some (row i)) few
      (λ i l. sym (page_there (has set i) (take size (drop (i * size) area))) ∙ ap is_some (laid.rows i l)) (λ i l k. laid.none_above i l)

  pub laid_fits : set < 2 ^ n
  laid_fits = rw laid_set (set_of_below n (λ i. is_some (row i)))

-- ---- the block

-- rows that are the same below n
filled_as : (c : Card) (b : ℕ) (row new : Row) (n : ℕ) → ((i : ℕ) → i < n → row i ≡ new i) → filled c b row n ≡ filled c b new n
unfolding filled
filled_as c b row new zero h = refl
filled_as c b row new (suc n) h =
    ap (put (filled c b row n) b n) (h n (omega arith))
    ∙ ap (λ (x : Card). put x b n (new n)) (filled_as c b row new n (λ i l. h i (omega arith)))

-- the state over another card
abbrev over_card : State → Card → State
over_card s k = record { plan = s.plan; pages = s.pages; card = k; sets = s.sets; table = s.table; reserve = s.reserve }

-- the gathered pages are in the block, and the maps say so
pub rewritten_is :
    (s : State) (d : ℕ) (row : Row) (set : ℕ) (area : List ℕ) (k : Card) (t : State) →
    s.pages ≡ s.card.shape.pages → s.pages ≤ 64 → set < 2 ^ 64 → Laid (gathered s d row) set s.card.shape.size area s.pages →
    k ≡ filled (cleared s.card d) d (row_in set s.card.shape.size area) s.card.shape.pages →
    t ≡ renewed_in (over_card s k) d set → t ≡ rewritten s d row
unfolding rewritten
rewritten_is s d row set area k t same few fits laid f e =
    let new = gathered s d row in
    let size = s.card.shape.size in
    let card : k ≡ filled (cleared s.card d) d new s.pages =
    f
    ∙ ap (filled (cleared s.card d) d (row_in set size area)) (sym same)
    ∙ filled_as (cleared s.card d) d (row_in set size area) new s.pages laid.rows in
    e
    ∙ ap (λ (x : Card). renewed_in (over_card s x) d set) card
    ∙ ap (renewed_in (over_card s (filled (cleared s.card d) d new s.pages)) d) (laid_set new set size area s.pages laid few fits)

-- ---- a merge

-- a group without pages has none
row_none : (size i : ℕ) → row_of size 0 [] i ≡ no_row i
unfolding row_of
row_none size i = ap (row_at size 0 [] i) (has_none i)

pub rewritten_none : (s : State) (d size : ℕ) → rewritten s d (row_of size 0 []) ≡ rewritten s d no_row
rewritten_none s d size = ap (rewritten s d) (fun_ext (row_none size))
