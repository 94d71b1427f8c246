-- When a flash refuses a call, and what a refusal leaves.
use Rattle.std.specs.Prelude.{◌≡◌, ℕ, cond, Some, None, Ok, Err, Option, Result, ◌==◌, nat_le, nat_lt}
use Rattle.flash.specs.declared.refusal.Refusal.{Refusal}
use Rattle.flash.specs.declared.geometry.Geometry.{Geometry}
use Rattle.flash.specs.Meaning.{Card, geometry_of, floor_at, erase_count_at}
use Rattle.flash.specs.Numbers.{number_of}

-- the number of the refusal in a result, if it is one
abbrev pub refusal_in : {T : Type 0} → Result T Refusal → Option ℕ
refusal_in (Ok x) = None
refusal_in (Err e) = Some (number_of e)

-- 17 no such block, 18 no such page, 19 another length than a page's, in this order
abbrev pub why_not_read : Geometry → ℕ → ℕ → ℕ → Option ℕ
why_not_read g block page len =
    cond (nat_lt block g.blocks) (cond (nat_lt page g.pages) (cond (len == g.size) None (Some 19)) (Some 18)) (Some 17)

-- the same, and then 20 below the floor
abbrev pub why_not_program : Geometry → ℕ → ℕ → ℕ → ℕ → Option ℕ
why_not_program g floor block page len =
    cond (nat_lt block g.blocks) (cond (nat_lt page g.pages) (cond (len == g.size) (cond (nat_le floor page) None (Some 20)) (Some 19)) (Some 18)) (Some 17)

-- 17 no such block, 21 erased as often as it may be
abbrev pub why_not_erase : Geometry → ℕ → ℕ → Option ℕ
why_not_erase g count block = cond (nat_lt block g.blocks) (cond (nat_lt count g.endurance) None (Some 21)) (Some 17)

-- the number with which a card refuses a call, or none where it is accepted
abbrev pub read_refusal : Card → ℕ → ℕ → ℕ → Option ℕ
read_refusal c block page len = why_not_read (geometry_of c) block page len

abbrev pub program_refusal : Card → ℕ → ℕ → ℕ → Option ℕ
program_refusal c block page len = why_not_program (geometry_of c) (floor_at c block) block page len

abbrev pub erase_refusal : Card → ℕ → Option ℕ
erase_refusal c block = why_not_erase (geometry_of c) (erase_count_at c block) block

-- An accepted call turns what was into what is meant. A refused one tells why, and leaves what was.
abbrev pub Outcome : {X T : Type 0} → Result T Refusal → Option ℕ → X → X → X → Type 0
Outcome (Ok x) why was meant is = (why ≡ None) × (is ≡ meant)
Outcome (Err e) why was meant is = (why ≡ Some (number_of e)) × (is ≡ was)
