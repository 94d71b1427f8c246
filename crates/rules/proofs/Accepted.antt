-- What is known once a call is accepted, and once it is refused for wear.
use Rattle.std.proofs.Common.{◌≡◌, ℕ, zero, suc, ◌+◌, ◌*◌, ◌^◌, ◌<◌, ◌≤◌, true, false, refl, arith}
use Rattle.std.proofs.lemmas.Bool.Decides.{nat_tests}
use Rattle.flash.specs.Meaning.{Card, block_count, erase_count_at}
use Rattle.rules.specs.declared.plan.Plan.{Plan}
use Rattle.rules.specs.Sets.{pages_in}
use Rattle.rules.specs.State.{State, capacity}
use Rattle.rules.specs.Calls.{near_worn, watched, flush_number, discard_number, idle_number, format_number}

-- a group that is flushed
pub record CanFlush (s : State) (d g len area : ℕ) : Type 0 where
  pub inside : d < s.plan.data
  pub fits : g < 2 ^ s.pages
  pub some : g ≡ 0 → ⊥
  pub bytes : len ≡ pages_in s.pages g * s.card.shape.size
  pub area_long : s.pages * s.card.shape.size ≤ area
  pub lasts : near_worn (watched s) s.card ≡ false

pub can_flush : (s : State) (d g len area : ℕ) → flush_number s d g len area ≡ 0 → CanFlush s d g len area
unfolding flush_number
can_flush s d g len area e =
    record {
      inside = grind (arith, nat_tests);
      fits = grind (arith, nat_tests);
      some = grind (arith, nat_tests);
      bytes = grind (arith, nat_tests);
      area_long = grind (arith, nat_tests);
      lasts = grind (arith, nat_tests);
    }

-- pages that are discarded
pub record CanDiscard (s : State) (d g : ℕ) : Type 0 where
  pub inside : d < s.plan.data
  pub fits : g < 2 ^ s.pages
  pub some : g ≡ 0 → ⊥

pub can_discard : (s : State) (d g : ℕ) → discard_number s d g ≡ 0 → CanDiscard s d g
unfolding discard_number
can_discard s d g e = record { inside = grind (arith, nat_tests); fits = grind (arith, nat_tests); some = grind (arith, nat_tests) }

-- a plan by which a card is formatted
pub record CanFormat (p : Plan) (c : Card) : Type 0 where
  pub some_data : 1 ≤ p.data
  pub few_data : p.data ≤ 128
  pub two : 2 ≤ p.region
  pub few_region : p.region ≤ 16
  pub threshold : p.threshold ≤ c.shape.pages
  pub idle : p.idle < capacity p c.shape.pages
  pub inside : p.data + p.region ≤ block_count c
  pub lasts : near_worn (block_count c) c ≡ false

pub can_format : (p : Plan) (c : Card) → format_number p c ≡ 0 → CanFormat p c
unfolding format_number
can_format p c e =
    record {
      some_data = grind (arith, nat_tests);
      few_data = grind (arith, nat_tests);
      two = grind (arith, nat_tests);
      few_region = grind (arith, nat_tests);
      threshold = grind (arith, nat_tests);
      idle = grind (arith, nat_tests);
      inside = grind (arith, nat_tests);
      lasts = grind (arith, nat_tests);
    }

-- ---- refusals for wear

pub flush_worn : (s : State) (d g len area : ℕ) → flush_number s d g len area ≡ 12 → near_worn (watched s) s.card ≡ true
unfolding flush_number
flush_worn s d g len area e = grind (arith, nat_tests)

pub idle_worn : (s : State) (area : ℕ) → idle_number s area ≡ 12 → near_worn (watched s) s.card ≡ true
unfolding idle_number
idle_worn s area e = grind (arith, nat_tests)

-- no block is near its endurance
pub unworn :
    (n : ℕ) (c : Card) → ((b : ℕ) → b < n → erase_count_at c b + 128 ≤ c.shape.endurance) → near_worn n c ≡ false
unfolding near_worn
unworn zero c h = refl
unworn (suc n) c h =
    let here = h n (omega arith) in
    let rest = unworn n c (λ b l. h b (omega arith)) in
    grind (arith, nat_tests)

-- an idle round that is accepted
pub record CanIdle (s : State) (area : ℕ) : Type 0 where
  pub area_long : s.pages * s.card.shape.size ≤ area
  pub lasts : near_worn (watched s) s.card ≡ false

pub can_idle : (s : State) (area : ℕ) → idle_number s area ≡ 0 → CanIdle s area
unfolding idle_number
can_idle s area e = record { area_long = grind (arith, nat_tests); lasts = grind (arith, nat_tests) }
