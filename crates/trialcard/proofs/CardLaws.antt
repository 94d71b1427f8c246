-- The trial card is formatted, and a list runs on it.
use Rattle.std.proofs.Common.{◌≡◌, ℕ, ◌+◌, ◌<◌, ◌≤◌, leb, List, [], ◌++◌, length, take, drop, replicate, Some, Ok, Err, Option, Result, sym, refl, ap, ◌∙◌, arith, length-append}
use Rattle.std.proofs.lemmas.List.{length-take-le, take_at}
use Rattle.std.proofs.lemmas.Bool.{le-leb, lt-leb, cond-true, cond-false}
use Rattle.flash.specs.Meaning.{Card}
use Rattle.rules.specs.Calls.{formatted, format_number, near_worn, cleared_below}
use Rattle.rules.specs.State.{State}
use Rattle.store.specs.declared.refusal.StoreRefusal.{StoreRefusal}
use Rattle.store.specs.declared.refusal.StoreRefusal.TheVariants.{Unformatted, NoSuchBlock, NoSuchPage, EmptySet, WrongData, ShortArea, NearWorn, WrongBuffer, NotHeld, PlanOutOfLimits, FlashTooSmall}
use Rattle.store.specs.Calls.{FormatAs, state_formatted}
use Rattle.store.specs.Numbers.{number_of}
use Rattle.worklist.specs.declared.ended.Ended.{Ended}
use Rattle.worklist.specs.Law.{RunsAs}
use Rattle.worklist.specs.Numbers.{end_number}
use Rattle.worklist.specs.Runs.{run_of, ended_as, answers_after}
use Rattle.trialcard.specs.Card.{trial_chip, trial_plan, trial_run, RanOn, outcome_text, text_for}
use Rattle.trialcard.specs.Lines.{lines_for, end_line}

-- ---- format

number_some : (e : StoreRefusal) → 0 < number_of e
number_some Unformatted = omega arith
number_some NoSuchBlock = omega arith
number_some NoSuchPage = omega arith
number_some EmptySet = omega arith
number_some WrongData = omega arith
number_some ShortArea = omega arith
number_some NearWorn = omega arith
number_some WrongBuffer = omega arith
number_some NotHeld = omega arith
number_some PlanOutOfLimits = omega arith
number_some FlashTooSmall = omega arith

accepts : format_number trial_plan trial_chip ≡ 0
unfolding format_number near_worn
accepts = refl

pub trial_formatted :
    (r : Result ℕ StoreRefusal) (c : Card) (was is : Option State) → c ≡ trial_chip → FormatAs r trial_plan c →
    is ≡ state_formatted r trial_plan c was → is ≡ Some (formatted trial_plan trial_chip)
trial_formatted (Ok n) c was is e f leaves = leaves ∙ ap (λ (x : Card). Some (formatted trial_plan x)) e
trial_formatted (Err x) c was is e f leaves =
    let z : number_of x ≡ 0 = sym f ∙ ap (format_number trial_plan) e ∙ accepts in absurd (omega (arith, number_some x))

-- ---- the pages of the card

trial_size : (formatted trial_plan trial_chip).card.shape.size ≡ 4
unfolding formatted cleared_below
trial_size = refl

-- ---- a run

pub ran_on :
    (s s' : Option State) (c : Card) (xs was is area area' : List ℕ) (r : Ended) → ((t : State) → s ≡ Some t → t.card ≡ c) → s ≡ Some (formatted trial_plan trial_chip) →
    area ≡ replicate 16 0 → RunsAs s (run_of xs c.shape.size (length was) s area) was r s' is area' → RanOn xs was is r
ran_on s s' c xs was is area area' r on e a k =
    let start : State = formatted trial_plan trial_chip in
    let size : c.shape.size ≡ 4 = ap (λ (x : Card). x.shape.size) (sym (on start e)) ∙ trial_size in
    let whole : run_of xs c.shape.size (length was) s area ≡ trial_run xs (length was) =
    ap (λ n. run_of xs n (length was) s area) size ∙ ap (λ (x : Option State). run_of xs 4 (length was) x area) e ∙ ap (λ (x : List ℕ). run_of xs 4 (length was) (Some start) x) a in
    record {
      tells = k.tells ∙ ap (ended_as s) whole ∙ ap (λ (x : Option State). ended_as x (trial_run xs (length was))) e;
      answers = k.answered ∙ ap (λ o. answers_after o was) whole;
    }

-- ---- the text

-- the part of the buffer that was written is the answers
module _ (xs was is : List ℕ) (r : Ended) (k : RanOn xs was is r) where
  out : List ℕ
  out = (trial_run xs (length was)).done.answers

  pub written_there : length is ≡ length was → r.written ≡ length (take r.written is)
  unfolding out
  written_there long =
      sym
      (length-take-le r.written is
      (omega (arith, ap length k.answers, ap (λ (x : Ended). x.written) k.tells, length-append out (drop (length out) was))))

  pub text_made :
      (t₀ t₁ t₂ part : List ℕ) → length xs ≤ 4096 → length was ≡ 16384 → t₀ ≡ [] → part ≡ take r.written is →
      t₁ ≡ t₀ ++ lines_for (length part + 1) part → t₂ ≡ t₁ ++ end_line (end_number r.fault) r.place → t₂ ≡ text_for xs
  unfolding text_for out
  text_made t₀ t₁ t₂ part short room e₀ p e₁ e₂ =
      let o = trial_run xs (length was) in
      let written : r.written ≡ length out = ap (λ (x : Ended). x.written) k.tells in
      let all : part ≡ out = p ∙ ap (take r.written) k.answers ∙ take_at out (drop (length out) was) r.written (sym written) in
      let lines : t₁ ≡ lines_for (length out + 1) out = e₁ ∙ ap (λ (x : List ℕ). x ++ lines_for (length part + 1) part) e₀ ∙ ap (λ (x : List ℕ). lines_for (length x + 1) x) all in
      let end : end_line (end_number r.fault) r.place ≡ end_line (end_number o.fault) o.place = ap (λ (x : Ended). end_line (end_number x.fault) x.place) k.tells in
      e₂ ∙ ap (λ (x : List ℕ). x ++ end_line (end_number r.fault) r.place) lines ∙ ap (λ (x : List ℕ). lines_for (length out + 1) out ++ x) end ∙
      ap (λ n. outcome_text (trial_run xs n)) room ∙ sym (cond-true (leb (length xs) 4096) _ _ (le-leb (length xs) 4096 short))

-- a list that is too long
pub text_long : (xs t₀ t₁ : List ℕ) → 4096 < length xs → t₀ ≡ [] → t₁ ≡ t₀ ++ end_line 5 0 → t₁ ≡ text_for xs
unfolding text_for
text_long xs t₀ t₁ long e₀ e₁ =
    e₁ ∙ ap (λ (x : List ℕ). x ++ end_line 5 0) e₀ ∙ sym (cond-false (leb (length xs) 4096) _ _ (lt-leb (length xs) 4096 long))
