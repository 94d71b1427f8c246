-- A block of a card seen through a layer: what a call does to the block below, it does to the block of the layer.
use Rattle.std.proofs.Common.{◌≡◌, ℕ, ltb, List, [], length, get_or, Result, sym, ap, ◌∙◌}
use Rattle.flash.specs.declared.refusal.Refusal.{Refusal}
use Rattle.flash.specs.Meaning.{Card, Shape, Block, block_at, block_count, page_at, with_block, programmed, erased}
use Rattle.flash.specs.Refusals.{Outcome, read_refusal, program_refusal, erase_refusal}
use Rattle.flash.proofs.RefusalLaws.{outcome_through}
use Rattle.layers.proofs.FlashLaws.{Local, program_local, erase_local}

-- through a layer f, block k of the card c is seen as block b
pub record Seen (f : Card → Card) (c : Card) (k b : ℕ) : Type 0 where
  pub there : ltb b (block_count (f c)) ≡ ltb k (block_count c)
  pub shape : (f c).shape ≡ c.shape
  pub block : block_at (f c) b ≡ block_at c k
  pub put : (x : Block) → f (with_block c k x) ≡ with_block (f c) b x

module _ {f : Card → Card} {c : Card} {k b : ℕ} (s : Seen f c k b) where
  -- the call on the layer is the call below, seen through the layer
  seen_call : {call : Card → ℕ → Card} → Local call → f (call c k) ≡ call (f c) b
  seen_call l =
      ap f (l.is c k)
      ∙ s.put _
      ∙ ap (λ (x : Shape). with_block (f c) b (l.change x (block_at c k))) (sym s.shape)
      ∙ ap (λ (y : Block). with_block (f c) b (l.change (f c).shape y)) (sym s.block)
      ∙ sym (l.is (f c) b)

  pub seen_program :
      {T : Type 0} (r : Result T Refusal) (p : ℕ) (x : List ℕ) (is : Card) →
      Outcome r (program_refusal c k p (length x)) c (programmed c k p x) is →
      Outcome r (program_refusal (f c) b p (length x)) (f c) (programmed (f c) b p x) (f is)
  seen_program r p x is h =
      outcome_through f r (program_refusal c k p (length x)) (program_refusal (f c) b p (length x)) c (programmed c k p x) is
      (programmed (f c) b p x) (cc (s.there, s.shape, s.block)) (seen_call (program_local p x)) h

  pub seen_erase :
      {T : Type 0} (r : Result T Refusal) (is : Card) →
      Outcome r (erase_refusal c k) c (erased c k) is → Outcome r (erase_refusal (f c) b) (f c) (erased (f c) b) (f is)
  seen_erase r is h =
      outcome_through f r (erase_refusal c k) (erase_refusal (f c) b) c (erased c k) is (erased (f c) b)
      (cc (s.there, s.shape, s.block)) (seen_call erase_local) h

  pub seen_read :
      {T : Type 0} (r : Result T Refusal) (p : ℕ) (was is : List ℕ) →
      Outcome r (read_refusal c k p (length was)) was (page_at c k p) is →
      Outcome r (read_refusal (f c) b p (length was)) was (page_at (f c) b p) is
  seen_read r p was is h =
      outcome_through (λ (y : List ℕ). y) r (read_refusal c k p (length was)) (read_refusal (f c) b p (length was)) was
      (page_at c k p) is (page_at (f c) b p) (cc (s.there, s.shape))
      (ap (λ (y : Block). get_or y.pages p []) (sym s.block)) h
