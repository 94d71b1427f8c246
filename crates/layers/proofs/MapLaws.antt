-- A list made of numbers by a function, where the function changes at one place.
use Rattle.std.proofs.Common.{◌≡◌, ℕ, ◌<◌, ◌≢◌, List, map, length, get_or, set, sym, ap, ◌∙◌, ⊎_elim, arith}
use Rattle.std.specs.List.{range_with_len}
use Rattle.std.proofs.lemmas.List.FromFn.{length-range_with_len, get_or-range_with_len}
use Rattle.std.proofs.lemmas.List.{length-set, length-map, get_or-map, get_or-set_same, get_or-set_other, ext_get_or}
use Rattle.std.proofs.lemmas.Bool.{cases_eq}

-- two functions that differ at the place k alone
pub map_put :
    {X : Type 0} (f g : ℕ → X) (ns : List ℕ) (k : ℕ) (z : X) → (k < length ns → g (get_or ns k 0) ≡ z) →
    ((i : ℕ) → i < length ns → i ≢ k → g (get_or ns i 0) ≡ f (get_or ns i 0)) → map g ns ≡ set (map f ns) k z
map_put f g ns k z here other =
    ext_get_or z (map g ns) (set (map f ns) k z) (length-map ns g ∙ sym (length-set (map f ns) k z ∙ length-map ns f))
    (λ i h.
    let l : i < length ns = rw (length-map ns g) at h in
    let m : i < length (map f ns) = rw (length-map ns f) l in
    get_or-map g ns i 0 z l
    ∙ ⊎_elim
    (λ (e : i ≡ k). rw e (here (rw e at l)) ∙ sym (ap (λ j. get_or (set (map f ns) k z) j z) e ∙ get_or-set_same (map f ns) k z z (rw e at m)))
    (λ (ne : i ≢ k). other i l ne ∙ sym (get_or-set_other (map f ns) k i z z ne ∙ get_or-map f ns i 0 z l))
    (cases_eq i k))

-- the same over the numbers below n
pub counting_put :
    {X : Type 0} (f g : ℕ → X) (n k : ℕ) (z : X) → (k < n → g k ≡ z) → ((i : ℕ) → i ≢ k → g i ≡ f i) →
    map g (range_with_len 0 n) ≡ set (map f (range_with_len 0 n)) k z
counting_put f g n k z here other =
    let ns = range_with_len 0 n in
    let count = length-range_with_len 0 n in
    let number : (i : ℕ) → i < length ns → get_or ns i 0 ≡ i = λ i h. get_or-range_with_len 0 n i 0 (rw count at h) ∙ omega arith in
    map_put f g ns k z
    (λ h. ap g (number k h) ∙ here (rw count at h))
    (λ i h ne. ap g (number i h) ∙ other i ne ∙ sym (ap f (number i h)))
