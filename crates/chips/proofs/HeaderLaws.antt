-- A header as a number, as bytes and in its parts: what is written into it is read from it again.
use Rattle.std.proofs.Common.{◌≡◌, ℕ, ◌+◌, ◌*◌, ◌%◌, ◌^◌, ◌<◌, List, ap, ◌∙◌, add-zero, arith}
use lib.Bits.{bit_or}
use Rattle.std.proofs.lemmas.Nat.{shr-shr, shl_whole, or_shifted}
use Rattle.chips.specs.Image.{word, four_bytes, header_word, header_bytes, floor_of, count_of, spare_of, floor_in, count_in, spare_in}

-- a number is what its four bytes are
four_back : (w : ℕ) → w < 2 ^ 32 → word (four_bytes w) ≡ w
four_back w h = omega (arith, shr-shr w 8 8, shr-shr w 16 8, shr-shr w 24 8)

-- a header whose spare bits are zero, as it is written
pub header_written : (f c : ℕ) (h : List ℕ) → h ≡ four_bytes (header_word f c + 0) → h ≡ header_bytes f c
header_written f c h e = e ∙ ap four_bytes (add-zero (header_word f c))

module _ (f c : ℕ) (h : f < 2 ^ 7) (l : c < 2 ^ 20) where
  -- the parts shifted to their places and joined
  pub header_shifted : (s : ℕ) → s < 2 ^ 5 → bit_or (bit_or (f * 2 ^ 25 % 2 ^ 32) (c * 2 ^ 5 % 2 ^ 32)) s ≡ header_word f c + s
  header_shifted s few =
      let joined : f * 2 ^ 25 + c * 2 ^ 5 ≡ (f * 2 ^ 20 + c) * 2 ^ 5 = omega arith in
      rw (shl_whole f 7 25 32 h (omega arith), shl_whole c 20 5 32 l (omega arith), or_shifted f 25 (c * 2 ^ 5) (omega arith), joined)
      (or_shifted (f * 2 ^ 20 + c) 5 s few)

  header_word_lem : word (header_bytes f c) ≡ header_word f c
  header_word_lem = four_back (header_word f c) (omega arith)

  pub header_floor : floor_in (header_bytes f c) ≡ f
  header_floor = ap floor_of header_word_lem ∙ (let t : floor_of (header_word f c) ≡ f = omega arith in t)

  pub header_count : count_in (header_bytes f c) ≡ c
  header_count = ap count_of header_word_lem ∙ (let t : count_of (header_word f c) ≡ c = omega arith in t)

  pub header_spare : spare_in (header_bytes f c) ≡ 0
  header_spare = ap spare_of header_word_lem ∙ (let t : spare_of (header_word f c) ≡ 0 = omega arith in t)
