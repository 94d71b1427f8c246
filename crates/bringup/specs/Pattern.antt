-- The pattern that a bring-up check programs.
use Rattle.std.specs.Prelude.{ℕ, ◌+◌, ◌*◌, ◌%◌, List, map}
use Rattle.std.specs.List.{range_with_len}

-- one byte of the pattern of a page
abbrev pub pattern_byte : ℕ → ℕ → ℕ → ℕ
pattern_byte block page place = (block % 251 * 31 + page % 251 * 7 + place % 251) % 251

-- the pattern of a page of n bytes
unfoldable pub pattern : ℕ → ℕ → ℕ → List ℕ
pattern block page n = map (pattern_byte block page) (range_with_len 0 n)
