-- A record that is written is read back as it was.
use Rattle.std.proofs.Common.{◌≡◌, ℕ, ◌+◌, ◌*◌, ◌/◌, ◌%◌, ◌^◌, ◌<◌, ◌≤◌, true, leb, List, ◌++◌, length, take, drop, Ok, Result, sym, refl, ap, ◌∙◌, arith, length-append}
use Rattle.std.proofs.lemmas.List.{take_at}
use Rattle.std.proofs.lemmas.Bool.{le-leb, cond-true}
use Rattle.rules.specs.Sets.{pages_in}
use Rattle.worklist.specs.declared.fault.ListFault.{ListFault}
use Rattle.worklist.specs.declared.head.Head.{Head}
use Rattle.worklist.specs.declared.kind.Kind.{Kind}
use Rattle.worklist.specs.declared.kind.Kind.TheVariants.{Flush, Read, Discard, Idle}
use Rattle.worklist.specs.Numbers.{kind_number, kind_for}
use Rattle.worklist.specs.Records.{Item, flush_of, read_of, discard_of, idle_round, zeros_in, head_from, head_of, set_in, data_length, found_if, after_head, head_bytes, set_bytes, written, RecordsReturn}

-- ---- the head

module _ (k b p : ℕ) (h : k < 8) (i : b < 128) (j : p < 64) where
  word_back : (k * 8192 + b * 64 + p) / 256 * 256 + (k * 8192 + b * 64 + p) % 256 ≡ k * 8192 + b * 64 + p
  word_back = omega arith

  kind_back : (k * 8192 + b * 64 + p) / 8192 ≡ k
  kind_back = omega arith

  block_back : (k * 8192 + b * 64 + p) / 64 % 128 ≡ b
  block_back = omega arith

  page_back : (k * 8192 + b * 64 + p) % 64 ≡ p
  page_back = omega arith

kind_numbered : (k : Kind) → kind_for (kind_number k) ≡ Ok k
kind_numbered Flush = refl
kind_numbered Read = refl
kind_numbered Discard = refl
kind_numbered Idle = refl

kind_small : (k : Kind) → kind_number k < 8
kind_small Flush = omega arith
kind_small Read = omega arith
kind_small Discard = omega arith
kind_small Idle = omega arith

head_back :
    (k : Kind) (b p : ℕ) (xs : List ℕ) → b < 128 → p < 64 → zeros_in k b p ≡ true →
    head_of (head_bytes (kind_number k) b p ++ xs) ≡ Ok (record { kind = k; block = b; page = p })
unfolding head_of
head_back k b p xs i j z =
    let n : ℕ = kind_number k in
    let h : n < 8 = kind_small k in
    let ys : List ℕ = head_bytes n b p ++ xs in
    cond-true (leb 2 (length ys)) _ _ (le-leb 2 (length ys) (omega arith)) ∙
    ap (λ (w : ℕ). head_from (kind_for (w / 8192)) (w / 64 % 128) (w % 64)) (word_back n b p h i j) ∙
    rw (kind_back n b p h i j, block_back n b p h i j, page_back n b p h i j, kind_numbered k) (cond-true (zeros_in k b p) _ _ z)

-- ---- the rest

set_back :
    (s : ℕ) → s < 2 ^ 64 →
    (s / 2 ^ 56 % 256) * 2 ^ 56 + (s / 2 ^ 48 % 256) * 2 ^ 48 + (s / 2 ^ 40 % 256) * 2 ^ 40 + (s / 2 ^ 32 % 256) * 2 ^ 32 + (s / 2 ^ 24 % 256) * 2 ^ 24 + (s / 2 ^ 16 % 256) * 2 ^ 16 + (s / 2 ^ 8 % 256) * 2 ^ 8 + s % 256 ≡ s
set_back s h = omega arith

found_back :
    (n : ℕ) (ys : List ℕ) (x : Item) (at m : ℕ) → n ≤ length ys → n ≡ m →
    found_if (leb n (length ys)) x at n ≡ Ok (record { item = x; place = at; next = at + m })
found_back n ys x at m h e =
    cond-true (leb n (length ys)) _ _ (le-leb n (length ys) h) ∙ ap (λ k. Ok (record { item = x; place = at; next = at + k })) e

pub records_return_lem : RecordsReturn
records_return_lem size at (flush_of b s x) rest f =
    let ys : List ℕ = head_bytes 1 b 0 ++ (set_bytes s ++ (x ++ rest)) in
    let bytes : ℕ = data_length size ys in
    let d : bytes ≡ pages_in 64 s * size = ap (λ n. pages_in 64 n * size) (set_back s f.1) in
    let l : length (x ++ rest) ≡ length x + length rest = length-append x rest in
    let q : take bytes (x ++ rest) ≡ x = take_at x rest bytes (f.2 ∙ sym d) in
    ap (λ (r : Result Head ListFault). after_head r size at ys) (head_back Flush b 0 (set_bytes s ++ (x ++ rest)) f.0 (omega arith) refl) ∙
    found_back (10 + bytes) ys (flush_of b (set_in (drop 2 ys)) (take bytes (drop 10 ys))) at (length (written (flush_of b s x))) (omega arith) (omega arith) ∙
    ap (λ (i : Item). Ok (record { item = i; place = at; next = at + length (written (flush_of b s x)) }))
    (ap (λ n. flush_of b n (take bytes (x ++ rest))) (set_back s f.1) ∙ ap (λ (z : List ℕ). flush_of b s z) q)
records_return_lem size at (read_of b p) rest f =
    ap (λ (r : Result Head ListFault). after_head r size at (head_bytes 2 b p ++ rest)) (head_back Read b p rest f.0 f.1 refl)
records_return_lem size at (discard_of b s) rest f =
    let ys : List ℕ = head_bytes 3 b 0 ++ (set_bytes s ++ rest) in
    ap (λ (r : Result Head ListFault). after_head r size at ys) (head_back Discard b 0 (set_bytes s ++ rest) f.0 (omega arith) refl) ∙
    found_back 10 ys (discard_of b (set_in (drop 2 ys))) at 10 (omega arith) refl ∙
    ap (λ n. Ok (record { item = discard_of b n; place = at; next = at + 10 })) (set_back s f.1)
records_return_lem size at idle_round rest f =
    ap (λ (r : Result Head ListFault). after_head r size at (head_bytes 4 0 0 ++ rest)) (head_back Idle 0 0 rest (omega arith) (omega arith) refl)
