-- What stands at the front of some bytes, from the parts that are split off.
use Rattle.std.proofs.Common.{◌≡◌, ℕ, ◌+◌, ◌-◌, ◌*◌, ◌/◌, ◌%◌, ◌<◌, ◌≤◌, leb, List, length, get_or, take, drop, None, Ok, Err, Result, Bor, sym, refl, ap, ◌∙◌, arith, add-zero, length-drop}
use Rattle.std.proofs.lemmas.List.{get_or-take, get_or-drop, drop-drop, take_rest}
use Rattle.std.proofs.lemmas.Bool.{le-leb, lt-leb, cond-true, cond-false}
use Rattle.rules.specs.Sets.{pages_in}
use Rattle.worklist.specs.declared.fault.ListFault.{ListFault}
use Rattle.worklist.specs.declared.fault.ListFault.TheVariants.{CutShort}
use Rattle.worklist.specs.declared.head.Head.{Head}
use Rattle.worklist.specs.declared.kind.Kind.{Kind}
use Rattle.worklist.specs.declared.kind.Kind.TheVariants.{Flush, Discard}
use Rattle.worklist.specs.declared.record.Record.{Record}
use Rattle.worklist.specs.Numbers.{kind_for}
use Rattle.worklist.specs.Records.{flush_of, discard_of, word_in, head_from, head_in, head_of, set_in, data_length, Found, body_of, after_head, read_one, found_from, stopped, next_as, next_at}

-- ---- a head and a record at a place of a list

module _ (xs : List ℕ) (at : ℕ) where
  left_of : length (drop at xs) ≡ length xs - at
  left_of = length-drop at xs

  word_at : word_in (drop at xs) ≡ get_or xs at 0 * 256 + get_or xs (at + 1) 0
  word_at = simp (get_or-drop, add-zero)

  -- the head from its two bytes
  pub head_as :
      (w : ℕ) (k : Result Kind ListFault) (r : Result Head ListFault) → 2 ≤ length xs - at → w ≡ get_or xs at 0 * 256 + get_or xs (at + 1) 0 →
      k ≡ kind_for (w / 8192) → r ≡ head_from k (w / 64 % 128) (w % 64) → r ≡ head_of (drop at xs)
  unfolding head_of
  head_as w k r h e q t =
      let v : w ≡ word_in (drop at xs) = e ∙ sym word_at in
      t ∙ ap (λ (o : Result Kind ListFault). head_from o (w / 64 % 128) (w % 64)) q ∙
      ap (λ (n : ℕ). head_from (kind_for (n / 8192)) (n / 64 % 128) (n % 64)) v ∙
      sym (cond-true (leb 2 (length (drop at xs))) _ _ (le-leb 2 (length (drop at xs)) (omega (arith, left_of))))

  -- a record after its head
  pub after_head_lem :
      (size : ℕ) (h : Head) (k : Kind) → Ok h ≡ head_of (drop at xs) → h.kind ≡ k →
      body_of k h.block h.page size at (drop at xs) ≡ read_one size at (drop at xs)
  after_head_lem size h k e q =
      ap (λ (j : Kind). body_of j h.block h.page size at (drop at xs)) (sym q) ∙
      ap (λ (r : Result Head ListFault). after_head r size at (drop at xs)) e

-- ---- the front of some bytes

module _ (xs : List ℕ) (size : ℕ) where
  -- what is told of a fault
  pub ends_so :
      (at : ℕ) (r : Result (Record × Bor (List ℕ)) ListFault) (e : ListFault) → r ≡ Err e → Err e ≡ read_one size at xs →
      found_from at (length xs) r ≡ read_one size at xs
  ends_so at r e is so = ap (found_from at (length xs)) is ∙ so

  -- ---- the head

  pub read_short : (at : ℕ) → length xs < 2 → Err CutShort ≡ read_one size at xs
  unfolding head_of
  read_short at h =
      ap (λ (r : Result Head ListFault). after_head r size at xs) (sym (cond-false _ _ _ (lt-leb 2 (length xs) h)))

  pub read_after : (at : ℕ) (r : Result Head ListFault) → 2 ≤ length xs → r ≡ head_in (take 2 xs) → after_head r size at xs ≡ read_one size at xs
  unfolding head_of
  read_after at r h e =
      let same : head_in (take 2 xs) ≡ head_in xs = rw (get_or-take 2 xs 0 0 (omega arith), get_or-take 2 xs 1 0 (omega arith)) refl in
      ap (λ (r : Result Head ListFault). after_head r size at xs)
      (e ∙ same ∙ sym (cond-true (leb 2 (length xs)) _ _ (le-leb 2 (length xs) h)))

  module _ (at : ℕ) (h : Head) (there : 2 ≤ length xs) (is : Ok h ≡ head_in (take 2 xs)) where
    -- a record that is as its kind has it
    pub read_as : (k : Kind) (r : Result Found ListFault) → h.kind ≡ k → r ≡ body_of k h.block h.page size at xs → r ≡ read_one size at xs
    read_as k r q e = e ∙ ap (λ (j : Kind). body_of j h.block h.page size at xs) (sym q) ∙ read_after at (Ok h) there is

    -- ---- a discard

    pub discard_short : h.kind ≡ Discard → length (drop 2 xs) < 8 → Err CutShort ≡ read_one size at xs
    discard_short q short =
        read_as Discard (Err CutShort) q (sym (cond-false _ _ _ (lt-leb 10 (length xs) (omega (arith, length-drop 2 xs)))))

    pub discard_so :
        (set : ℕ) (behind : List ℕ) → h.kind ≡ Discard → 8 ≤ length (drop 2 xs) → set ≡ set_in (drop 2 xs) → behind ≡ drop 8 (drop 2 xs) →
        Ok (record { item = discard_of h.block set; place = at; next = at + (length xs - length behind) }) ≡ read_one size at xs
    discard_so set behind q long s b =
        let e : at + (length xs - length behind) ≡ at + 10 = omega (arith, ap length b, length-drop 8 (drop 2 xs), length-drop 2 xs) in
        read_as Discard _ q (rw (s, e) (sym (cond-true _ _ _ (le-leb 10 (length xs) (omega (arith, length-drop 2 xs))))))

    -- ---- a flush

    pub flush_short : h.kind ≡ Flush → length (drop 2 xs) < 8 → Err CutShort ≡ read_one size at xs
    flush_short q short =
        read_as Flush (Err CutShort) q (sym (cond-false _ _ _ (lt-leb (10 + data_length size xs) (length xs) (omega (arith, length-drop 2 xs)))))

    module _ (set : ℕ) (rest : List ℕ) (s : set ≡ set_in (drop 2 xs)) (b : rest ≡ drop 8 (drop 2 xs)) where
      data_is : pages_in 64 set * size ≡ data_length size xs
      data_is = ap (λ n. pages_in 64 n * size) s

      pub flush_cut : h.kind ≡ Flush → 8 ≤ length (drop 2 xs) → length rest < pages_in 64 set * size → Err CutShort ≡ read_one size at xs
      flush_cut q long short =
          read_as Flush (Err CutShort) q
          (sym (cond-false _ _ _ (lt-leb (10 + data_length size xs) (length xs) (omega (arith, data_is, ap length b, length-drop 8 (drop 2 xs), length-drop 2 xs)))))

      pub flush_so :
          (bytes behind : List ℕ) → h.kind ≡ Flush → 8 ≤ length (drop 2 xs) → pages_in 64 set * size ≤ length rest → bytes ≡ take (pages_in 64 set * size) rest →
          behind ≡ drop (pages_in 64 set * size) rest →
          Ok (record { item = flush_of h.block set bytes; place = at; next = at + (length xs - length behind) }) ≡ read_one size at xs
      flush_so bytes behind q long enough d t =
          let n : ℕ = data_length size xs in
          let e : at + (length xs - length behind) ≡ at + (10 + n) =
          omega (arith, data_is, ap length t, length-drop (pages_in 64 set * size) rest, ap length b, length-drop 8 (drop 2 xs), length-drop 2 xs) in
          let part : bytes ≡ take n (drop 10 xs) = d ∙ ap (λ k. take k rest) data_is ∙ ap (take n) (b ∙ drop-drop 8 2 xs) in
          read_as Flush _ q
          (rw (s, e, part) (sym (cond-true _ _ _ (le-leb (10 + n) (length xs) (omega (arith, data_is, ap length b, length-drop 8 (drop 2 xs), length-drop 2 xs))))))

  -- ---- the next record

  pub next_none : (at : ℕ) → length xs ≤ at → stopped None ≡ next_at xs at size
  unfolding next_at
  next_none at h = sym (cond-true (leb (length xs) at) _ _ (le-leb (length xs) at h))

  pub next_some :
      (at : ℕ) (r : Result Found ListFault) → at < length xs → r ≡ read_one size at (take (length xs - at) (drop at xs)) → next_as r ≡ next_at xs at size
  unfolding next_at
  next_some at r h e =
      ap next_as (e ∙ ap (read_one size at) (take_rest xs at)) ∙ sym (cond-false (leb (length xs) at) _ _ (lt-leb (length xs) at h))
