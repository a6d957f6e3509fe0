-- Questions 12 and 13 in terms of the numbers that are read at the places of the head and of a record.
use Prim.Native.Nat.{ℕ, ◌+◌, ◌*◌, ◌≤◌, ◌<◌}
use mathlib.Core.Bool.{true, false, not, ◌&&◌, ◌||◌}
use mathlib.Core.List.{List}
use mathlib.Core.Logic.{⊎_elim}
use mathlib.Core.Path.{◌≡◌, sym, ◌∙◌}
use native.Mathlib.Omega.{arith}
use borrow.Author.Tests.{le-leb, lt-leb, eq-eqb, ne_eqb, eqb-true, not-true, not-false}
use lib.Dec.{leb, eqb, eqb→eq}
use lib.IntN.{ℤ, pos}
use lib.ListN.{drop}
use Rattle.exact.proofs.Bools.{holds, and_second, or_cases}
use Rattle.definitions.specs.Questions.{known_reading, exponent_in_range}
use Rattle.definitions.specs.File.{little, signed, record_length, record_kind, head_length, old_head_length, head_reading, head_stages, head_unit, known_head, good_head, good_row, good_weights, good_record}
use Rattle.records.proofs.Records.{kind_at, payload-at}

-- 13, of the record that starts at `at`, by its kind and its length.
module _ (bytes : List ℕ) (at n due kind size : ℕ) (is : kind ≡ little 2 (drop (at + 4) bytes)) (long : size ≡ record_length (drop at bytes)) where
  pub weights_tested : n < due → (eqb kind 3 && eqb size (8 * n)) ≡ good_record n due (drop at bytes)
  unfolding good_record good_weights
  weights_tested h = rw (lt-leb due n h, kind_at bytes at, is, long)

  module _ (h : due ≤ n) where
    pub not-a-row : not (eqb kind 2 && eqb size (2 + 8 * n)) ≡ true → false ≡ good_record n due (drop at bytes)
    unfolding good_record good_row
    not-a-row t = rw (le-leb due n h, kind_at bytes at, ← is, ← long, not-true (eqb kind 2 && eqb size (2 + 8 * n)) t)

    module _ (t : not (eqb kind 2 && eqb size (2 + 8 * n)) ≡ false) where
      pub row-size : record_length (drop at bytes) ≡ 2 + 8 * n
      row-size = sym long ∙ eqb-true size (2 + 8 * n) (and_second (eqb kind 2) (eqb size (2 + 8 * n)) (not-false (eqb kind 2 && eqb size (2 + 8 * n)) t))

      pub row_tested : (number : ℕ) → number ≡ little 2 (drop (at + 6) bytes) → eqb number due ≡ good_record n due (drop at bytes)
      unfolding good_record good_row
      row_tested number e =
          let held : 0 + 2 ≤ record_length (drop at bytes) = omega (arith, row-size) in
          rw (le-leb due n h, kind_at bytes at, ← is, ← long, not-false (eqb kind 2 && eqb size (2 + 8 * n)) t, payload-at bytes at 0 2 held, e)

-- 12, as far as the numbers were read.
module _ (bytes : List ℕ) where
  pub head_kind : (kind : ℕ) → kind ≡ little 2 (drop 4 bytes) → (kind ≡ 1 → ⊥) → false ≡ good_head bytes
  unfolding good_head record_kind
  head_kind kind e h = rw (← e, ne_eqb kind 1 h)

  pub head_length_lem : (size : ℕ) → little 2 (drop 4 bytes) ≡ 1 → size ≡ little 4 bytes → not (eqb size 4 || eqb size 6) ≡ true → false ≡ good_head bytes
  unfolding good_head known_head record_kind record_length head_length old_head_length
  head_length_lem size k e h = rw (k, ← e, not-true (eqb size 4 || eqb size 6) h)

  pub length-known : (size : ℕ) → size ≡ little 4 bytes → not (eqb size 4 || eqb size 6) ≡ false → known_head bytes ≡ true
  unfolding known_head record_length head_length old_head_length
  length-known size e h = rw (← e) (not-false (eqb size 4 || eqb size 6) h)

  pub at_least-four : known_head bytes ≡ true → 4 ≤ record_length bytes
  unfolding known_head head_length old_head_length
  at_least-four known =
      ⊎_elim (λ t. omega (arith, eqb→eq (record_length bytes) 4 t)) (λ t. omega (arith, eqb→eq (record_length bytes) 6 t))
      (or_cases (eqb (record_length bytes) 4) (eqb (record_length bytes) 6) (holds known))

  pub not-four : known_head bytes ≡ true → (record_length bytes ≡ 4 → ⊥) → record_length bytes ≡ 6
  unfolding known_head head_length old_head_length
  not-four known other = eqb-true (record_length bytes) 6 (rw (ne_eqb (record_length bytes) 4 other) at known)

  pub old_unit : record_length bytes ≡ 4 → head_unit bytes ≡ pos 0
  unfolding head_unit old_head_length
  old_unit is = rw (eq-eqb (record_length bytes) 4 is)

  module _ (known : known_head bytes ≡ true) where
    pub head_reading_lem : head_reading bytes ≡ little 2 (drop 6 bytes)
    unfolding head_reading
    head_reading_lem =
        let held : 0 + 2 ≤ record_length bytes = omega (arith, at_least-four known) in
        payload-at bytes 0 0 2 held

    pub head_stages_lem : head_stages bytes ≡ little 2 (drop 8 bytes)
    unfolding head_stages
    head_stages_lem =
        let held : 2 + 2 ≤ record_length bytes = omega (arith, at_least-four known) in
        payload-at bytes 0 2 2 held

    pub new_unit : (record_length bytes ≡ 4 → ⊥) → signed (little 2 (drop 10 bytes)) ≡ head_unit bytes
    unfolding head_unit old_head_length
    new_unit other =
        let held : 4 + 2 ≤ record_length bytes = omega (arith, not-four known other) in
        rw (ne_eqb (record_length bytes) 4 other, payload-at bytes 0 4 2 held)

    pub head_holds : (reading n : ℕ) (e : ℤ) → little 2 (drop 4 bytes) ≡ 1 → reading ≡ little 2 (drop 6 bytes) → n ≡ little 2 (drop 8 bytes) → e ≡ head_unit bytes
        → (known_reading reading && leb 1 n && leb n 32 && exponent_in_range e) ≡ good_head bytes
    unfolding good_head record_kind
    head_holds reading n e k r s u = rw (k, known, head_reading_lem, head_stages_lem, r, s, u)
