-- The record due behind the head, by one form for a row and for the weights: its kind, its row number, and in how many bytes that stands. The weights have none.
use Prim.Native.Nat.{ℕ, ◌+◌, ◌*◌, ◌^◌, ◌≤◌, ◌<◌}
use mathlib.Core.Bool.{true, ◌&&◌, cond, and-true}
use mathlib.Core.List.{List, ◌++◌}
use mathlib.Core.Path.{◌≡◌, sym, ◌∙◌}
use native.Mathlib.Nat.{zero-add}
use native.Mathlib.Omega.{arith}
use borrow.Author.Tests.{le-leb, lt-leb, eq-eqb, eqb-true}
use lib.Dec.{leb, eqb, lit<}
use lib.ListN.{drop}
use Rattle.exact.proofs.Bools.{and_first, and_second}
use Rattle.exact.proofs.Cases.{by_bool}
use Rattle.definitions.specs.File.{little, record_length, record_kind, payload, good_row, good_weights, good_record, number_bytes}
use Rattle.definitions.specs.Saving.{little_bytes, record_bytes, word_bytes, row_bytes, weight_bytes, bytes_due}

unfoldable pub kind_due : ℕ → ℕ → ℕ
kind_due n due = cond (leb due n) 2 3

unfoldable pub number_due : ℕ → ℕ → ℕ
number_due n due = cond (leb due n) due 0

unfoldable pub width_due : ℕ → ℕ → ℕ
width_due n due = cond (leb due n) 2 0

module _ (n due : ℕ) where
  pub row-width : due ≤ n → width_due n due ≡ 2
  unfolding width_due
  row-width h = rw (le-leb due n h)

  pub weights-width : n < due → width_due n due ≡ 0
  unfolding width_due
  weights-width h = rw (lt-leb due n h)

  pub width_small : width_due n due ≤ 2
  unfolding width_due
  width_small = by_bool (leb due n) (λ t. rw t (omega arith)) (λ f. rw f (omega arith))

  -- The kind and the row number fit their bytes.
  pub kind_narrow : kind_due n due < 256 ^ 2
  unfolding kind_due
  kind_narrow = by_bool (leb due n) (λ t. rw t (lit< tt)) (λ f. rw f (lit< tt))

  pub number_narrow : due < 256 ^ 2 → number_due n due < 256 ^ width_due n due
  unfolding number_due width_due
  number_narrow h = by_bool (leb due n) (λ t. rw t h) (λ f. rw f (lit< tt))

-- Question 13, where the numbers of the record stand, and the record's bytes, in this form.
module _ (n due : ℕ) where
  module _ (bytes : List ℕ) where
    pub good_due : good_record n due bytes ≡ (eqb (record_kind bytes) (kind_due n due) && eqb (record_length bytes) (width_due n due + 8 * n) && eqb (little (width_due n due) (payload bytes)) (number_due n due))
    unfolding good_record good_row good_weights kind_due number_due width_due little
    good_due = by_bool (leb due n) (λ t. rw t) (λ f. rw (f, zero-add (8 * n)) (sym (and-true (eqb (record_kind bytes) 3 && eqb (record_length bytes) (8 * n)))))

    pub numbers_due : number_bytes n due bytes ≡ drop (width_due n due) (payload bytes)
    unfolding number_bytes width_due
    numbers_due = by_bool (leb due n) (λ t. rw t) (λ f. rw f)

  pub bytes_due_lem : (words : List ℕ) → bytes_due n due words ≡ record_bytes (kind_due n due) (little_bytes (width_due n due) (number_due n due) ++ word_bytes words)
  unfolding bytes_due row_bytes weight_bytes kind_due number_due width_due little_bytes
  bytes_due_lem words = by_bool (leb due n) (λ t. rw t) (λ f. rw f)

-- What a record that passes question 13 says, and what it has to say to pass.
pub record RecordRead (n due : ℕ) (bytes : List ℕ) : Type 0 where
  pub kind : record_kind bytes ≡ kind_due n due
  pub size : record_length bytes ≡ width_due n due + 8 * n
  pub number : little (width_due n due) (payload bytes) ≡ number_due n due

module _ (n due : ℕ) (bytes : List ℕ) where
  pub record_read : good_record n due bytes ≡ true → RecordRead n due bytes
  record_read e =
      let kind = eqb (record_kind bytes) (kind_due n due) in
      let size = eqb (record_length bytes) (width_due n due + 8 * n) in
      let number = eqb (little (width_due n due) (payload bytes)) (number_due n due) in
      let all : kind && size && number ≡ true = rw (good_due n due bytes) at e in
      let up_to_size = and_first (kind && size) number all in
      record {
        kind = eqb-true (record_kind bytes) (kind_due n due) (and_first kind size up_to_size);
        size = eqb-true (record_length bytes) (width_due n due + 8 * n) (and_second kind size up_to_size);
        number = eqb-true (little (width_due n due) (payload bytes)) (number_due n due) (and_second (kind && size) number all);
      }

  pub read_good : RecordRead n due bytes → good_record n due bytes ≡ true
  read_good r =
      good_due n due bytes
      ∙ rw (eq-eqb (record_kind bytes) (kind_due n due) r.kind, eq-eqb (record_length bytes) (width_due n due + 8 * n) r.size, eq-eqb (little (width_due n due) (payload bytes)) (number_due n due) r.number)
