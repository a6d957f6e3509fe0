-- A row after two stages, one after the other and both at once: each place gets the same operations in the same order.
use mathlib.Core.Path.{◌≡◌, sym, ap, ◌∙◌, fun_ext}
use Prim.Native.Nat.{ℕ, suc, ◌<◌}
use native.Mathlib.Omega.{arith}
use lib.Ieee.{Float}
use Rattle.exact.proofs.Cases.{by_equal, by_order}
use Rattle.definitions.specs.Numbers.{◌⊕◌, ◌⊗◌, ◌⊘◌}
use Rattle.tables.specs.Operators.{replace, between}
use Rattle.tables.specs.Rows.{plus_multiple}
use Rattle.tables.proofs.Operators.{replace_same, replace_other, between_in, between_out}
use Rattle.passes.specs.Stages.{plus_two}

-- Row i, with its multiplier of stage k in column k, and the row of stage k, whose running sum is s.
module _ (r k i : ℕ) (l : suc k < i) (h : i < r) (s : Float) (own first : ℕ → Float) where
  -- The sums of stage k: all of them, and in column k + 1 alone.
  sums : ℕ → Float
  sums = between (suc k) r (plus_multiple (own k) own first) own

  abbrev after_first : ℕ → Float
  after_first = replace i (own i ⊕ own k ⊗ s) (between (suc k) r (plus_multiple (own k) own first) own)

  abbrev column : ℕ → Float
  column = replace (suc k) (own (suc k) ⊕ own k ⊗ first (suc k)) own

  first_exit : after_first i ≡ own i ⊕ own k ⊗ s
  unfolding sums
  first_exit = replace_same i (own i ⊕ own k ⊗ s) sums

  first_in : (j : ℕ) → k < j → j < r → (j ≡ i → ⊥) → after_first j ≡ own j ⊕ own k ⊗ first j
  unfolding sums plus_multiple
  first_in j a b n = replace_other i (own i ⊕ own k ⊗ s) sums j n ∙ between_in (suc k) r (plus_multiple (own k) own first) own j a b

  first_out : (j : ℕ) → (k < j → j < r → ⊥) → after_first j ≡ own j
  unfolding sums
  first_out j n = replace_other i (own i ⊕ own k ⊗ s) sums j (λ e. n (omega arith) (omega arith)) ∙ between_out (suc k) r (plus_multiple (own k) own first) own j n

  first_next : after_first (suc k) ≡ own (suc k) ⊕ own k ⊗ first (suc k)
  first_next = first_in (suc k) (omega arith) (omega arith) (λ e. omega arith)

  column-next : column (suc k) ≡ own (suc k) ⊕ own k ⊗ first (suc k)
  column-next = replace_same (suc k) (own (suc k) ⊕ own k ⊗ first (suc k)) own

  pub column_same : column (suc k) ≡ after_first (suc k)
  column_same = column-next ∙ sym first_next

  -- The row of stage k + 1, its running sum and its pivot.
  module _ (s' p : Float) (second : ℕ → Float) where
    -- One after the other: the sums of stage k, the multiplier of stage k + 1, and its sums.
    abbrev divided : ℕ → Float
    divided = replace (suc k) (after_first (suc k) ⊘ p) after_first

    abbrev pub one_by_one : ℕ → Float
    one_by_one = replace i (divided i ⊕ divided (suc k) ⊗ s') (between (suc (suc k)) r (plus_multiple (divided (suc k)) divided second) divided)

    -- Both at once: column k + 1, the multiplier, and the sums of both stages.
    abbrev early : ℕ → Float
    early = replace (suc k) (column (suc k) ⊘ p) column

    abbrev pub at_once : ℕ → Float
    at_once = replace i (early i ⊕ early k ⊗ s ⊕ early (suc k) ⊗ s') (between (suc (suc k)) r (plus_two (early k) (early (suc k)) early first second) early)

    -- The multiplier, and the other places.
    m : Float
    m = (own (suc k) ⊕ own k ⊗ first (suc k)) ⊘ p

    divided-next : divided (suc k) ≡ m
    unfolding m
    divided-next = replace_same (suc k) (after_first (suc k) ⊘ p) after_first ∙ ap (λ x. x ⊘ p) first_next

    divided_else : (j : ℕ) → (j ≡ suc k → ⊥) → divided j ≡ after_first j
    divided_else j n = replace_other (suc k) (after_first (suc k) ⊘ p) after_first j n

    early-next : early (suc k) ≡ m
    unfolding m
    early-next = replace_same (suc k) (column (suc k) ⊘ p) column ∙ ap (λ x. x ⊘ p) column-next

    early_else : (j : ℕ) → (j ≡ suc k → ⊥) → early j ≡ own j
    early_else j n = replace_other (suc k) (column (suc k) ⊘ p) column j n ∙ replace_other (suc k) (own (suc k) ⊕ own k ⊗ first (suc k)) own j n

    later : ℕ → Float
    later = between (suc (suc k)) r (plus_multiple (divided (suc k)) divided second) divided

    later_both : ℕ → Float
    later_both = between (suc (suc k)) r (plus_two (early k) (early (suc k)) early first second) early

    -- On the diagonal.
    at_once_exit : at_once i ≡ own i ⊕ own k ⊗ s ⊕ m ⊗ s'
    unfolding later_both
    at_once_exit =
        replace_same i (early i ⊕ early k ⊗ s ⊕ early (suc k) ⊗ s') later_both
        ∙ rw (early_else i (λ e. omega arith), early_else k (λ e. omega arith), early-next)

    one_by_one_exit : one_by_one i ≡ own i ⊕ own k ⊗ s ⊕ m ⊗ s'
    unfolding later
    one_by_one_exit = replace_same i (divided i ⊕ divided (suc k) ⊗ s') later ∙ rw (divided-next, divided_else i (λ e. omega arith), first_exit)

    -- Off it, in the columns after k + 1.
    module _ (j : ℕ) (a : suc k < j) (b : j < r) (n : j ≡ i → ⊥) where
      at_once_in : at_once j ≡ own j ⊕ own k ⊗ first j ⊕ m ⊗ second j
      unfolding later_both plus_two
      at_once_in =
          replace_other i (early i ⊕ early k ⊗ s ⊕ early (suc k) ⊗ s') later_both j n
          ∙ between_in (suc (suc k)) r (plus_two (early k) (early (suc k)) early first second) early j a b
          ∙ rw (early_else j (λ e. omega arith), early_else k (λ e. omega arith), early-next)

      one_by_one_in : one_by_one j ≡ own j ⊕ own k ⊗ first j ⊕ m ⊗ second j
      unfolding later plus_multiple
      one_by_one_in =
          replace_other i (divided i ⊕ divided (suc k) ⊗ s') later j n
          ∙ between_in (suc (suc k)) r (plus_multiple (divided (suc k)) divided second) divided j a b
          ∙ rw (divided-next, divided_else j (λ e. omega arith), first_in j (omega arith) b n)

    -- In the other columns, those from r on too.
    module _ (j : ℕ) (n : suc k < j → j < r → ⊥) where
      at_once_out : at_once j ≡ early j
      unfolding later_both
      at_once_out =
          replace_other i (early i ⊕ early k ⊗ s ⊕ early (suc k) ⊗ s') later_both j (λ e. n (omega arith) (omega arith))
          ∙ between_out (suc (suc k)) r (plus_two (early k) (early (suc k)) early first second) early j n

      one_by_one_out : one_by_one j ≡ divided j
      unfolding later
      one_by_one_out =
          replace_other i (divided i ⊕ divided (suc k) ⊗ s') later j (λ e. n (omega arith) (omega arith))
          ∙ between_out (suc (suc k)) r (plus_multiple (divided (suc k)) divided second) divided j n

      divided_same : early j ≡ divided j
      divided_same =
          by_equal j (suc k)
          (λ e. rw e (early-next ∙ sym divided-next))
          (λ o. early_else j o ∙ sym (divided_else j o ∙ first_out j (λ a b. n (omega arith) b)))

      outside : at_once j ≡ one_by_one j
      outside = at_once_out ∙ divided_same ∙ sym one_by_one_out

    pub at_once_lem : at_once ≡ one_by_one
    at_once_lem =
        fun_ext (λ j. by_equal j i
        (λ e. rw e (at_once_exit ∙ sym one_by_one_exit))
        (λ n. by_order (suc (suc k)) j
        (λ a. by_order r j (λ b. outside j (λ c d. omega arith)) (λ b. at_once_in j a b n ∙ sym (one_by_one_in j a b n)))
        (λ a. outside j (λ c d. omega arith))))
