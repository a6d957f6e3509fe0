-- Rows and diagonals as they are loaded: the literal 0.0 is plus zero.
use mathlib.Core.Path.{◌≡◌, sym, ap, ◌∙◌, fun_ext}
use Prim.Native.Nat.{ℕ, ◌<◌, zero-le}
use mathlib.Core.List.{List}
use lib.Ieee.{Float, binary64, of_bits}
use Rattle.exact.proofs.Cases.{by_equal, by_order}
use Rattle.definitions.specs.Numbers.{◌⊕◌, ◌⊖◌, 0·0}
use Rattle.definitions.specs.Sheet.{place, size, diagonal}
use Rattle.rounding.proofs.Words.{zero_word}
use Rattle.steps.proofs.Sizes.{size-at, size-own, diagonal-at}
use Rattle.tables.specs.RowMajor.{table, Holds}
use Rattle.tables.specs.Operators.{replace, between, put, span}
use Rattle.tables.proofs.Operators.{replace_same, replace_other, between_in, between_past, put_replaced}
use Rattle.loading.specs.LoadedTable.{negated}

module _ (n : ℕ) (sheet : List Float) (i : ℕ) where
  pub as_negated : (j : ℕ) {x : Float} → x ≡ place n sheet i j → of_bits binary64 0 ⊖ x ≡ negated n sheet i j
  unfolding negated
  as_negated j e = rw (zero_word, e)

  pub as_diagonal : {x : Float} → i < n → x ≡ place n sheet i i → x ⊕ of_bits binary64 0 ≡ diagonal n sheet i
  as_diagonal l e = rw (zero_word, e) (sym (diagonal-at n sheet i l))

  row_sizes : (own : ℕ → Float) → i < n → replace i 0·0 (between 0 n (negated n sheet i) own) ≡ between 0 n (size n sheet i) own
  unfolding negated
  row_sizes own h =
      let signs = between 0 n (negated n sheet i) own in
      fun_ext (λ j. by_equal j i
      (λ e. rw e (replace_same i 0·0 signs ∙ sym (size-own n sheet i) ∙ sym (between_in 0 n (size n sheet i) own i zero-le h)))
      (λ o. replace_other i 0·0 signs j o ∙ by_order n j
      (λ l. between_past 0 n (negated n sheet i) own j l ∙ sym (between_past 0 n (size n sheet i) own j l))
      (λ l. between_in 0 n (negated n sheet i) own j zero-le l ∙ sym (size-at n sheet i j h l (λ e. o (sym e))) ∙ sym (between_in 0 n (size n sheet i) own j zero-le l))))

  pub row_loaded : (f : ℕ → ℕ → Float) {xs ys : List Float} → i < n
      → Holds xs (span i 0 n (negated n sheet i) f)
      → Holds ys (put i i (of_bits binary64 0) (table xs))
      → Holds ys (span i 0 n (size n sheet i) f)
  unfolding span
  row_loaded f l h k =
      record {
        long = k.long;
        is = k.is ∙ rw (h.is, zero_word, put_replaced i i 0·0 (between 0 n (negated n sheet i) (f i)) f) (ap (λ (row : ℕ → Float). replace i row f) (row_sizes (f i) l));
      }
