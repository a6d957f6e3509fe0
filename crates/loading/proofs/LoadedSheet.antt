-- What the steps see of a loaded sheet: from zeros the sizes are the sheet's as a function, and the margins too; with the leaving rates
-- on the diagonal, and the weights, it is the sheet's system.
use mathlib.Core.Path.{◌≡◌, sym, ap, ◌∙◌, fun_ext}
use Prim.Native.Nat.{ℕ, ◌+◌, ◌*◌, ◌-◌, ◌≤◌, ◌<◌, zero-le}
use native.Mathlib.Omega.{arith}
use mathlib.Core.Bool.{Bool, true, false, cond}
use mathlib.Core.List.{List}
use lib.Dec.{eqb}
use lib.ListN.{length, drop, length-drop}
use lib.Seq.{get_or-drop}
use lib.Ieee.{Float, nan}
use Rattle.exact.proofs.Cases.{by_bool, by_order}
use Rattle.definitions.specs.Numbers.{0·0}
use Rattle.definitions.specs.LeavingRates.{Weights}
use Rattle.definitions.specs.Sheet.{sheet_numbers, size, diagonal, weight, weights, system}
use Rattle.steps.proofs.Sizes.{size_below, size_right, diagonal-below}
use Rattle.steps.proofs.Weights.{SameWeights}
use Rattle.steps.proofs.Same.{Same}
use Rattle.tables.specs.RowMajor.{table, Holds}
use Rattle.tables.specs.Operators.{replace, between}
use Rattle.tables.proofs.Operators.{replace_same, replace_other, between_in, between_past}
use Rattle.shape.specs.Square.{WholeSheet}
use Rattle.passes.specs.Weights.{weights_in, Enough}
use Rattle.passes.specs.Multipliers.{system_in}
use Rattle.passes.proofs.Weights.{no_weights, some_weights}
use Rattle.loading.specs.LoadedTable.{with_sizes, with_rates}

module _ (n : ℕ) (sheet : List Float) where
  sizes_alone : with_sizes n sheet (λ _ _. 0·0) ≡ size n sheet
  unfolding with_sizes
  sizes_alone =
      let zeros : ℕ → ℕ → Float = λ _ _. 0·0 in
      fun_ext (λ i. fun_ext (λ j. by_order n i
      (λ l. ap (λ (row : ℕ → Float). row j) (between_past 0 n (λ i. between 0 n (size n sheet i) (zeros i)) zeros i l) ∙ sym (size_below n sheet i j l))
      (λ l. ap (λ (row : ℕ → Float). row j) (between_in 0 n (λ i. between 0 n (size n sheet i) (zeros i)) zeros i zero-le l) ∙ by_order n j
      (λ m. between_past 0 n (size n sheet i) (zeros i) j m ∙ sym (size_right n sheet i j m))
      (λ m. between_in 0 n (size n sheet i) (zeros i) j zero-le m))))

  pub margins_alone : between 0 n (diagonal n sheet) (λ _. 0·0) ≡ diagonal n sheet
  margins_alone =
      fun_ext (λ i. by_order n i
      (λ l. between_past 0 n (diagonal n sheet) (λ _. 0·0) i l ∙ sym (diagonal-below n sheet i l))
      (λ l. between_in 0 n (diagonal n sheet) (λ _. 0·0) i zero-le l))

  -- The sizes in a table of zeros f, and then the leaving rates.
  module _ {f : ℕ → ℕ → Float} (zeros : f ≡ (λ _ _. 0·0)) {sizes : List Float} (loaded : Holds sizes (with_sizes n sheet f)) where
    pub sizes_are : table sizes ≡ size n sheet
    sizes_are = loaded.is ∙ rw zeros sizes_alone

    pub rates_are : {t : List Float} → Holds t (with_rates n sheet (table sizes)) → table t ≡ with_rates n sheet (size n sheet)
    rates_are h = h.is ∙ rw sizes_are

  rated_row : (i : ℕ) → i < n → with_rates n sheet (size n sheet) i ≡ replace i (diagonal n sheet i) (size n sheet i)
  unfolding with_rates
  rated_row i l = between_in 0 n (λ i. replace i (diagonal n sheet i) (size n sheet i)) (size n sheet) i zero-le l

  pub loaded_system : (reading : ℕ) (w : Weights) → SameWeights n w (weights reading n sheet) → Same n 0 (system_in w (with_rates n sheet (size n sheet))) (system reading n sheet)
  unfolding system
  loaded_system reading w same =
      record {
        sizes = λ i j _ l _ _ o. ap (λ (row : ℕ → Float). row j) (rated_row i l) ∙ replace_other i (diagonal n sheet i) (size n sheet i) j (λ e. o (sym e));
        exits = λ i _ l. ap (λ (row : ℕ → Float). row i) (rated_row i l) ∙ replace_same i (diagonal n sheet i) (size n sheet i);
        weights = same;
      }

-- The numbers behind the n × n are the weights: one for each stage in reading 3, and none in the other readings.
module _ {reading n : ℕ} {sheet : List Float} (whole : WholeSheet reading n sheet) where
  abbrev tail : List Float
  tail = drop (n * n) sheet

  tail-length : length (drop (n * n) sheet) ≡ sheet_numbers reading n - n * n
  tail-length = length-drop (n * n) sheet ∙ ap (λ l. l - n * n) whole.held

  pub enough_weights : Enough n (drop (n * n) sheet)
  unfolding sheet_numbers
  enough_weights = rw tail-length (go (eqb reading 3))
    where
      go : (three : Bool) → 0 < cond three (n * n + n) (n * n) - n * n → n ≤ cond three (n * n + n) (n * n) - n * n
      go true l = omega arith
      go false l = let z : ⊥ = omega arith in absurd z

  pub tail-weights : SameWeights n (weights_in (drop (n * n) sheet)) (weights reading n sheet)
  unfolding weights weight sheet_numbers
  tail-weights = by_bool (eqb reading 3)
      (λ e. rw (e, some_weights tail (rw tail-length (some_left e))) (λ j l. get_or-drop (n * n) sheet j nan))
      (λ e. rw (e, no_weights tail (tail-length ∙ none_left e)) tt)
    where
      some_left : eqb reading 3 ≡ true → 0 < sheet_numbers reading n - n * n
      some_left e = rw e (omega (arith, whole.least))

      none_left : eqb reading 3 ≡ false → sheet_numbers reading n - n * n ≡ 0
      none_left e = rw e (omega arith)
