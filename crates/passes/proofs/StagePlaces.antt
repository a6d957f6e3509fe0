-- The places of a table after stage k, and that the stage is one step of document 01.
use mathlib.Core.Path.{◌≡◌, sym, ap, ◌∙◌}
use Prim.Native.Nat.{ℕ, suc, ◌≤◌, ◌<◌}
use native.Mathlib.Omega.{arith}
use lib.Ieee.{Float}
use Rattle.definitions.specs.Numbers.{◌⊕◌, ◌⊗◌, ◌⊘◌, 0·0}
use Rattle.definitions.specs.LeavingRates.{Weights, pivot, multiplier, eliminate}
use Rattle.steps.proofs.TableLaws.{stored_at, stored_table-at}
use Rattle.steps.proofs.Weights.{weights-refl}
use Rattle.steps.proofs.Same.{Same}
use Rattle.tables.specs.Operators.{replace, between, put}
use Rattle.tables.specs.Rows.{plus_multiple}
use Rattle.tables.proofs.Operators.{replace_same, replace_other, between_in, between-low, between_past}
use Rattle.passes.specs.Multipliers.{system_in}
use Rattle.passes.specs.Stages.{multiplier_row, multiplied_rows, eliminated_row, eliminated_rows, stage_done}

module _ (w : Weights) (r k : ℕ) (f : ℕ → ℕ → Float) where
  q : Float
  q = pivot r (system_in w f) k

  multiplied : ℕ → ℕ → Float
  multiplied = multiplied_rows k q r f

  done : ℕ → ℕ → Float
  done = eliminated_rows r k (f k k) r multiplied

  -- Row k, and the rows before it.
  before_multiplied : (i : ℕ) → i ≤ k → multiplied i ≡ f i
  unfolding multiplied multiplied_rows
  before_multiplied i l = between-low (suc k) r (multiplier_row k q f) f i (omega arith)

  before_done : (i : ℕ) → i ≤ k → done i ≡ f i
  unfolding done eliminated_rows
  before_done i l = between-low (suc k) r (eliminated_row r k (f k k) multiplied) multiplied i (omega arith) ∙ before_multiplied i l

  other_row : (i : ℕ) → (i ≡ k → ⊥) → stage_done w r k f i ≡ done i
  unfolding stage_done put q multiplied done
  other_row i n = replace_other k (replace k q (done k)) done i n

  pub pivot-row : stage_done w r k f k ≡ replace k (pivot r (system_in w f) k) (f k)
  unfolding stage_done put q multiplied done
  pivot-row = replace_same k (replace k q (done k)) done ∙ ap (replace k q) (before_done k (omega arith))

  pub pivot-place : stage_done w r k f k k ≡ pivot r (system_in w f) k
  pivot-place = ap (λ (row : ℕ → Float). row k) pivot-row ∙ replace_same k (pivot r (system_in w f) k) (f k)

  pub pivot-row_keeps : (j : ℕ) → (j ≡ k → ⊥) → stage_done w r k f k j ≡ f k j
  pivot-row_keeps j n = ap (λ (row : ℕ → Float). row j) pivot-row ∙ replace_other k (pivot r (system_in w f) k) (f k) j n

  pub earlier-row_keeps : (i : ℕ) → i < k → stage_done w r k f i ≡ f i
  earlier-row_keeps i l = other_row i (λ e. omega arith) ∙ before_done i (omega arith)

  pub past_row_keeps : k < r → (i : ℕ) → r ≤ i → stage_done w r k f i ≡ f i
  unfolding done multiplied multiplied_rows eliminated_rows
  past_row_keeps h i l =
      other_row i (λ e. omega arith)
      ∙ between_past (suc k) r (eliminated_row r k (f k k) multiplied) multiplied i l
      ∙ between_past (suc k) r (multiplier_row k q f) f i l

  -- Row i after it, with its multiplier m in column k.
  module _ (i : ℕ) (l : k < i) (h : i < r) where
    m : Float
    m = f i k ⊘ q

    row-multiplied : multiplied i ≡ replace k m (f i)
    unfolding multiplied multiplied_rows multiplier_row m
    row-multiplied = between_in (suc k) r (multiplier_row k q f) f i l h

    place-multiplied : (j : ℕ) → (j ≡ k → ⊥) → multiplied i j ≡ f i j
    place-multiplied j n = ap (λ (row : ℕ → Float). row j) row-multiplied ∙ replace_other k m (f i) j n

    at-k : multiplied i k ≡ m
    at-k = ap (λ (row : ℕ → Float). row k) row-multiplied ∙ replace_same k m (f i)

    pub later_row : stage_done w r k f i ≡ eliminated_row r k (f k k) (multiplied_rows k (pivot r (system_in w f) k) r f) i
    unfolding done multiplied q eliminated_rows
    later_row = other_row i (λ e. omega arith) ∙ between_in (suc k) r (eliminated_row r k (f k k) multiplied) multiplied i l h

    row_done : (j : ℕ) → stage_done w r k f i j ≡ eliminated_row r k (f k k) multiplied i j
    unfolding multiplied q
    row_done j = ap (λ (row : ℕ → Float). row j) later_row

    sums : ℕ → Float
    sums = between (suc k) r (plus_multiple (multiplied i k) (multiplied i) (multiplied k)) (multiplied i)

    pub exit_place : stage_done w r k f i i ≡ f i i ⊕ (f i k ⊘ pivot r (system_in w f) k) ⊗ f k k
    unfolding eliminated_row sums q m
    exit_place =
        row_done i
        ∙ replace_same i (multiplied i i ⊕ multiplied i k ⊗ f k k) sums
        ∙ rw (place-multiplied i (λ e. omega arith), at-k)

    off_diagonal : (j : ℕ) → (j ≡ i → ⊥) → stage_done w r k f i j ≡ sums j
    unfolding eliminated_row sums
    off_diagonal j n = row_done j ∙ replace_other i (multiplied i i ⊕ multiplied i k ⊗ f k k) sums j n

    pub size-place : (j : ℕ) → k < j → j < r → (i ≡ j → ⊥) → stage_done w r k f i j ≡ f i j ⊕ (f i k ⊘ pivot r (system_in w f) k) ⊗ f k j
    unfolding plus_multiple sums q m
    size-place j a b n =
        off_diagonal j (λ e. n (sym e))
        ∙ between_in (suc k) r (plus_multiple (multiplied i k) (multiplied i) (multiplied k)) (multiplied i) j a b
        ∙ rw (place-multiplied j (λ e. omega arith), at-k, before_multiplied k (omega arith))

    pub multiplier-place : stage_done w r k f i k ≡ f i k ⊘ pivot r (system_in w f) k
    unfolding sums q m
    multiplier-place =
        off_diagonal k (λ e. omega arith)
        ∙ between-low (suc k) r (plus_multiple (multiplied i k) (multiplied i) (multiplied k)) (multiplied i) k (omega arith)
        ∙ at-k

    pub earlier-place_keeps : (j : ℕ) → j < k → stage_done w r k f i j ≡ f i j
    unfolding sums
    earlier-place_keeps j a =
        off_diagonal j (λ e. omega arith)
        ∙ between-low (suc k) r (plus_multiple (multiplied i k) (multiplied i) (multiplied k)) (multiplied i) j (omega arith)
        ∙ place-multiplied j (λ e. omega arith)

-- A stage is one step of the definition.
pub stage_is_step : (w : Weights) (r k : ℕ) (f : ℕ → ℕ → Float) → k < r → Same r (suc k) (system_in w (stage_done w r k f)) (eliminate r (system_in w f) k)
unfolding eliminate multiplier
stage_is_step w r k f h =
    record {
      sizes = λ i j l m l' m' n. size-place w r k f i l m j l' m' n ∙ sym (stored_table-at 0·0 r (λ i j. f i j ⊕ multiplier r (system_in w f) k i ⊗ f k j) i j m m');
      exits = λ i l m. exit_place w r k f i l m ∙ sym (stored_at 0·0 r (λ i. f i i ⊕ multiplier r (system_in w f) k i ⊗ f k k) i m);
      weights = weights-refl r w;
    }
