-- What the tests of a stage tell: they look at the pivot, and at the products of its rows.
use Rattle.std.specs.Prelude.{ℕ, suc, ◌<◌, Bool, ◌&&◌, List, ◌≡◌, T, Float}
use Rattle.definitions.specs.Numbers.{◌⊕◌, ◌⊗◌, ◌⊘◌, finite}
use Rattle.definitions.specs.LeavingRates.{Weights, pivot, pivot_in_range, stage_in_range}
use Rattle.tables.specs.RowMajor.{Holds}
use Rattle.passes.specs.Told.{Told}
use Rattle.passes.specs.Multipliers.{system_in}
use Rattle.passes.specs.Stages.{IsStage, row_test, row_tests, multiplied_rows, stage_done}

-- The results of row i at stage k that are finite: the leaving rate, and the sizes off the diagonal; and those of all rows.
pub record RowFinite (r k i : ℕ) (p : Float) (own other : ℕ → Float) : Type 0 where
  pub exit : T (finite (own i ⊕ (own k ⊘ p) ⊗ other k))
  pub sizes : (j : ℕ) → k < j → j < r → (i ≡ j → ⊥) → T (finite (own j ⊕ (own k ⊘ p) ⊗ other j))

abbrev pub StageFinite : ℕ → ℕ → Float → (ℕ → ℕ → Float) → Type 0
StageFinite r k p f = (i : ℕ) → k < i → i < r → RowFinite r k i p (f i) (f k)

-- A row's test looks at its size x in column k and at the other row alone, and tells of every row with that size.
abbrev pub RowTold : ℕ → ℕ → ℕ → Float → Float → (ℕ → Float) → Bool → Type 0
RowTold r k i p x other ok = (own : ℕ → Float) → own k ≡ x → Told ok (row_test r k i p own other) (RowFinite r k i p own other)

-- So those of all rows tell of every table g with the same row k and, below it, the same column k.
pub record Alike (r k : ℕ) (f g : ℕ → ℕ → Float) : Type 0 where
  pub row : g k ≡ f k
  pub column : (i : ℕ) → k < i → i < r → g i k ≡ f i k

abbrev pub RowsTold : ℕ → ℕ → Float → (ℕ → ℕ → Float) → Bool → Type 0
RowsTold r k p f ok = (g : ℕ → ℕ → Float) → Alike r k f g → Told ok (row_tests r k p g) (StageFinite r k p g)

-- Document 01's test of stage k on the table f.
abbrev pub stage_test : Weights → ℕ → ℕ → (ℕ → ℕ → Float) → Bool
stage_test w r k f = stage_in_range r (λ _. system_in w f) k

-- A function that does stage k up to its multipliers, and tells of its tests. The pivot's part is made as it stands, so ok alone gives it.
pub record StageBegins (w : Weights) (r k : ℕ) (f : ℕ → ℕ → Float) (s p : Float) (ok : Bool) (xs : List Float) : Type 0 where
  pub stage : IsStage w r k f s p
  pub told : (g : ℕ → ℕ → Float) → Alike r k f g → Told ok (pivot_in_range r (system_in w f) k && row_tests r k p g) (StageFinite r k p g)
  pub tested : T ok → T (finite p)
  pub holds : Holds xs (multiplied_rows k p r f)

-- A function that does stage k, and tells so of its test.
pub record StageFinds (w : Weights) (r k : ℕ) (f : ℕ → ℕ → Float) (ok : Bool) (xs : List Float) : Type 0 where
  pub told : Told ok (stage_test w r k f) (StageFinite r k (pivot r (system_in w f) k) f)
  pub tested : T ok → T (finite (pivot r (system_in w f) k))
  pub holds : Holds xs (stage_done w r k f)

-- A function that does stages k and k + 1, and tells so of both tests.
pub record PairFinds (w : Weights) (r k : ℕ) (f : ℕ → ℕ → Float) (ok : Bool) (xs : List Float) : Type 0 where
  pub told : Told ok
      (stage_test w r k f && stage_test w r (suc k) (stage_done w r k f))
      (StageFinite r k (pivot r (system_in w f) k) f × StageFinite r (suc k) (pivot r (system_in w (stage_done w r k f)) (suc k)) (stage_done w r k f))
  pub tested : T ok → T (finite (pivot r (system_in w f) k)) × T (finite (pivot r (system_in w (stage_done w r k f)) (suc k)))
  pub holds : Holds xs (stage_done w r (suc k) (stage_done w r k f))
