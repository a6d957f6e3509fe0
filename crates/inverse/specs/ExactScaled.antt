-- Reading 2 scaled by its ratios: with x_j = (K_j / D) y_j the rows of the kept stages are a system of the kind that the exact
-- theory knows.
use Rattle.std.specs.Prelude.{ℕ, suc, ◌+◌, ◌*◌, ◌-◌}
use Rattle.exact.specs.Sums.{sum}
use Rattle.exact.specs.Systems.{Equations, AllOut}
use Rattle.definitions.specs.Matrix.{every_stage}
use Rattle.inverse.specs.Reduction.{delta, Regular}
use Rattle.inverse.specs.ExactRatios.{H, ExactRatios}

-- Sizes t_ij K_j and exits Σ_{j>i} t_ij (D − K_j). A stage that is not kept has K_i = 0, and an exit of 1.
unfoldable pub scaled : ℕ → (ℕ → ℕ → ℕ) → ℕ → (ℕ → ℕ) → Equations
scaled n t D K i =
    record {
      size = λ j. t i j * K j;
      exit = sum (λ j. t i j * (D - K j)) (suc i) (n - suc i) + delta (K i) 0 1;
      right = 0;
    }

-- Theorem: it gets out. A kept stage has a size to a later one, and so an exit, or to an earlier kept one.
unfoldable pub ScaledGetsOut : Type 0
ScaledGetsOut =
    (n : ℕ) (t : ℕ → ℕ → ℕ) (d : ℕ → ℕ) (D : ℕ) (K : ℕ → ℕ) → ExactRatios n t d D K → AllOut 0 n (scaled n t D K)

-- Theorem: the row form of reading 2 is regular.
unfoldable pub MarginsRegular : Type 0
MarginsRegular =
    (n : ℕ) (t : ℕ → ℕ → ℕ) (d : ℕ → ℕ) (D : ℕ) (K : ℕ → ℕ) → ExactRatios n t d D K
    → Regular n every_stage (λ i. d i * D + H n t D K i + t i i * D) (λ i j. t i j * D)
