-- The exact ratios h_j / a_jj of the margins as whole numbers K_j over one denominator D, for sizes t_ij and margins d_i of n
-- stages that are whole numbers too. No t_ii is read but in the last law, where it cancels.
use Rattle.std.specs.Prelude.{◌≡◌, ◌↔◌, ℕ, suc, ◌+◌, ◌*◌, ◌-◌, ◌<◌}
use Rattle.exact.specs.Sums.{sum}

-- h_i over D: Σ_{j<i} t_ij K_j + Σ_{j>i} t_ij D.
unfoldable pub H : ℕ → (ℕ → ℕ → ℕ) → ℕ → (ℕ → ℕ) → ℕ → ℕ
H n t D K i = sum (λ j. t i j * K j) 0 i + sum (t i) (suc i) (n - suc i) * D

-- K_i / D = h_i / (d_i + h_i) for each stage, multiplied across; the margins are positive.
pub record ExactRatios (n : ℕ) (t : ℕ → ℕ → ℕ) (d : ℕ → ℕ) (D : ℕ) (K : ℕ → ℕ) : Type 0 where
  pub positive : 0 < D
  pub margin : (i : ℕ) → i < n → 0 < d i
  pub each : (i : ℕ) → i < n → K i * (d i * D + H n t D K i) ≡ D * H n t D K i

-- Theorem: there are such numbers.
unfoldable pub RatiosExist : Type 0
RatiosExist =
    (n : ℕ) (t : ℕ → ℕ → ℕ) (d : ℕ → ℕ) → ((i : ℕ) → i < n → 0 < d i) → (D : ℕ) × (K : ℕ → ℕ) × ExactRatios n t d D K

-- What else the margins use of such numbers at a stage i: h_i / a_ii is below 1, it is zero exactly where h_i is, its
-- complement is d_i / a_ii, and h_i is the row sum Σ_{j>i} t_ij d_j / a_jj and the sizes t_ij h_j / a_jj of the scaled system.
pub record RatioLaws (n : ℕ) (t : ℕ → ℕ → ℕ) (d : ℕ → ℕ) (D : ℕ) (K : ℕ → ℕ) (i : ℕ) : Type 0 where
  pub below_one : K i < D
  pub zero : (H n t D K i ≡ 0) ↔ (K i ≡ 0)
  pub complement : (D - K i) * (d i * D + H n t D K i) ≡ D * (d i * D)
  pub scaled :
      H n t D K i + t i i * K i ≡ sum (λ j. t i j * (D - K j)) (suc i) (n - suc i) + sum (λ j. t i j * K j) 0 n

-- Theorem: they hold.
unfoldable pub RatiosObey : Type 0
RatiosObey =
    (n : ℕ) (t : ℕ → ℕ → ℕ) (d : ℕ → ℕ) (D : ℕ) (K : ℕ → ℕ)
    → ExactRatios n t d D K → (i : ℕ) → i < n → RatioLaws n t d D K i
