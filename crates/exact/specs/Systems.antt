-- Linear systems with sizes T_ij, exits s_i and right sides b_i, all whole numbers and none negative. The stages are the m
-- numbers from k on. A vector of fractions is a function to whole numbers over one denominator.
use Rattle.std.specs.Prelude.{◌≡◌, Bool, ℕ, zero, ◌+◌, ◌*◌, ltb}
use Rattle.exact.specs.Chains.{In, GetsOut}
use Rattle.exact.specs.Sums.{sum}

-- One row. Its size to its own stage may be any number: it cancels wherever it stands.
pub record Row : Type 0 where
  pub size : ℕ → ℕ
  pub exit : ℕ
  pub right : ℕ

abbrev pub Equations : Type 0
Equations = ℕ → Row

-- s + Σ T_j: what stands on the diagonal of the matrix.
unfoldable pub diag : ℕ → ℕ → Row → ℕ
diag k m row = row.exit + sum row.size k m

-- Σ T_j z_j: what stands beside it, applied to z.
unfoldable pub mix : ℕ → ℕ → Row → (ℕ → ℕ) → ℕ
mix k m row z = sum (λ j. row.size j * z j) k m

-- (s + Σ T_j) z_i = b d + Σ T_j z_j: the row of stage i holds for z over the denominator d.
abbrev pub RowHolds : ℕ → ℕ → Row → ℕ → (ℕ → ℕ) → ℕ → Type 0
RowHolds k m row d z i = diag k m row * z i ≡ row.right * d + mix k m row z

-- z over the denominator d solves the system.
pub record Solves (k m : ℕ) (A : Equations) (d : ℕ) (z : ℕ → ℕ) : Type 0 where
  pub row : (i : ℕ) → In k m i → RowHolds k m (A i) d z i

-- Which moves and which exits there are: a number that is not zero.
abbrev pub moves : Equations → ℕ → ℕ → Bool
moves A i j = ltb zero ((A i).size j)

abbrev pub exits : Equations → ℕ → Bool
exits A i = ltb zero (A i).exit

-- The system gets out: from every stage a chain of nonzero sizes leads to a stage whose exit is not zero.
pub record AllOut (k m : ℕ) (A : Equations) : Type 0 where
  pub out : (i : ℕ) → In k m i → GetsOut k m (moves A) (exits A) i

-- The same sizes and exits with another right side.
abbrev pub with_right : Equations → (ℕ → ℕ) → Equations
with_right A b i = record { size = (A i).size; exit = (A i).exit; right = b i }
