-- Elimination of the lowest stage. The stages are k and the m numbers after it.
use Rattle.std.specs.Prelude.{◌≡◌, ◌↔◌, ℕ, suc, ◌+◌, ◌*◌, ◌<◌}
use Rattle.exact.specs.Systems.{Equations, diag, mix, Solves, AllOut}

-- s_k + Σ_{j>k} T_kj.
unfoldable pub pivot : ℕ → ℕ → Equations → ℕ
pivot k m A = diag (suc k) m (A k)

-- T_ij + T_ik T_kj / p, and s and b likewise (the Schur complement), each row multiplied by the pivot p.
unfoldable pub eliminate : ℕ → ℕ → Equations → Equations
eliminate k m A i =
    record {
      size = λ j. (A i).size j * pivot k m A + (A i).size k * (A k).size j;
      exit = (A i).exit * pivot k m A + (A i).size k * (A k).exit;
      right = (A i).right * pivot k m A + (A i).size k * (A k).right;
    }

-- Row k, solved for z_k.
unfoldable pub Back : ℕ → ℕ → Equations → ℕ → (ℕ → ℕ) → Type 0
Back k m A d z = pivot k m A * z k ≡ (A k).right * d + mix (suc k) m (A k) z

-- Theorem: z solves the system exactly when it solves the eliminated one and row k.
unfoldable pub Elimination : Type 0
Elimination =
    (k m : ℕ) (A : Equations) (d : ℕ) (z : ℕ → ℕ) → 0 < pivot k m A
    → (Solves k (suc m) A d z ↔ (Solves (suc k) m (eliminate k m A) d z × Back k m A d z))

-- Theorem: where the system gets out, the pivot is not zero and the eliminated system gets out.
unfoldable pub EliminationGetsOut : Type 0
EliminationGetsOut =
    (k m : ℕ) (A : Equations) → AllOut k (suc m) A → (0 < pivot k m A) × AllOut (suc k) m (eliminate k m A)

-- Theorem: a system that gets out has a solution, and it is not negative.
unfoldable pub Existence : Type 0
Existence = (k m : ℕ) (A : Equations) → AllOut k m A → (d : ℕ) × (z : ℕ → ℕ) × (0 < d) × Solves k m A d z
