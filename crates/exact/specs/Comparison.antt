-- Comparison of vectors through a system that gets out, and what follows from it.
use Rattle.std.specs.Prelude.{◌≡◌, ◌≢◌, ◌⊎◌, ℕ, zero, ◌+◌, ◌*◌, ◌≤◌}
use Rattle.exact.specs.Chains.{In}
use Rattle.exact.specs.Systems.{Equations, diag, mix, Solves, AllOut}

-- (A u)_i ≤ (A v)_i, with every term on the side where it is added.
abbrev pub RowBelow : ℕ → ℕ → Equations → (ℕ → ℕ) → (ℕ → ℕ) → ℕ → Type 0
RowBelow k m A u v i = diag k m (A i) * u i + mix k m (A i) v ≤ diag k m (A i) * v i + mix k m (A i) u

-- Theorem: where each stage has u ≤ v given, or its row below, u ≤ v at every stage.
unfoldable pub Comparison : Type 0
Comparison =
    (k m : ℕ) (A : Equations) (u v : ℕ → ℕ) → AllOut k m A
    → ((i : ℕ) → In k m i → (u i ≤ v i) ⊎ RowBelow k m A u v i)
    → (i : ℕ) → In k m i → u i ≤ v i

-- Theorem: two solutions are equal, as fractions.
unfoldable pub Uniqueness : Type 0
Uniqueness =
    (k m : ℕ) (A : Equations) (c d : ℕ) (y z : ℕ → ℕ) → AllOut k m A → Solves k m A c y → Solves k m A d z
    → (i : ℕ) → In k m i → y i * d ≡ z i * c

-- Theorem: a system whose right side is zero off stage j has its largest entry at j.
unfoldable pub LargestAtItsStage : Type 0
LargestAtItsStage =
    (k m : ℕ) (A : Equations) (d : ℕ) (z : ℕ → ℕ) (j : ℕ) → AllOut k m A → Solves k m A d z → In k m j
    → ((i : ℕ) → In k m i → i ≢ j → (A i).right ≡ zero)
    → (i : ℕ) → In k m i → z i ≤ z j
