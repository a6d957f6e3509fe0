-- Tables and vectors in compact order, and the way back: place p stands for stage p of a list.
use Rattle.std.specs.Prelude.{◌≡◌, ℕ, ◌<◌, List, Float}
use Rattle.tables.specs.RowMajor.{IsTable, table}
use Rattle.tables.specs.Vectors.{IsVector, vector}

-- The r × r places of xs are the numbers of f between the listed stages.
pub record Packed (r : ℕ) (stage : ℕ → ℕ) (f : ℕ → ℕ → Float) (xs : List Float) : Type 0 where
  pub long : IsTable xs
  pub at : (p q : ℕ) → p < r → q < r → table xs p q ≡ f (stage p) (stage q)

-- A table x, of which xs has the numbers of y between listed stages, and its own elsewhere.
module _ (stage : ℕ → ℕ) (y : ℕ → ℕ → Float) where
  -- At stage p, the places of the first m stages;
  pub record UnpackedRow (p m : ℕ) (x : ℕ → ℕ → Float) (xs : List Float) : Type 0 where
    pub long : IsTable xs
    pub at : (q : ℕ) → q < m → table xs (stage p) (stage q) ≡ y p q
    pub rest : (i j : ℕ) → (i ≡ stage p → (q : ℕ) → q < m → j ≡ stage q → ⊥) → table xs i j ≡ x i j

  -- at the first m stages, the places of the r stages.
  pub record Unpacked (r m : ℕ) (x : ℕ → ℕ → Float) (xs : List Float) : Type 0 where
    pub long : IsTable xs
    pub at : (p q : ℕ) → p < m → q < r → table xs (stage p) (stage q) ≡ y p q
    pub rest : (i j : ℕ) → ((p : ℕ) → p < m → i ≡ stage p → (q : ℕ) → q < r → j ≡ stage q → ⊥) → table xs i j ≡ x i j

-- A vector x in the same way: at the first m stages xs has the numbers of y.
pub record UnpackedVector (stage : ℕ → ℕ) (y : ℕ → Float) (m : ℕ) (x : ℕ → Float) (xs : List Float) : Type 0 where
  pub long : IsVector xs
  pub at : (q : ℕ) → q < m → vector xs (stage q) ≡ y q
  pub rest : (i : ℕ) → ((q : ℕ) → q < m → i ≡ stage q → ⊥) → vector xs i ≡ x i
