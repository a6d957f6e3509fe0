-- Operators on sequences, and on tables as sequences of rows: one place changed, and the places from lo up to hi changed. A loop's counter stands for hi.
use Rattle.std.specs.Prelude.{ℕ, ◌&&◌, cond, ltb, leb, eqb, Float}

module _ {A : Type 0} where
  -- x at i, and f elsewhere.
  unfoldable pub replace : ℕ → A → (ℕ → A) → ℕ → A
  replace i x f a = cond (eqb a i) x (f a)

  -- g from lo up to, not including, hi, and f elsewhere.
  unfoldable pub between : ℕ → ℕ → (ℕ → A) → (ℕ → A) → ℕ → A
  between lo hi g f a = cond (leb lo a && ltb a hi) (g a) (f a)

-- The number x at place (i, j) of a table.
unfoldable pub put : ℕ → ℕ → Float → (ℕ → ℕ → Float) → ℕ → ℕ → Float
put i j x f = replace i (replace j x (f i)) f

-- Row i with g from lo up to hi.
unfoldable pub span : ℕ → ℕ → ℕ → (ℕ → Float) → (ℕ → ℕ → Float) → ℕ → ℕ → Float
span i lo hi g f = replace i (between lo hi g (f i)) f
