-- Eight numbers of a row side by side, and the rows that are added to them.
use Rattle.std.specs.Prelude.{◌≡◌, ℕ, ◌+◌, ◌-◌, ◌≤◌, Bool, true, false, cond, Float}
use Rattle.blocks.specs.declared.Eight.{Eight}

-- x has the numbers of a row from column j on.
pub record Carries (x : Eight) (row : ℕ → Float) (j : ℕ) : Type 0 where
  pub first : x.a ≡ row j
  pub second : x.b ≡ row (j + 1)
  pub third : x.c ≡ row (j + 2)
  pub fourth : x.d ≡ row (j + 3)
  pub fifth : x.e ≡ row (j + 4)
  pub sixth : x.f ≡ row (j + 5)
  pub seventh : x.g ≡ row (j + 6)
  pub eighth : x.h ≡ row (j + 7)

-- The row that comes q rows after the first.
unfoldable pub nth : ℕ → Bool → ℕ → ℕ
nth first falling q = cond falling (first - q) (first + q)

-- The rows up to the one that comes `count` rows after the first are rows of a working table.
pub record Reaches (first count : ℕ) (falling : Bool) : Type 0 where
  pub falls : falling ≡ true → count ≤ first
  pub rises : falling ≡ false → first + count ≤ 32
