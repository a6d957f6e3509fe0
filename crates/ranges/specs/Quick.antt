-- The quick test of a multiplier against a bound lo: it is zero, or m·lo is above 2^-1022. The multiplier is a number of the format.
use Rattle.std.specs.Prelude.{◌≡◌, ℕ, ◌-◌, ◌≤◌, ◌<◌, Bool, ◌||◌, T, Float}
use Rattle.std.specs.Float.{binary64}
use Rattle.std.specs.Float.Ieee.{fits, lt}
use Rattle.definitions.specs.Numbers.{◌⊗◌, smallest, is_zero, all}
use Rattle.tables.specs.Rows.{times_in_range}

pub record QuickMultiplier (m lo : Float) (ok : Bool) : Type 0 where
  pub is : ok ≡ (is_zero m || lt smallest (m ⊗ lo))
  pub held : T (fits binary64 m)

unfoldable pub quick_at : Float → (ℕ → Float) → ℕ → Bool
quick_at lo own k = is_zero (own k) || lt smallest (own k ⊗ lo)

-- The same test of the multipliers of a row from `from` up to `to`.
pub record QuickRow (lo : Float) (own : ℕ → Float) (from to : ℕ) (ok : Bool) : Type 0 where
  pub is : ok ≡ all (quick_at lo own) from (to - from)
  pub held : (k : ℕ) → from ≤ k → k < to → T (fits binary64 (own k))

-- The products of the multiplier of column k with row k of a table, in the first c columns.
unfoldable pub products_at : ℕ → (ℕ → Float) → (ℕ → ℕ → Float) → ℕ → Bool
products_at c own f k = all (times_in_range (own k) (f k)) 0 c
