-- A bound of the nonzero numbers of a row from below, for the range tests of products (question 10).
use Rattle.std.specs.Prelude.{ℕ, ◌≤◌, ◌<◌, ◌⊎◌, T, Float}
use Rattle.definitions.specs.Numbers.{finite, is_zero, units}
use Rattle.rounding.specs.Good.{Good, one·units}

-- A bound is good and at most one.
pub record Bound (lo : Float) : Type 0 where
  pub good : Good lo
  pub small : units lo ≤ one·units

-- Unless it is zero, it is at most x, where x is finite and not zero.
abbrev pub Covers : Float → Float → Type 0
Covers lo x = 0 < units lo → T (finite x) → T (is_zero x) ⊎ (Good x × (units lo ≤ units x))

-- lo is such a bound of the numbers of a row from `from` up to `to`.
pub record Covering (lo : Float) (f : ℕ → Float) (from to : ℕ) : Type 0 where
  pub bound : Bound lo
  pub covers : (j : ℕ) → from ≤ j → j < to → Covers lo (f j)

-- The bound `start` made lower for one number x, and for the numbers of a row.
pub record Lowered (start x lo : Float) : Type 0 where
  pub bound : Bound lo
  pub less : units lo ≤ units start
  pub covers : Covers lo x

pub record Least (start : Float) (f : ℕ → Float) (from to : ℕ) (lo : Float) : Type 0 where
  pub less : units lo ≤ units start
  pub covering : Covering lo f from to
