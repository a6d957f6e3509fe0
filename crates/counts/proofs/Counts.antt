-- The counts of a sheet by its reading; all are small.
use mathlib.Core.Bool.{Bool, true, false, cond}
use mathlib.Core.Path.{◌≡◌, refl}
use Prim.Native.Nat.{ℕ, suc, ◌+◌, ◌*◌, ◌≤◌}
use native.Mathlib.Nat.{mul-le-mul}
use native.Mathlib.Omega.{arith}
use lib.Dec.{eqb}
use Rattle.definitions.specs.Sheet.{sheet_rows, sheet_numbers}

pub square_small : {n : ℕ} → n ≤ 32 → n * n ≤ 1024
square_small {n} h = mul-le-mul h h

-- A sheet's numbers are whole rows of n, the first n of them the stages' own; there is at most one row more, and at most 1,056 numbers.
module _ (reading n : ℕ) where
  pub rows_of-numbers : sheet_numbers reading n ≡ sheet_rows reading n * n
  unfolding sheet_numbers sheet_rows
  rows_of-numbers = go (eqb reading 3)
    where
      go : (weights : Bool) → cond weights (n * n + n) (n * n) ≡ cond weights (suc n) n * n
      go true = omega arith
      go false = refl

  pub stage-rows : n ≤ sheet_rows reading n
  unfolding sheet_rows
  stage-rows = go (eqb reading 3)
    where
      go : (weights : Bool) → n ≤ cond weights (suc n) n
      go true = omega arith
      go false = omega arith

  pub rows_few : sheet_rows reading n ≤ n + 1
  unfolding sheet_rows
  rows_few = go (eqb reading 3)
    where
      go : (weights : Bool) → cond weights (suc n) n ≤ n + 1
      go true = omega arith
      go false = omega arith

  pub numbers_few : n ≤ 32 → sheet_numbers reading n ≤ 1056
  unfolding sheet_numbers
  numbers_few h = go (eqb reading 3)
    where
      go : (weights : Bool) → cond weights (n * n + n) (n * n) ≤ 1056
      go true = omega (arith, square_small h)
      go false = omega (arith, square_small h)
