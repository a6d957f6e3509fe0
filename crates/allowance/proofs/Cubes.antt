-- The allowance by products.
use mathlib.Core.Path.{◌≡◌}
use Prim.Native.Nat.{ℕ, ◌*◌, ◌^◌, ◌≤◌}
use native.Mathlib.Nat.{pow-suc, pow-zero, one-mul, mul-le-mul}
use native.Mathlib.Omega.{arith}
use mathlib.Core.Bool.{Bool, true, false, cond}
use lib.Dec.{eqb}
use borrow.Author.Tests.{ne_eqb}
use Rattle.definitions.specs.Sheet.{allowance}

cube : (n : ℕ) → n ^ 3 ≡ n * n * n
cube n = rw (pow-suc, pow-suc, pow-suc, pow-zero, one-mul)

module _ (n : ℕ) where
  pub first_allowance : 4 * (n * n * n) ≡ allowance 1 n
  unfolding allowance
  first_allowance = rw (cube n)

  pub second-allowance : 12 * (n * n * n) ≡ allowance 2 n
  unfolding allowance
  second-allowance = rw (cube n)

  pub third_allowance : (reading : ℕ) → (reading ≡ 1 → ⊥) → (reading ≡ 2 → ⊥) → 6 * (n * n * n) ≡ allowance reading n
  unfolding allowance
  third_allowance reading o p = rw (ne_eqb reading 1 o, ne_eqb reading 2 p, cube n)

pub cube_small : {n : ℕ} → n ≤ 32 → n * n * n ≤ 32768
cube_small {n} h = mul-le-mul (mul-le-mul h h) h

-- So is the allowance of every reading.
pub allowance_small : (reading : ℕ) {n : ℕ} → n ≤ 32 → allowance reading n ≤ 393216
unfolding allowance
allowance_small reading {n} h = rw (cube n) (go (eqb reading 1) (eqb reading 2))
  where
    go : (a b : Bool) → cond a 4 (cond b 12 6) * (n * n * n) ≤ 393216
    go true b = omega (arith, cube_small h)
    go false true = omega (arith, cube_small h)
    go false false = omega (arith, cube_small h)
