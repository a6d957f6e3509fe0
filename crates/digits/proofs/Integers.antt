-- A signed number by its sign: the minus sign and what follows it.
use mathlib.Core.Path.{◌≡◌, ap}
use mathlib.Core.List.{List, [], ◌∷◌, ◌++◌}
use Prim.Native.Nat.{ℕ, suc, ◌^◌, ◌≤◌, ◌<◌}
use native.Mathlib.Omega.{arith}
use lib.IntN.{ℤ, pos, negsuc}
use lib.ListN.{length}
use lib.Signed.{mag}
use Rattle.std.specs.Fmt.{signed_decimal}
use Rattle.definitions.specs.Dwell.{text, integer}
use Rattle.digits.proofs.Digits.{decimal_is, decimal-at-most}

-- A signed number and the byte that ends its field.
abbrev pub signed_field : ℤ → ℕ → List ℕ
signed_field value end = integer value ++ (end ∷ [])

-- The library's text of a signed number is the same.
pub integer_is : (value : ℤ) → mag value < 2 ^ 63 → signed_decimal value ≡ integer value
unfolding integer text
integer_is (pos m) h = decimal_is m (omega arith)
integer_is (negsuc m) h = ap (λ (size : List ℕ). 45 ∷ size) (decimal_is (suc m) (omega arith))

-- A signed number of 64 bits has at most 20 digits and a sign.
pub integer-at-most : (value : ℤ) → mag value < 2 ^ 63 → length (integer value) ≤ 21
unfolding integer text
integer-at-most (pos m) h = omega (arith, decimal-at-most 19 m (omega arith))
integer-at-most (negsuc m) h = omega (arith, decimal-at-most 19 (suc m) (omega arith))
