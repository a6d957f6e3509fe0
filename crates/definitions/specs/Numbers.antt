-- Numbers: binary64, the three operations of the steps and their range tests (document 01, "Steps for leaving rates" and question 10).
use Rattle.std.specs.Prelude.{ℕ, zero, suc, ◌+◌, ◌*◌, ◌/◌, ◌^◌, Bool, true, false, ◌&&◌, ◌||◌, pos, negsuc, Float}
use Rattle.std.specs.Float.{nan, inf, fin, binary64}
use Rattle.std.specs.Float.Ieee.{add, sub, mul, div, lt, eq, up, down}

infixl 60 ◌⊕◌
infixl 60 ◌⊖◌
infixl 70 ◌⊗◌
infixl 70 ◌⊘◌
-- "Steps for leaving rates": each operation is one rounding, to nearest, ties to even.
abbrev pub ◌⊕◌ : Float → Float → Float
x ⊕ y = add binary64 x y

abbrev pub ◌⊖◌ : Float → Float → Float
x ⊖ y = sub binary64 x y

abbrev pub ◌⊗◌ : Float → Float → Float
x ⊗ y = mul binary64 x y

abbrev pub ◌⊘◌ : Float → Float → Float
x ⊘ y = div binary64 x y

-- Plus zero, one, 2^-1022, and the largest finite number, 2^1024 − 2^971.
abbrev pub 0·0 : Float
0·0 = fin false 0 (pos 0)

abbrev pub 1·0 : Float
1·0 = fin false 1 (pos 0)

abbrev pub smallest : Float
smallest = fin false 1 (negsuc 1021)

abbrev pub largest : Float
largest = fin false 9007199254740991 (pos 971)

unfoldable pub finite : Float → Bool
finite nan = false
finite (inf s) = false
finite (fin s m e) = true

-- A zero of either sign.
unfoldable pub is_zero : Float → Bool
is_zero x = eq x 0·0

-- Question 10: each result finite, and each product or quotient of nonzero numbers above 2^-1022.
unfoldable pub add_in_range : Float → Float → Bool
add_in_range x y = finite (x ⊕ y)

unfoldable pub mul_in_range : Float → Float → Bool
mul_in_range x y = finite (x ⊗ y) && (is_zero x || is_zero y || lt smallest (x ⊗ y))

unfoldable pub div_in_range : Float → Float → Bool
div_in_range x y = finite (x ⊘ y) && (is_zero x || is_zero y || lt smallest (x ⊘ y))

-- The two steps of x + m·y.
unfoldable pub add_product_in_range : Float → Float → Float → Bool
add_product_in_range x m y = mul_in_range m y && add_in_range x (m ⊗ y)

-- start ⊕ f k ⊕ f (k + 1) ⊕ … with m terms, added one after another.
unfoldable pub sum : Float → (ℕ → Float) → ℕ → ℕ → Float
sum start f k zero = start
sum start f k (suc m) = sum start f k m ⊕ f (k + m)

-- Every addition of such a sum in range.
unfoldable pub sum_in_range : Float → (ℕ → Float) → ℕ → ℕ → Bool
sum_in_range start f k zero = true
sum_in_range start f k (suc m) = sum_in_range start f k m && add_in_range (sum start f k m) (f (k + m))

-- p at each of the m numbers k, k + 1, …
unfoldable pub all : (ℕ → Bool) → ℕ → ℕ → Bool
all p k zero = true
all p k (suc m) = all p k m && p (k + m)

-- "Every finite binary64 number is a whole number over 2^1074": that whole number's size.
unfoldable pub units : Float → ℕ
units nan = 0
units (inf s) = 0
units (fin s m e) = m * up e * 2 ^ 1074 / down e
