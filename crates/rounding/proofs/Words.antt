-- 64-bit words and numbers: which words are NaN patterns, and the words of the numbers in the code.
use mathlib.Core.Path.{◌≡◌, refl, sym, ap, ◌∙◌}
use Prim.Native.Nat.{ℕ, ◌%◌, ◌<◌, ◌≤◌}
use mathlib.Core.Bool.{true, false, not, true≢false}
use lib.Dec.{T, lt→ltb}
use lib.Arith.{le→nltb}
use lib.Ieee.{Float, nan, inf, fin, binary64, is_nan, of_bits, to_bits, nan_bits, div, ne}
use lib.Ieee.Bits.{nan_bits_is, nan_bits_above}
use lib.Ieee.Compare.{differs_from_itself}
use Rattle.definitions.specs.Numbers.{0·0, 1·0, smallest, largest}

-- The word of plus infinity; above it, the sign taken off, are the NaN patterns.
abbrev infinity : ℕ
infinity = 0x7ff0_0000_0000_0000

pub nan-value : (x : Float) → T (is_nan x) → x ≡ nan
unfolding is_nan
nan-value nan t = refl
nan-value (inf s) t = absurd t
nan-value (fin s m e) t = absurd t

zero-over-zero : div binary64 (of_bits binary64 0) (of_bits binary64 0) ≡ nan
unfolding div of_bits
zero-over-zero = refl

-- from_word's two ways
pub nan-word : (w : ℕ) → infinity < w % 0x8000_0000_0000_0000 → div binary64 (of_bits binary64 0) (of_bits binary64 0) ≡ of_bits binary64 w
nan-word w h = zero-over-zero ∙ sym (nan-value (of_bits binary64 w) (rw (← nan_bits_is binary64 w, nan_bits_above binary64 w) (lt→ltb infinity (w % 0x8000_0000_0000_0000) h)))

pub number_word : (w : ℕ) → w % 0x8000_0000_0000_0000 ≤ infinity → T (not (nan_bits binary64 w))
number_word w h = rw (nan_bits_above binary64 w) (le→nltb infinity (w % 0x8000_0000_0000_0000) h)

-- to_word's two ways
pub nan-bits : (x : Float) → ne x x ≡ true → 0x7ff8_0000_0000_0000 ≡ to_bits binary64 x
unfolding to_bits
nan-bits x e = sym (ap (to_bits binary64) (differs_from_itself x (rw e tt)))

pub not-nan : (x : Float) → ne x x ≡ false → T (not (is_nan x))
unfolding ne is_nan
not-nan nan e = absurd (true≢false e)
not-nan (inf s) e = tt
not-nan (fin s m e) h = tt

-- The literals 0.0, 1.0, 2.2250738585072014e-308 and 1.7976931348623157e308, as the programs have them.
pub zero_word : of_bits binary64 0 ≡ 0·0
unfolding of_bits
zero_word = refl

pub one_word : of_bits binary64 4607182418800017408 ≡ 1·0
unfolding of_bits
one_word = refl

pub smallest-word : of_bits binary64 4503599627370496 ≡ smallest
unfolding of_bits
smallest-word = refl

pub largest-word : of_bits binary64 9218868437227405311 ≡ largest
unfolding of_bits
largest-word = refl
