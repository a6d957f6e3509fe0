-- Finiteness backwards, for every Float: a finite sum or product has finite operands, a finite quotient a finite dividend; and x ⊖ x is zero exactly where x is finite.
use mathlib.Core.Path.{◌≡◌, refl, ap, ◌∙◌}
use Prim.Native.Nat.{ℕ, ◌-◌, ◌*◌, ◌<◌}
use native.Mathlib.Nat.{sub_self, le_refl, mul-pos}
use mathlib.Core.Bool.{Bool, true, false, not, ◌||◌, cond, beq}
use lib.Dec.{T, eqb}
use lib.Ieee.{Float, nan, inf, fin, Format, binary64, unlike, up, down, round, sum, add, sub, mul, div, eq, lt}
use lib.Ieee.Fits.{down_pos, and_l}
use borrow.Author.Tests.{le-ltb}
use Rattle.definitions.specs.Numbers.{◌⊕◌, ◌⊖◌, ◌⊗◌, ◌⊘◌, 0·0, smallest, finite, is_zero, div_in_range}
use Rattle.rounding.proofs.Round.{round-zero}

-- A choice between a NaN and an infinity is finite in neither case.
neither : (b : Bool) (x y : Float) → (T (finite x) → ⊥) → (T (finite y) → ⊥) → T (finite (cond b x y)) → ⊥
neither true x y p q = p
neither false x y p q = q

pub sum-finite : (x y : Float) → T (finite (x ⊕ y)) → T (finite x) × T (finite y)
unfolding add finite
sum-finite nan y t = absurd t
sum-finite (inf s) nan t = absurd t
sum-finite (inf s) (inf r) t = absurd (neither (beq s r) (inf s) nan (λ u. u) (λ u. u) t)
sum-finite (inf s) (fin r n d) t = absurd t
sum-finite (fin s m e) nan t = absurd t
sum-finite (fin s m e) (inf r) t = absurd t
sum-finite (fin s m e) (fin r n d) t = (tt, tt)

pub product-finite : (x y : Float) → T (finite (x ⊗ y)) → T (finite x) × T (finite y)
unfolding mul finite
product-finite nan y t = absurd t
product-finite (inf s) nan t = absurd t
product-finite (inf s) (inf r) t = absurd t
product-finite (inf s) (fin r n d) t = absurd (neither (eqb n 0) nan (inf (unlike s r)) (λ u. u) (λ u. u) t)
product-finite (fin s m e) nan t = absurd t
product-finite (fin s m e) (inf r) t = absurd (neither (eqb m 0) nan (inf (unlike s r)) (λ u. u) (λ u. u) t)
product-finite (fin s m e) (fin r n d) t = (tt, tt)

-- The divisor may be infinite: then the quotient is zero.
pub quotient-finite : (x y : Float) → T (finite (x ⊘ y)) → T (finite x)
unfolding div finite
quotient-finite nan y t = absurd t
quotient-finite (inf s) nan t = absurd t
quotient-finite (inf s) (inf r) t = absurd t
quotient-finite (inf s) (fin r n d) t = absurd t
quotient-finite (fin s m e) y t = tt

-- A division in range has a finite quotient, and so a finite dividend.
pub quotient_of_range : (x y : Float) → T (div_in_range x y) → T (finite (x ⊘ y))
unfolding div_in_range
quotient_of_range x y t = and_l (finite (x ⊘ y)) (is_zero x || is_zero y || lt smallest (x ⊘ y)) t

pub dividend_of_range : (x y : Float) → T (div_in_range x y) → T (finite x)
dividend_of_range x y t = quotient-finite x y (quotient_of_range x y t)

-- A zero is finite.
pub zero-finite : (x : Float) → T (is_zero x) → T (finite x)
unfolding is_zero eq finite
zero-finite nan t = t
zero-finite (inf s) t = t
zero-finite (fin s m e) t = tt

-- ---- a difference of equals
pub sum_cancels : (f : Format) (s : Bool) (a c : ℕ) → 0 < c → sum f s a (not s) a c ≡ 0·0
unfolding sum
sum_cancels f true a c C =
    ap (λ (b : Bool). cond b (round f false (a - a) c) (round f b (a - a) c)) (le-ltb a a (le_refl a)) ∙ ap (λ (d : ℕ). round f false d c) (sub_self a) ∙ round-zero f c C
sum_cancels f false a c C =
    ap (λ (b : Bool). cond b (round f true (a - a) c) (round f false (a - a) c)) (le-ltb a a (le_refl a)) ∙ ap (λ (d : ℕ). round f false d c) (sub_self a) ∙ round-zero f c C

zero_is_zero : is_zero 0·0 ≡ true
unfolding is_zero eq
zero_is_zero = refl

pub tests_finite : (x : Float) → is_zero (x ⊖ x) ≡ finite x
unfolding sub finite is_zero eq
tests_finite nan = refl
tests_finite (inf true) = refl
tests_finite (inf false) = refl
tests_finite (fin s m e) = ap is_zero (sum_cancels binary64 s (m * up e * down e) (down e * down e) (mul-pos (down_pos e) (down_pos e))) ∙ zero_is_zero
