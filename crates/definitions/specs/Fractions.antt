-- Fractions of whole numbers with signed numerators, compared by multiplying across (document 01, "The sheet and its two readings").
use Rattle.std.specs.Prelude.{ℕ, zero, suc, ◌*◌, ◌^◌, ◌<◌, max, Bool, true, false, cond, ◌≡◌, ℤ, pos, neg_ℤ, nat_abs, ◌+ℤ◌, ◌*ℤ◌, ◌≤ℤ◌, Float}
use Rattle.std.proofs.Common.{mul-pos, lit<}
use Rattle.std.proofs.Math.Nat.{le-max_left, one-le-pow}
use Rattle.std.specs.Float.{nan, inf, fin}
use Rattle.definitions.specs.Numbers.{units}

pub record Fraction : Type 0 where
  pub num : ℤ
  pub den : ℕ
  pub positive : 0 < den

infix 40 ◌≈◌
infix 40 ◌≼◌
infixl 60 ◌+ᶠ◌
infixl 70 ◌*ᶠ◌
infixl 70 ◌/ᶠ◌
infixl 80 -ᶠ◌
-- Equal, and at most.
abbrev pub ◌≈◌ : Fraction → Fraction → Type 0
x ≈ y = (x.num *ℤ pos y.den) ≡ (y.num *ℤ pos x.den)

abbrev pub ◌≼◌ : Fraction → Fraction → Type 0
x ≼ y = (x.num *ℤ pos y.den) ≤ℤ (y.num *ℤ pos x.den)

abbrev pub whole : ℕ → Fraction
whole a = record { num = pos a; den = 1; positive = lit< tt }

abbrev pub -ᶠ◌ : Fraction → Fraction
-ᶠ x = record { num = neg_ℤ x.num; den = x.den; positive = x.positive }

abbrev pub ◌+ᶠ◌ : Fraction → Fraction → Fraction
x +ᶠ y =
    record {
      num = (x.num *ℤ pos y.den) +ℤ (y.num *ℤ pos x.den);
      den = x.den * y.den;
      positive = mul-pos x.positive y.positive;
    }

abbrev pub ◌*ᶠ◌ : Fraction → Fraction → Fraction
x *ᶠ y = record { num = x.num *ℤ y.num; den = x.den * y.den; positive = mul-pos x.positive y.positive }

-- x / y for a positive y.
abbrev pub ◌/ᶠ◌ : Fraction → Fraction → Fraction
x /ᶠ y =
    let d = x.den * nat_abs y.num in
    record { num = x.num *ℤ pos y.den; den = max 1 d; positive = le-max_left 1 d }

-- "Every finite binary64 number is a whole number over 2^1074."
abbrev pub signed : Bool → ℕ → ℤ
signed true a = neg_ℤ (pos a)
signed false a = pos a

unfoldable pub numerator : Float → ℤ
numerator nan = pos 0
numerator (inf s) = pos 0
numerator (fin s m e) = signed s (units (fin s m e))

unfoldable pub value : Float → Fraction
value x = record { num = numerator x; den = 2 ^ 1074; positive = one-le-pow 1074 2 (lit< tt) }

-- The sum of f over the stages below n that take part.
unfoldable pub total : (ℕ → Bool) → (ℕ → Fraction) → ℕ → Fraction
total on f zero = whole 0
total on f (suc n) = cond (on n) (total on f n +ᶠ f n) (total on f n)
