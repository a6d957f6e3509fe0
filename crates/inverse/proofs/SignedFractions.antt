-- Signed fractions in whole numbers: Ratio x p q d says x = (p − q)/d. Each law of fractions is one equation of whole numbers.
use mathlib.Core.Path.{◌≡◌, refl, sym, ap, subst₃}
use mathlib.Core.Bool.{Bool, true, false, not, cond}
use Prim.Native.Nat.{ℕ, zero, suc, ◌+◌, ◌*◌, ◌≤◌, ◌<◌, max}
use native.Mathlib.Nat.{mul_comm, mul-pos, mul-le-mul_right, eq_of_mul-eq-mul_right, le_of_mul-le-mul_right}
use native.Mathlib.Omega.{arith}
use lib.Dec.{T, lit<}
use lib.IntN.{ℤ, pos, negsuc, nat_abs, ◌*ℤ◌}
use lib.Ieee.{Float, nan, inf, fin, binary64, eq}
use lib.Ieee.Bits.{cond_no}
use Rattle.exact.specs.Sums.{sum}
use Rattle.exact.proofs.Sums.{zero-sum, sum_end}
use Rattle.exact.proofs.Near.{pos-left}
use Rattle.definitions.specs.Numbers.{is_zero, units}
use Rattle.definitions.specs.Fractions.{Fraction, ◌≈◌, ◌≼◌, whole, -ᶠ◌, ◌+ᶠ◌, ◌*ᶠ◌, ◌/ᶠ◌, numerator, value, total}
use Rattle.rounding.specs.Good.{Good, one·units}
use Rattle.rounding.proofs.Value.{by_parts}
use Rattle.rounding.proofs.AnyNumbers.{zero-units}
use Rattle.inverse.specs.Reduction.{plus_part, minus_part, Ratio}
use Rattle.inverse.proofs.PartialSums.{cond_yes}
use Rattle.inverse.proofs.Integers.{of_parts, to_parts, le_of_parts, neg_plus, neg-minus, sum_parts, product_parts}

-- An equation times a number, and a sum of two on each side with it.
pub times : (c : ℕ) {a b : ℕ} → a ≡ b → a * c ≡ b * c
times c e = ap (λ x. x * c) e

pub times_sums : (a b c d k : ℕ) → a + b ≡ c + d → a * k + b * k ≡ c * k + d * k
times_sums a b c d k e = omega (arith, times k e)

-- The parts of z·n for a whole number n.
scaled_parts : (z : ℤ) (n : ℕ) → plus_part (z *ℤ pos n) + minus_part z * n ≡ plus_part z * n + minus_part (z *ℤ pos n)
scaled_parts z n = omega (arith, product_parts z (pos n))

-- ---- equality

-- Every fraction is the ratio of its own parts.
pub own-ratio : (x : Fraction) → Ratio x (plus_part x.num) (minus_part x.num) x.den
own-ratio x = record { across = refl }

pub equal_ratio : (x y : Fraction) → x ≈ y → Ratio x (plus_part y.num) (minus_part y.num) y.den
equal_ratio x y e =
    record { across = omega (arith, to_parts e, scaled_parts x.num y.den, scaled_parts y.num x.den) }

pub ratio_equal : (x y : Fraction) → Ratio x (plus_part y.num) (minus_part y.num) y.den → x ≈ y
ratio_equal x y r =
    of_parts (x.num *ℤ pos y.den) (y.num *ℤ pos x.den)
    (omega (arith, r.across, scaled_parts x.num y.den, scaled_parts y.num x.den))

-- Two ratios of one fraction agree, multiplied across.
meet :
    (u v X p q d p' q' d' : ℕ)
    → u * d + q * X ≡ p * X + v * d
    → u * d' + q' * X ≡ p' * X + v * d'
    → (p * d' + q' * d) * X ≡ (p' * d + q * d') * X
meet u v X p q d p' q' d' e f = omega (arith, times d' e, times d f)

pub ratios_agree :
    {x : Fraction} {p q d p' q' d' : ℕ} → Ratio x p q d → Ratio x p' q' d' → p * d' + q' * d ≡ p' * d + q * d'
ratios_agree {x} {p} {q} {d} {p'} {q'} {d'} r s =
    eq_of_mul-eq-mul_right x.den x.positive (p * d' + q' * d) (p' * d + q * d')
    (meet (plus_part x.num) (minus_part x.num) x.den p q d p' q' d' r.across s.across)

-- And what agrees with a ratio of it is one.
carry :
    (u v X p q d p' q' d' : ℕ)
    → u * d + q * X ≡ p * X + v * d
    → p * d' + q' * d ≡ p' * d + q * d'
    → (u * d' + q' * X) * d ≡ (p' * X + v * d') * d
carry u v X p q d p' q' d' e f = omega (arith, times d' e, times X f)

pub ratio_carry :
    {x : Fraction} {p q d p' q' d' : ℕ} → 0 < d → Ratio x p q d → p * d' + q' * d ≡ p' * d + q * d' → Ratio x p' q' d'
ratio_carry {x} {p} {q} {d} {p'} {q'} {d'} l r e =
    let u = plus_part x.num in
    let v = minus_part x.num in
    record {
      across =
          eq_of_mul-eq-mul_right d l (u * d' + q' * x.den) (p' * x.den + v * d')
          (carry u v x.den p q d p' q' d' r.across e);
    }

-- Fractions with one ratio are equal, and equal fractions have the same ratios.
pub same_ratio : {x y : Fraction} {p q d : ℕ} → 0 < d → Ratio x p q d → Ratio y p q d → x ≈ y
same_ratio {x} {y} l r s = ratio_equal x y (ratio_carry l r (sym (ratios_agree (own-ratio y) s)))

pub ratio_of_equal : {y : Fraction} {p q d : ℕ} (x : Fraction) → x ≈ y → Ratio y p q d → Ratio x p q d
ratio_of_equal {y} x e r = ratio_carry y.positive (equal_ratio x y e) (sym (ratios_agree r (own-ratio y)))

-- ---- order

order_differences :
    (u v P Q u' v' P' Q' a b : ℕ)
    → u + Q ≡ P + v → u' + Q' ≡ P' + v' → P * a + Q' * b ≤ Q * a + P' * b
    → u * a + v' * b ≤ v * a + u' * b
order_differences u v P Q u' v' P' Q' a b e f h = omega (arith, times a e, times b f)

cross : (p d' q d X Y : ℕ) → (p * d' + q * d) * (X * Y) ≡ p * X * (d' * Y) + q * Y * (d * X)
cross p d' q d X Y = omega arith

order :
    (u v X p q d u' v' Y p' q' d' : ℕ)
    → u * d + q * X ≡ p * X + v * d
    → u' * d' + q' * Y ≡ p' * Y + v' * d'
    → p * d' + q' * d ≤ p' * d + q * d'
    → (u * Y + v' * X) * (d * d') ≤ (v * Y + u' * X) * (d * d')
order u v X p q d u' v' Y p' q' d' e f h =
    let g : (p * d' + q' * d) * (X * Y) ≤ (q * d' + p' * d) * (X * Y) = mul-le-mul_right (X * Y) (omega arith) in
    let k : p * X * (Y * d') + q' * Y * (X * d) ≤ q * X * (Y * d') + p' * Y * (X * d) =
    rw (cross p d' q' d X Y, cross q d' p' d X Y, mul_comm d' Y, mul_comm d X) at g in
    rw (cross u Y v' X d d', cross v Y u' X d d')
    (order_differences (u * d) (v * d) (p * X) (q * X) (u' * d') (v' * d') (p' * Y) (q' * Y) (Y * d') (X * d) e f k)

pub ratio-le :
    {x y : Fraction} {p q d p' q' d' : ℕ}
    → 0 < d → 0 < d' → Ratio x p q d → Ratio y p' q' d' → p * d' + q' * d ≤ p' * d + q * d' → x ≼ y
ratio-le {x} {y} {p} {q} {d} {p'} {q'} {d'} l l' r s h =
    let u = plus_part x.num in
    let v = minus_part x.num in
    let u' = plus_part y.num in
    let v' = minus_part y.num in
    let g : u * y.den + v' * x.den ≤ v * y.den + u' * x.den =
    le_of_mul-le-mul_right (order u v x.den p q d u' v' y.den p' q' d' r.across s.across h) (mul-pos l l') in
    le_of_parts (x.num *ℤ pos y.den) (y.num *ℤ pos x.den)
    (omega (arith, g, scaled_parts x.num y.den, scaled_parts y.num x.den))

-- ---- sums and products

pub ratio-neg : {x : Fraction} {p q d : ℕ} → Ratio x p q d → Ratio (-ᶠ x) q p d
ratio-neg {x} {p} {q} {d} r =
    record { across = omega (arith, r.across, times d (neg_plus x.num), times d (neg-minus x.num)) }

add_across :
    (u v X u' v' Y w w' p q p' q' d : ℕ)
    → w + (v * Y + v' * X) ≡ u * Y + u' * X + w'
    → u * d + q * X ≡ p * X + v * d
    → u' * d + q' * Y ≡ p' * Y + v' * d
    → w * d + (q + q') * (X * Y) ≡ (p + p') * (X * Y) + w' * d
add_across u v X u' v' Y w w' p q p' q' d e r s = omega (arith, times d e, times Y r, times X s)

sum_across_parts :
    (x y : Fraction)
    → plus_part (x +ᶠ y).num + (minus_part x.num * y.den + minus_part y.num * x.den)
    ≡ plus_part x.num * y.den + plus_part y.num * x.den + minus_part (x +ᶠ y).num
sum_across_parts x y =
    omega (arith, sum_parts (x.num *ℤ pos y.den) (y.num *ℤ pos x.den), scaled_parts x.num y.den, scaled_parts y.num x.den)

pub ratio-add :
    {x y : Fraction} {p q p' q' d : ℕ} → Ratio x p q d → Ratio y p' q' d → Ratio (x +ᶠ y) (p + p') (q + q') d
ratio-add {x} {y} {p} {q} {p'} {q'} {d} r s =
    record {
      across =
          add_across (plus_part x.num) (minus_part x.num) x.den (plus_part y.num) (minus_part y.num) y.den
          (plus_part (x +ᶠ y).num) (minus_part (x +ᶠ y).num) p q p' q' d (sum_across_parts x y) r.across s.across;
    }

-- (u − v)(u' − v') = (P − Q)(P' − Q'), for differences that are equal in pairs.
times_differences :
    (u v P Q u' v' P' Q' : ℕ)
    → u + Q ≡ P + v → u' + Q' ≡ P' + v'
    → u * u' + v * v' + (P * Q' + Q * P') ≡ P * P' + Q * Q' + (u * v' + v * u')
times_differences u v P Q u' v' P' Q' e f = omega (arith, times u' e, times v' e, times P f, times Q f)

spread : (a b c e X Y : ℕ) → (a * b + c * e) * (X * Y) ≡ a * X * (b * Y) + c * X * (e * Y)
spread a b c e X Y = omega arith

mul_across :
    (u v X u' v' Y w w' p q d p' q' d' : ℕ)
    → w + (u * v' + v * u') ≡ u * u' + v * v' + w'
    → u * d + q * X ≡ p * X + v * d
    → u' * d' + q' * Y ≡ p' * Y + v' * d'
    → w * (d * d') + (p * q' + q * p') * (X * Y) ≡ (p * p' + q * q') * (X * Y) + w' * (d * d')
mul_across u v X u' v' Y w w' p q d p' q' d' e r s =
    let f = times_sums w (u * v' + v * u') (u * u' + v * v') w' (d * d') e in
    let g : (u * u' + v * v') * (d * d') + (p * q' + q * p') * (X * Y) ≡ (p * p' + q * q') * (X * Y) + (u * v' + v * u') * (d * d') =
    rw (spread u u' v v' d d', spread p q' q p' X Y, spread p p' q q' X Y, spread u v' v u' d d')
    (times_differences (u * d) (v * d) (p * X) (q * X) (u' * d') (v' * d') (p' * Y) (q' * Y) r s) in
    finish (w * (d * d')) (w' * (d * d')) ((u * v' + v * u') * (d * d')) ((u * u' + v * v') * (d * d')) ((p * q' + q * p') * (X * Y)) ((p * p' + q * q') * (X * Y)) f g
  where
    finish : (w w' a b c f : ℕ) → w + a ≡ b + w' → b + c ≡ f + a → w + c ≡ f + w'
    finish w w' a b c f e g = omega arith

pub ratio-mul :
    {x y : Fraction} {p q d p' q' d' : ℕ}
    → Ratio x p q d → Ratio y p' q' d' → Ratio (x *ᶠ y) (p * p' + q * q') (p * q' + q * p') (d * d')
ratio-mul {x} {y} {p} {q} {d} {p'} {q'} {d'} r s =
    record {
      across =
          mul_across (plus_part x.num) (minus_part x.num) x.den (plus_part y.num) (minus_part y.num) y.den
          (plus_part (x *ᶠ y).num) (minus_part (x *ᶠ y).num) p q d p' q' d' (product_parts x.num y.num) r.across s.across;
    }

-- ---- the numbers of a ratio, changed

pub ratio_as :
    {x : Fraction} {p q d p' q' d' : ℕ} → Ratio x p q d → p ≡ p' → q ≡ q' → d ≡ d' → Ratio x p' q' d'
ratio_as {x} r e f g = subst₃ (λ p q d. Ratio x p q d) e f g r

pub ratio_scale : {x : Fraction} {p q d : ℕ} (c : ℕ) → Ratio x p q d → Ratio x (p * c) (q * c) (d * c)
ratio_scale {x} {p} {q} {d} c r = record { across = omega (arith, times c r.across) }

-- A number added to p and q alike.
pub ratio-both : {x : Fraction} {p q d : ℕ} (c : ℕ) → Ratio x p q d → Ratio x (p + c) (q + c) d
ratio-both c r = record { across = omega (arith, r.across) }

-- ---- fractions that are not negative

pub whole-ratio : (a : ℕ) → Ratio (whole a) a 0 1
whole-ratio a = record { across = refl }

pub plain_sign : {x : Fraction} {p d : ℕ} → 0 < d → Ratio x p 0 d → whole 0 ≼ x
plain_sign l r = ratio-le (lit< tt) l (whole-ratio 0) r (omega arith)

pub plain_minus : {x : Fraction} {p d : ℕ} → 0 < d → Ratio x p 0 d → minus_part x.num ≡ 0
plain_minus {x} {p} {d} l r = go x.num r.across
  where
    go : (z : ℤ) → plus_part z * d + 0 * x.den ≡ p * x.den + minus_part z * d → minus_part z ≡ 0
    go (pos n) e = refl
    go (negsuc n) e = absurd (omega arith)

pub plain_across : {x : Fraction} {p d : ℕ} → 0 < d → Ratio x p 0 d → plus_part x.num * d ≡ p * x.den
plain_across {x} {p} {d} l r = omega (arith, r.across, times d (plain_minus l r))

-- Such fractions in order, added, multiplied and scaled; and again a number added to p and q alike.
pub plain_le :
    {x y : Fraction} {p d p' d' : ℕ}
    → 0 < d → 0 < d' → Ratio x p 0 d → Ratio y p' 0 d' → p * d' ≤ p' * d → x ≼ y
plain_le l l' r s h = ratio-le l l' r s (omega arith)

pub plain_add : {x y : Fraction} {p p' d : ℕ} → Ratio x p 0 d → Ratio y p' 0 d → Ratio (x +ᶠ y) (p + p') 0 d
plain_add r s = ratio_as (ratio-add r s) refl (omega arith) refl

pub plain_mul :
    {x y : Fraction} {p d p' d' : ℕ} → Ratio x p 0 d → Ratio y p' 0 d' → Ratio (x *ᶠ y) (p * p') 0 (d * d')
plain_mul {p = p} {d} {p'} r s = ratio_as (ratio-mul r s) (omega arith) (omega arith) refl

pub plain_scale : {x : Fraction} {p d : ℕ} (c : ℕ) → Ratio x p 0 d → Ratio x (p * c) 0 (d * c)
plain_scale c r = ratio_as (ratio_scale c r) refl (omega arith) refl

pub plain_both : {x : Fraction} {p d : ℕ} (c : ℕ) → Ratio x p 0 d → Ratio x (p + c) c d
plain_both c r = ratio_as (ratio-both c r) refl (omega arith) refl

absolute : (z : ℤ) → minus_part z ≡ 0 → nat_abs z ≡ plus_part z
absolute (pos n) e = refl
absolute (negsuc n) e = absurd (omega arith)

div_across :
    (w w' u Y d p' p d' X u' : ℕ)
    → w ≡ u * Y + w' → u * d ≡ p * X → u' * d' ≡ p' * Y
    → w * (d * p') ≡ p * d' * (X * u') + w' * (d * p')
div_across w w' u Y d p' p d' X u' e f g = omega (arith, times (d * p') e, times (p' * Y) f, times (p * X) g)

pub max-one : (n : ℕ) → 0 < n → max 1 n ≡ n
max-one n l = omega arith

pub plain_div :
    {x y : Fraction} {p d p' d' : ℕ}
    → 0 < d → 0 < d' → 0 < p' → Ratio x p 0 d → Ratio y p' 0 d' → Ratio (x /ᶠ y) (p * d') 0 (d * p')
plain_div {x} {y} {p} {d} {p'} {d'} l l' k r s =
    let u' = plus_part y.num in
    let f = plain_across l r in
    let g = plain_across l' s in
    let h : 0 < u' = pos-left u' d' (rw g (mul-pos k y.positive)) in
    let e : (x /ᶠ y).den ≡ x.den * u' = rw (absolute y.num (plain_minus l' s)) (max-one (x.den * u') (mul-pos x.positive h)) in
    let w : plus_part (x /ᶠ y).num ≡ plus_part x.num * y.den + minus_part (x /ᶠ y).num =
    omega (arith, scaled_parts x.num y.den, times y.den (plain_minus l r)) in
    let a = div_across (plus_part (x /ᶠ y).num) (minus_part (x /ᶠ y).num) (plus_part x.num) y.den d p' p d' x.den u' w f g in
    record { across = rw e (omega (arith, a)) }

-- ---- totals

-- A total of ratios over one denominator; a stage that takes no part adds the same to both sums.
pub ratio-total :
    (on : ℕ → Bool) (f : ℕ → Fraction) (p q : ℕ → ℕ) (d n : ℕ)
    → ((k : ℕ) → k < n → T (on k) → Ratio (f k) (p k) (q k) d)
    → ((k : ℕ) → k < n → T (not (on k)) → p k ≡ q k)
    → Ratio (total on f n) (sum p 0 n) (sum q 0 n) d
unfolding total sum
ratio-total on f p q d zero each rest = record { across = omega arith }
ratio-total on f p q d (suc n) each rest =
    let before : Ratio (total on f n) (sum p 0 n) (sum q 0 n) d =
    ratio-total on f p q d n (λ k l. each k (omega arith)) (λ k l. rest k (omega arith)) in
    rw (sum_end p n, sum_end q n) (go (on n) before (each n (omega arith)) (rest n (omega arith)))
  where
    go :
        {x : Fraction} {P Q : ℕ} (c : Bool) → Ratio x P Q d → (T c → Ratio (f n) (p n) (q n) d) → (T (not c) → p n ≡ q n)
        → Ratio (cond c (x +ᶠ f n) x) (P + p n) (Q + q n) d
    go true r h g = ratio-add r (h tt)
    go false r h g = ratio_as (ratio-both (p n) r) refl (omega (arith, g tt)) refl

-- A total of fractions that are not negative.
pub plain_total :
    (on : ℕ → Bool) (f : ℕ → Fraction) (p : ℕ → ℕ) (d n : ℕ)
    → ((k : ℕ) → k < n → T (on k) → Ratio (f k) (p k) 0 d)
    → Ratio (total on f n) (sum (λ k. cond (on k) (p k) 0) 0 n) 0 d
plain_total on f p d n each =
    ratio_as
    (ratio-total on f (λ k. cond (on k) (p k) 0) (λ k. 0) d n
    (λ k l o. ratio_as (each k l o) (sym (cond_yes (on k) (p k) 0 o)) refl refl) (λ k l o. cond_no (on k) (p k) 0 o))
    refl (zero-sum (λ k. 0) 0 n (λ k h. refl)) refl

-- ---- numbers

good-numerator : (x : Float) → Good x → numerator x ≡ pos (units x)
unfolding numerator
good-numerator = by_parts binary64 (λ x. numerator x ≡ pos (units x)) (λ m e g. refl)

value-num : (x : Float) → (value x).num ≡ numerator x
unfolding value
value-num x = refl

value_den : (x : Float) → (value x).den ≡ one·units
unfolding value one·units
value_den x = refl

zero-numerator : (x : Float) → T (is_zero x) → numerator x ≡ pos 0
unfolding numerator is_zero eq
zero-numerator nan t = absurd t
zero-numerator (inf s) t = absurd t
zero-numerator (fin true m e) t = rw (zero-units (fin true m e) t)
zero-numerator (fin false m e) t = ap pos (zero-units (fin false m e) t)

-- A good number is so many units of 2^-1074, and a zero of either sign none.
pub value-ratio : {x : Float} → Good x → Ratio (value x) (units x) 0 one·units
value-ratio {x} g = record { across = rw (value-num x, good-numerator x g, value_den x) (omega arith) }

pub zero-ratio : (x : Float) → T (is_zero x) → Ratio (value x) 0 0 one·units
zero-ratio x t = record { across = rw (value-num x, zero-numerator x t, value_den x) (omega arith) }
