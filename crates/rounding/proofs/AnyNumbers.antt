-- Numbers that are no sizes: a factor or a dividend that is zero beside any number, and signs.
use mathlib.Core.Path.{◌≡◌, refl, sym, ap, ◌∙◌}
use mathlib.Core.Logic.{◌⊎◌, inl, inr}
use Prim.Native.Nat.{ℕ, zero, suc, ◌+◌, ◌-◌, ◌*◌, ◌^◌, ◌<◌, zero-le}
use native.Mathlib.Nat.{eq_of_mul-eq-mul_right, add-zero, sub-zero, zero-mul, mul-zero, mul-pos, zero-lt-suc}
use native.Mathlib.Omega.{arith}
use mathlib.Core.Bool.{Bool, true, false, not, ◌||◌, cond, beq}
use lib.Dec.{T, eqb, ltb, eqb→eq, eqb-suc-zero}
use lib.Pow.{pow_pos}
use lib.IntN.{ℤ, pos}
use lib.Ieee.{Float, nan, inf, fin, Format, binary64, prec, low, emax, up, down, unlike, odd, round, sum, add, mul, div, lt, eq, fits}
use lib.Ieee.Exact.{HasValue, round_exact}
use lib.Ieee.Fits.{round_is, eq→eqb, up_pos, down_pos, and_i, and_l}
use lib.Ieee.Order.{kept, drop}
use lib.Ieee.Scale.{round_same}
use lib.Ieee as Ieee
use borrow.Author.Tests.{le-ltb}
use Rattle.exact.proofs.Bools.{or_l, or_r}
use Rattle.definitions.specs.Numbers.{◌⊕◌, ◌⊗◌, ◌⊘◌, 0·0, smallest, finite, is_zero, add_in_range, mul_in_range, add_product_in_range, units}
use Rattle.rounding.specs.Good.{Good}
use Rattle.rounding.proofs.Value.{amount, amount_of_value, value, by_parts}
use Rattle.rounding.proofs.Round.{round_back}
use Rattle.rounding.proofs.Laws.{units_is, zero_is_good}
use Rattle.rounding.proofs.Finite.{zero-finite}
use Rattle.rounding.proofs.Zeros.{minus-zero}

-- ---- a factor that is zero
module _ (m y : Float) where
  pub any-zero_in_range : T (is_zero m || is_zero y) → T (finite (m ⊗ y)) → T (mul_in_range m y)
  unfolding mul_in_range
  any-zero_in_range z t = and_i (finite (m ⊗ y)) (is_zero m || is_zero y || lt smallest (m ⊗ y)) t (or_l (is_zero m || is_zero y) (lt smallest (m ⊗ y)) z)

  pub zero-product : T (is_zero m) → T (finite (m ⊗ y)) → T (mul_in_range m y)
  zero-product z t = any-zero_in_range (or_l (is_zero m) (is_zero y) z) t

-- ---- a negative number is not above 2^-1022
odd-below : (d q k l : ℕ) → T (lt smallest (odd d true q k l)) → ⊥
unfolding odd lt
odd-below d zero k l t = t
odd-below d (suc q) k l t = t

units-below : (f : Format) (q k : ℕ) → T (lt smallest (Ieee.units f true q k)) → ⊥
unfolding Ieee.units lt
units-below f q k = neither (ltb (q * 2 ^ k) (2 ^ (low f + suc (emax f))))
  where
    neither : (b : Bool) → T (lt smallest (cond b (odd (suc (prec f)) true q k (low f)) (inf true))) → ⊥
    neither true t = odd-below (suc (prec f)) q k (low f) t
    neither false t = t

round-below : (f : Format) (a c : ℕ) → T (lt smallest (round f true a c)) → ⊥
round-below f a c = rw round_is (units-below f (kept (prec f) (a * 2 ^ low f) c) (drop (prec f) (a * 2 ^ low f) c))

minus-below : (n : ℕ) (e : ℤ) (y : Float) → Good y → T (lt smallest (fin true n e ⊗ y)) → ⊥
unfolding mul
minus-below n e = by_parts binary64 (λ y. T (lt smallest (fin true n e ⊗ y)) → ⊥) (λ k d g. round-below binary64 (n * up e * (k * up d)) (down e * down d))

-- So a factor that is finite is good where its product with a good number is above 2^-1022.
pub multiplier-good : (m lo : Float) → T (fits binary64 m) → T (finite m) → Good lo → T (lt smallest (m ⊗ lo)) → Good m
unfolding finite
multiplier-good nan lo f t g a = absurd t
multiplier-good (inf s) lo f t g a = absurd t
multiplier-good (fin true n e) lo f t g a = absurd (minus-below n e lo g a)
multiplier-good (fin false n e) lo f t g a = record { plus = tt; held = f }

-- ---- a dividend that is zero
module _ (s : Bool) (n : ℕ) (e : ℤ) where
  pub zero-amount : T (is_zero (fin s n e)) → n * up e ≡ 0
  unfolding is_zero eq
  zero-amount t =
      let h = eqb→eq (n * up e * 1) (0 * 1 * down e) (and_l (eqb (n * up e * 1) (0 * 1 * down e)) (beq s false || eqb (n * up e * 1) 0) t) in
      omega arith

  amount-zero : n * up e ≡ 0 → T (is_zero (fin s n e))
  unfolding is_zero eq
  amount-zero z =
      let p : n * up e * 1 ≡ 0 * 1 * down e = omega arith in
      let q : n * up e * 1 ≡ 0 = omega arith in
      and_i (eqb (n * up e * 1) (0 * 1 * down e)) (beq s false || eqb (n * up e * 1) 0) (eq→eqb p) (or_r (beq s false) (eqb (n * up e * 1) 0) (eq→eqb q))

pub zero-units : (x : Float) → T (is_zero x) → units x ≡ 0
unfolding is_zero eq
zero-units nan t = absurd t
zero-units (inf s) t = absurd t
zero-units (fin s n e) t =
    units_is (fin s n e)
    ∙ amount_of_value binary64 (fin s n e) s 0
    (refl, ap (λ (a : ℕ). a * 2 ^ low binary64) (zero-amount s n e t) ∙ zero-mul (2 ^ low binary64) ∙ sym (zero-mul (down e)))

-- A number that is not below zero is good, or a zero of either sign.
pub good_or_zero : (x : Float) → T (fits binary64 x) → T (finite x) → T (not (lt x 0·0)) → Good x ⊎ T (is_zero x)
unfolding finite
good_or_zero nan f t l = absurd t
good_or_zero (inf s) f t l = absurd t
good_or_zero (fin false n e) f t l = inl record { plus = tt; held = f }
good_or_zero (fin true n e) f t l = inr (amount-zero true n e (minus-zero n e l))

round-zero : (s : Bool) (c : ℕ) → 0 < c → T (is_zero (round binary64 s 0 c))
round-zero s c C = from (round binary64 s 0 c) (round_exact binary64 s 0 c 0 0 C (pow_pos (prec binary64)) (pow_pos (low binary64 + suc (emax binary64))) (zero-mul (2 ^ low binary64) ∙ sym (zero-mul c)))
  where
    from : (x : Float) → HasValue x s 0 c → T (is_zero x)
    from nan v = absurd v
    from (inf r) v = absurd v
    from (fin r n e) v = amount-zero r n e (eq_of_mul-eq-mul_right c C (n * up e) 0 (v.1 ∙ zero-mul (down e) ∙ sym (zero-mul c)))

-- ---- a number that is zero in the other row: where the multiplier is finite, x + m·0 is x
sum_with_zero : (s : Bool) (a c : ℕ) → sum binary64 false a s 0 c ≡ round binary64 false a c
unfolding sum
sum_with_zero true a c =
    ap (λ (b : Bool). cond b (round binary64 true (0 - a) c) (round binary64 false (a - 0) c)) (le-ltb a 0 zero-le)
    ∙ ap (λ (d : ℕ). round binary64 false d c) (sub-zero a)
sum_with_zero false a c = ap (λ (d : ℕ). round binary64 false d c) (add-zero a)

widened : (a p u l q : ℕ) → a * l ≡ u * p → a * q * l ≡ u * (p * q)
widened a p u l q h = let v = ap (λ (z : ℕ). z * q) h in omega arith

plus_amount : {x : Float} → Good x → (s : Bool) (n : ℕ) (d : ℤ) → n * up d ≡ 0 → x ⊕ fin s n d ≡ x
unfolding add
plus_amount {x} g s n d z =
    by_parts binary64 (λ x. x ⊕ fin s n d ≡ x)
    (λ m e h.
    ap (λ (b : ℕ). sum binary64 false (m * up e * down d) s b (down e * down d)) (ap (λ (a : ℕ). a * down e) z ∙ zero-mul (down e))
    ∙ sum_with_zero s (m * up e * down d) (down e * down d)
    ∙ back m e h)
    x g
  where
    back : (m : ℕ) (e : ℤ) → Good (fin false m e) → round binary64 false (m * up e * down d) (down e * down d) ≡ fin false m e
    back m e h =
        round_same binary64 false (m * up e * down d) (down e * down d) (amount binary64 (fin false m e)) (2 ^ low binary64)
        (mul-pos (down_pos e) (down_pos d)) (pow_pos (low binary64))
        (widened (m * up e) (down e) (amount binary64 (fin false m e)) (2 ^ low binary64) (down d) (value h).1)
        ∙ round_back h

pub plus_zero_of_sign : {x : Float} (y : Float) → Good x → T (is_zero y) → x ⊕ y ≡ x
unfolding is_zero eq
plus_zero_of_sign nan g t = absurd t
plus_zero_of_sign (inf s) g t = absurd t
plus_zero_of_sign (fin s n d) g t = plus_amount g s n d (zero-amount s n d t)

pub times-zero_of_sign : (m y : Float) → T (finite m) → T (is_zero y) → T (is_zero (m ⊗ y))
unfolding mul finite is_zero eq
times-zero_of_sign nan y t z = absurd t
times-zero_of_sign (inf s) y t z = absurd t
times-zero_of_sign (fin s n e) nan t z = absurd z
times-zero_of_sign (fin s n e) (inf r) t z = absurd z
times-zero_of_sign (fin s n e) (fin r k d) t z =
    rw (zero-amount r k d z, mul-zero (n * up e)) (round-zero (unlike s r) (down e * down d) (mul-pos (down_pos e) (down_pos d)))

zero_is_zero : T (is_zero 0·0)
zero_is_zero = amount-zero false 0 (pos 0) refl

pub zero_other : {x y : Float} (m : Float) → Good x → T (finite m) → y ≡ 0·0 → x ⊕ m ⊗ y ≡ x
zero_other m g t e = rw e (plus_zero_of_sign (m ⊗ 0·0) g (times-zero_of_sign m 0·0 t zero_is_zero))

-- Zeros go through a step as zeros, whatever the finite multiplier.
pub zero_step : (m : Float) → T (finite m) → T (add_product_in_range 0·0 m 0·0)
unfolding add_product_in_range add_in_range finite
zero_step m t =
    let z = times-zero_of_sign m 0·0 t zero_is_zero in
    and_i (mul_in_range m 0·0) (finite (0·0 ⊕ m ⊗ 0·0)) (any-zero_in_range m 0·0 (or_r (is_zero m) (is_zero 0·0) zero_is_zero) (zero-finite (m ⊗ 0·0) z))
    (rw (zero_other {x = 0·0} m zero_is_good t refl) tt)

-- A divisor that is zero gives no finite quotient.
over-number : (k : ℕ) (x y : Float) → (T (finite x) → ⊥) → (0 < k → T (is_zero y)) → T (finite (cond (eqb k 0) x y)) → T (is_zero (cond (eqb k 0) x y))
over-number zero x y p q t = absurd (p t)
over-number (suc k) x y p q t = rw (eqb-suc-zero k) (q (zero-lt-suc k))

pub zero-quotient : (x p : Float) → T (is_zero x) → T (finite (x ⊘ p)) → T (is_zero (x ⊘ p))
unfolding div finite
zero-quotient nan p z t = absurd t
zero-quotient (inf s) nan z t = absurd t
zero-quotient (inf s) (inf r) z t = absurd t
zero-quotient (inf s) (fin r k d) z t = absurd t
zero-quotient (fin s n e) nan z t = absurd t
zero-quotient (fin s n e) (inf r) z t = amount-zero (unlike s r) 0 (pos 0) refl
zero-quotient (fin s n e) (fin r k d) z t =
    over-number k (cond (eqb n 0) nan (inf (unlike s r))) (round binary64 (unlike s r) (n * up e * down d) (k * up d * down e))
    (λ u. neither (eqb n 0) u)
    (λ K. rw (zero-amount s n e z, zero-mul (down d)) (round-zero (unlike s r) (k * up d * down e) (mul-pos (mul-pos K (up_pos d)) (down_pos e))))
    t
  where
    neither : (b : Bool) → T (finite (cond b nan (inf (unlike s r)))) → ⊥
    neither true u = u
    neither false u = u

-- So a divisor with a finite quotient divides zero too.
pub zero-over-finite : (x p : Float) → T (finite (x ⊘ p)) → T (finite (0·0 ⊘ p))
unfolding div finite
zero-over-finite nan p t = absurd t
zero-over-finite (inf s) nan t = absurd t
zero-over-finite (inf s) (inf r) t = absurd t
zero-over-finite (inf s) (fin r k d) t = absurd t
zero-over-finite (fin s n e) nan t = absurd t
zero-over-finite (fin s n e) (inf r) t = tt
zero-over-finite (fin s n e) (fin r k d) t = over k t
  where
    neither : (b : Bool) → T (finite (cond b nan (inf (unlike s r)))) → ⊥
    neither true u = u
    neither false u = u

    over : (k : ℕ) → T (finite (fin s n e ⊘ fin r k d)) → T (finite (0·0 ⊘ fin r k d))
    over zero t = absurd (neither (eqb n 0) t)
    over (suc k) t =
        rw (eqb-suc-zero k, zero-mul (down d))
        (zero-finite (round binary64 (unlike false r) 0 (suc k * up d * 1)) (round-zero (unlike false r) (suc k * up d * 1) (mul-pos (mul-pos (zero-lt-suc k) (up_pos d)) (zero-lt-suc 0))))
