-- Times 2^k, for numbers of either sign, zeros too, and k of either sign: `times_power` is told by its value, is what a product with a
-- power and a quotient by one come to wherever binary64 holds it, and keeps the order.
use mathlib.Core.Path.{◌≡◌, refl, sym, ap, ap₂, ◌∙◌}
use Prim.Native.Nat.{ℕ, zero, suc, ◌+◌, ◌-◌, ◌*◌, ◌%◌, ◌^◌, ◌≤◌, ◌<◌}
use native.Mathlib.Nat.{le_refl, le_trans, le-mul_of_pos_right, le_of_eq, le_of_suc-le-suc, lt_of_not-le, mul-mod_left, lt_of_le_of_lt, lt_of_lt_of_le, mul-lt-mul_of_pos_right, lt_of_mul-lt-mul_right, mul_assoc, mul_comm, mul-one, one-mul, zero-mul, mul-pos, add-mul, eq_of_mul-eq-mul_right, zero-lt-suc}
use native.Mathlib.Omega.{arith}
use mathlib.Core.Bool.{Bool, true, false, not, ◌&&◌, ◌||◌, cond, beq}
use lib.IntN.{ℤ, pos, negsuc, neg_ℤ, sub_ℕ, ◌+ℤ◌, +ℤ_assoc, +ℤ_idr, +ℤ_invl, +ℤ_invr}
use lib.Dec.{T, ltb, eqb, ltb→lt, nltb→le}
use lib.Pow.{pow-add, pow_pos, pow_mono}
use lib.Ieee.{Float, nan, inf, fin, binary64, emax, low, up, down, unlike, round, mul, div, neg, below, level, lt, eq, le, fits}
use lib.Ieee.Fits.{up_pos, down_pos}
use Rattle.definitions.specs.Numbers.{◌⊗◌, ◌⊘◌, 0·0, finite, is_zero, units}
use Rattle.definitions.specs.Moving.{times_power}
use Rattle.rounding.specs.Good.{Good}
use Rattle.rounding.specs.Scaling.{Scaled, power, negative, TimesByValue, TimesPowerByValue, ProductWithPower, QuotientByPower, TimesPowerTwice, TimesPowerKeepsOrder, ScaledIsTimesPower}
use Rattle.rounding.proofs.Value.{amount, amount_of_value, fit, tests, refit, by_parts, held_value, held_lt, held_unique}
use Rattle.rounding.proofs.Round.{round_held}
use Rattle.rounding.proofs.Laws.{units_is, good-finite}
use Rattle.rounding.proofs.Compare.{ltb_scale, eqb_scale}
use Rattle.rounding.proofs.Zeros.{IsSize}

-- ---- 2^(e + k) is 2^e times 2^k, each as a fraction
module _ (a b : ℕ) where
  abbrev difference : Bool → ℤ
  difference c = cond c (negsuc (suc b - suc a)) (pos (a - suc b))

  apart : (c : Bool) → (T c → a < suc b) → (T (not c) → suc b ≤ a) → up (difference c) * 2 ^ suc b ≡ 2 ^ a * down (difference c)
  apart true h k =
      let d = suc (suc b - suc a) in
      let less = h tt in
      let whole : suc b ≡ a + d = omega arith in
      one-mul (2 ^ suc b) ∙ ap (λ (x : ℕ). 2 ^ x) whole ∙ pow-add 2 a d
  apart false h k =
      let more = k tt in
      let whole : a - suc b + suc b ≡ a = omega arith in
      sym (pow-add 2 (a - suc b) (suc b)) ∙ ap (λ (x : ℕ). 2 ^ x) whole ∙ sym (mul-one (2 ^ a))

  power-difference : up (sub_ℕ a (suc b)) * 2 ^ suc b ≡ 2 ^ a * down (sub_ℕ a (suc b))
  power-difference = apart (ltb a (suc b)) (ltb→lt a (suc b)) (nltb→le a (suc b))

power-sum : (e k : ℤ) → up (e +ℤ k) * (down e * down k) ≡ up e * up k * down (e +ℤ k)
power-sum (pos a) (pos b) = ap (λ (x : ℕ). x * (1 * 1)) (pow-add 2 a b)
power-sum (pos a) (negsuc b) = rw (one-mul (2 ^ suc b), mul-one (2 ^ a)) (power-difference a b)
power-sum (negsuc a) (pos b) = rw (mul-one (2 ^ suc a), one-mul (2 ^ b)) (power-difference b a)
power-sum (negsuc a) (negsuc b) =
    let whole : suc a + suc b ≡ suc (suc (a + b)) = omega arith in
    ap (λ (x : ℕ). 1 * x) (sym (pow-add 2 (suc a) (suc b)) ∙ ap (λ (x : ℕ). 2 ^ x) whole)

pub down-neg : (k : ℤ) → down (neg_ℤ k) ≡ up k
down-neg (pos zero) = refl
down-neg (pos (suc n)) = refl
down-neg (negsuc n) = refl

pub up_neg : (k : ℤ) → up (neg_ℤ k) ≡ down k
up_neg (pos zero) = refl
up_neg (pos (suc n)) = refl
up_neg (negsuc n) = refl

-- ---- m'·2^e' is m·2^e times 2^k
abbrev pub Times : ℤ → ℕ → ℤ → ℕ → ℤ → Type 0
Times k m e m' e' = m' * up e' * (down e * down k) ≡ m * up e * up k * down e'

pub times_some : (k : ℤ) (m : ℕ) (e : ℤ) → Times k m e m (e +ℤ k)
times_some k m e =
    mul_assoc m (up (e +ℤ k)) (down e * down k) ∙ ap (λ (x : ℕ). m * x) (power-sum e k) ∙ regroup m (up e) (up k) (down (e +ℤ k))
  where
    regroup : (m a b c : ℕ) → m * (a * b * c) ≡ m * a * b * c
    regroup m a b c = omega arith

times-zero_parts : (k : ℤ) (e : ℤ) → Times k 0 e 0 e
times-zero_parts k e = none (up e) (down e * down k) (up k) (down e)
  where
    none : (a b c d : ℕ) → 0 * a * b ≡ 0 * a * c * d
    none a b c d = omega arith

-- What holds of every number with such parts holds of `times_power`.
pub by_times : (P : Float → Type 0) (k : ℤ) (s : Bool) (m : ℕ) (e : ℤ) → ((m' : ℕ) (e' : ℤ) → Times k m e m' e' → P (fin s m' e')) → P (times_power k (fin s m e))
unfolding times_power
by_times P k s zero e h = h zero e (times-zero_parts k e)
by_times P k s (suc m) e h = h (suc m) (e +ℤ k) (times_some k (suc m) e)

-- ---- products and quotients
unlike_plus : (s : Bool) → unlike s false ≡ s
unlike_plus true = refl
unlike_plus false = refl

held_product : (k : ℤ) (s : Bool) (m : ℕ) (e : ℤ) (m' : ℕ) (e' : ℤ) → Times k m e m' e' → T (fits binary64 (fin s m' e')) → fin s m e ⊗ power k ≡ fin s m' e'
unfolding mul
held_product k s m e m' e' p t =
    ap (λ (b : Bool). round binary64 b (m * up e * (1 * up k)) (down e * down k)) (unlike_plus s)
    ∙ round_held binary64 s m' e' (m * up e * (1 * up k)) (down e * down k) t (mul-pos (down_pos e) (down_pos k)) (rw (one-mul (up k)) (sym p))

held_quotient : (k : ℤ) (s : Bool) (m : ℕ) (e : ℤ) (m' : ℕ) (e' : ℤ) → Times (neg_ℤ k) m e m' e' → T (fits binary64 (fin s m' e')) → fin s m e ⊘ power k ≡ fin s m' e'
unfolding div
held_quotient k s m e m' e' p t =
    ap (λ (b : Bool). round binary64 b (m * up e * down k) (1 * up k * down e)) (unlike_plus s)
    ∙ round_held binary64 s m' e' (m * up e * down k) (1 * up k * down e) t (mul-pos (mul-pos (zero-lt-suc 0) (up_pos k)) (down_pos e))
    (rw (one-mul (up k), mul_comm (up k) (down e)) (sym (rw (down-neg k, up_neg k) at p)))

pub product_with_power : ProductWithPower
unfolding finite times_power
product_with_power k nan f t = absurd f
product_with_power k (inf s) f t = absurd f
product_with_power k (fin s m e) f t = by_times (λ y. T (fits binary64 y) → fin s m e ⊗ power k ≡ y) k s m e (held_product k s m e) t

pub quotient_by_power : QuotientByPower
unfolding finite times_power
quotient_by_power k nan f t = absurd f
quotient_by_power k (inf s) f t = absurd f
quotient_by_power k (fin s m e) f t = by_times (λ y. T (fits binary64 y) → fin s m e ⊘ power k ≡ y) (neg_ℤ k) s m e (held_quotient k s m e) t

-- ---- by value
-- x' / d' is x / d times uk / dk; they are z' / l and z / l
module _ (x' d' x d uk dk l z z' : ℕ) (D : 0 < d) (p : x' * (d * dk) ≡ x * uk * d') (q : x * l ≡ z * d) where
  sizes_cancel : 0 < d' → x' * l ≡ z' * d' → z' * dk ≡ z * uk
  sizes_cancel D' q' =
      let a = ap (λ (y : ℕ). y * l) p in
      let b = ap (λ (y : ℕ). y * (uk * d')) q in
      let c = ap (λ (y : ℕ). y * (d * dk)) q' in
      eq_of_mul-eq-mul_right (d * d') (mul-pos D D') (z' * dk) (z * uk) (omega arith)

  sizes_carried : 0 < dk → z' * dk ≡ z * uk → x' * l ≡ z' * d'
  sizes_carried K r =
      let a = ap (λ (y : ℕ). y * l) p in
      let b = ap (λ (y : ℕ). y * (uk * d')) q in
      let c = ap (λ (y : ℕ). y * (d * d')) r in
      eq_of_mul-eq-mul_right (d * dk) (mul-pos D K) (x' * l) (z' * d') (omega arith)

-- Odd digits under 2^-j are a whole number of 2^-l only where j is at most l.
odd_deep : (m j u l : ℕ) → m % 2 ≡ 1 → m * 2 ^ l ≡ u * 2 ^ j → j ≤ l
odd_deep m j u l odd e = le_of_suc-le-suc (lt_of_not-le (λ (deep : suc l ≤ j). even (j - suc l) (whole deep)))
  where
    whole : suc l ≤ j → j ≡ j - suc l + 1 + l
    whole h = omega arith

    one_or_none : (a : ℕ) → a ≡ 1 → a ≡ 0 → ⊥
    one_or_none a h k = omega arith

    even : (i : ℕ) → j ≡ i + 1 + l → ⊥
    even i w =
        let same : m * 2 ^ l ≡ u * 2 ^ i * 2 * 2 ^ l =
        e ∙ ap (λ (x : ℕ). u * 2 ^ x) w ∙ ap (λ (x : ℕ). u * x) (pow-add 2 (i + 1) l ∙ ap (λ (x : ℕ). x * 2 ^ l) (pow-add 2 i 1)) ∙ regroup u (2 ^ i) (2 ^ l) in
        one_or_none (m % 2) odd (ap (λ (x : ℕ). x % 2) (eq_of_mul-eq-mul_right (2 ^ l) (pow_pos l) m (u * 2 ^ i * 2) same) ∙ mul-mod_left (u * 2 ^ i) 2)
      where
        regroup : (u a b : ℕ) → u * (a * 2 * b) ≡ u * a * 2 * b
        regroup u a b = omega arith

module _ (k : ℤ) (s : Bool) (m : ℕ) (e : ℤ) (g : T (fits binary64 (fin s m e))) where
  held_times : (m' : ℕ) (e' : ℤ) → Times k m e m' e' → T (fits binary64 (fin s m' e')) → TimesByValue k (fin s m e) (fin s m' e')
  unfolding finite
  held_times m' e' p t =
      record {
        is_finite = tt;
        held = t;
        sign = refl;
        size =
            rw (units_is (fin s m' e'), units_is (fin s m e))
            (sizes_cancel (m' * up e') (down e') (m * up e) (down e) (up k) (down k) (2 ^ low binary64) (amount binary64 (fin s m e)) (amount binary64 (fin s m' e'))
            (down_pos e) p (held_value binary64 s m e g).1 (down_pos e') (held_value binary64 s m' e' t).1);
      }

  module _ (r : Bool) (n : ℕ) (d : ℤ) (v : TimesByValue k (fin s m e) (fin r n d)) where
    -- The exact product in units, which are those of such a number.
    exact-units : (m' : ℕ) (e' : ℤ) → Times k m e m' e' → m' * up e' * 2 ^ low binary64 ≡ amount binary64 (fin r n d) * down e'
    exact-units m' e' p =
        sizes_carried (m' * up e') (down e') (m * up e) (down e) (up k) (down k) (2 ^ low binary64) (amount binary64 (fin s m e)) (amount binary64 (fin r n d))
        (down_pos e) p (held_value binary64 s m e g).1 (down_pos k) (rw (units_is (fin r n d), units_is (fin s m e)) at v.size)

    only_times : (m' : ℕ) (e' : ℤ) → Times k m e m' e' → T (fits binary64 (fin s m' e')) → fin r n d ≡ fin s m' e'
    only_times m' e' p t =
        let same : fin r n d ≡ fin s n d = ap (λ (b : Bool). fin b n d) v.sign in
        same
        ∙ held_unique binary64 s n d m' e' (rw same at v.held) t
        (ap (amount binary64) (sym same) ∙ sym (amount_of_value binary64 (fin s m' e') s (amount binary64 (fin r n d)) (refl, exact-units m' e' p)))

-- So binary64 holds the exact product.
product_held : (k : ℤ) (s : Bool) (m : ℕ) (e : ℤ) → T (fits binary64 (fin s m e)) → (r : Bool) (n : ℕ) (d : ℤ) → TimesByValue k (fin s m e) (fin r n d)
    → T (fits binary64 (times_power k (fin s m e)))
unfolding times_power
product_held k s zero e g r n d v = g
product_held k s (suc m) e g r n d v = refit binary64 s m e (e +ℤ k) g (deep (e +ℤ k) units_are) under
  where
    units_are : suc m * up (e +ℤ k) * 2 ^ low binary64 ≡ amount binary64 (fin r n d) * down (e +ℤ k)
    units_are = exact-units k s (suc m) e g r n d v (suc m) (e +ℤ k) (times_some k (suc m) e)

    deep : (e' : ℤ) → suc m * up e' * 2 ^ low binary64 ≡ amount binary64 (fin r n d) * down e' → down e' ≤ 2 ^ low binary64
    deep (pos a) h = pow_pos (low binary64)
    deep (negsuc j) h =
        pow_mono (odd_deep (suc m) (suc j) (amount binary64 (fin r n d)) (low binary64) (tests binary64 s m e g).odd (ap (λ (x : ℕ). x * 2 ^ low binary64) (sym (mul-one (suc m))) ∙ h))

    below : (y l u d c : ℕ) → 0 < d → y * l ≡ u * d → u < l * c → y < c * d
    below y l u d c D h less =
        lt_of_mul-lt-mul_right l (lt_of_le_of_lt (le_of_eq h) (lt_of_lt_of_le (mul-lt-mul_of_pos_right less D) (le_of_eq (regroup l c d))))
      where
        regroup : (l c d : ℕ) → l * c * d ≡ c * d * l
        regroup l c d = omega arith

    under : suc m * up (e +ℤ k) < 2 ^ suc (emax binary64) * down (e +ℤ k)
    under =
        below (suc m * up (e +ℤ k)) (2 ^ low binary64) (amount binary64 (fin r n d)) (down (e +ℤ k)) (2 ^ suc (emax binary64)) (down_pos (e +ℤ k)) units_are
        (rw (← (pow-add 2 (low binary64) (suc (emax binary64)))) (held_lt binary64 r n d v.held))

pub times-power_by_value : TimesPowerByValue
unfolding finite times_power
times-power_by_value k nan f g = absurd f
times-power_by_value k (inf s) f g = absurd f
times-power_by_value k (fin s m e) f g = (by_times (λ x. T (fits binary64 x) → TimesByValue k (fin s m e) x) k s m e (held_times k s m e g), only)
  where
    only : (y : Float) → TimesByValue k (fin s m e) y → y ≡ times_power k (fin s m e)
    only nan v = absurd v.is_finite
    only (inf r) v = absurd v.is_finite
    only (fin r n d) v = by_times (λ x. T (fits binary64 x) → fin r n d ≡ x) k s m e (only_times k s m e g r n d v) (product_held k s m e g r n d v)

-- ---- one move after another
pub times-power_twice : TimesPowerTwice
unfolding times_power
times-power_twice a b nan = refl
times-power_twice a b (inf s) = refl
times-power_twice a b (fin s zero e) = refl
times-power_twice a b (fin s (suc m) e) = ap (fin s (suc m)) (+ℤ_assoc e a b)

pub times_none : (x : Float) → times_power (pos 0) x ≡ x
unfolding times_power
times_none nan = refl
times_none (inf s) = refl
times_none (fin s zero e) = refl
times_none (fin s (suc m) e) = ap (fin s (suc m)) (+ℤ_idr e)

-- there and back
pub times_back : (k : ℤ) (x : Float) → times_power k (times_power (neg_ℤ k) x) ≡ x
times_back k x = times-power_twice (neg_ℤ k) k x ∙ ap (λ (z : ℤ). times_power z x) (+ℤ_invl k) ∙ times_none x

pub times_forth : (k : ℤ) (x : Float) → times_power (neg_ℤ k) (times_power k x) ≡ x
times_forth k x = times-power_twice k (neg_ℤ k) x ∙ ap (λ (z : ℤ). times_power z x) (+ℤ_invr k) ∙ times_none x

pub times-neg : (k : ℤ) (x : Float) → neg (times_power k x) ≡ times_power k (neg x)
unfolding times_power neg
times-neg k nan = refl
times-neg k (inf s) = refl
times-neg k (fin s zero e) = refl
times-neg k (fin s (suc m) e) = refl

-- ---- the order
below_scale : (s : Bool) (a : ℕ) (t : Bool) (b p : ℕ) → 0 < p → below s (a * p) t (b * p) ≡ below s a t b
below_scale false a false b p P = ltb_scale a b p P
below_scale false a true b p P = refl
below_scale true a false b p P = ap₂ ltb (sym (zero-mul p)) (sym (add-mul a b p)) ∙ ltb_scale 0 (a + b) p P
below_scale true a true b p P = ltb_scale b a p P

level_scale : (s : Bool) (a : ℕ) (t : Bool) (b p : ℕ) → 0 < p → level s (a * p) t (b * p) ≡ level s a t b
level_scale s a t b p P =
    ap₂ (λ (x y : Bool). x && (beq s t || y)) (eqb_scale a b p P) (ap (eqb (a * p)) (sym (zero-mul p)) ∙ eqb_scale a 0 p P)

-- a test that a common factor does not change, of two numbers times 2^k
carried : (test : ℕ → ℕ → Bool) → ((a b p : ℕ) → 0 < p → test (a * p) (b * p) ≡ test a b)
    → (k : ℤ) (m : ℕ) (e : ℤ) (m' : ℕ) (e' : ℤ) (n : ℕ) (d : ℤ) (n' : ℕ) (d' : ℤ) → Times k m e m' e' → Times k n d n' d'
    → test (m' * up e' * down d') (n' * up d' * down e') ≡ test (m * up e * down d) (n * up d * down e)
carried test scale k m e m' e' n d n' d' p q =
    sym (scale (m' * up e' * down d') (n' * up d' * down e') (down e * down k * down d) (mul-pos (mul-pos (down_pos e) (down_pos k)) (down_pos d)))
    ∙ ap₂ test (one_side (m' * up e') (down e) (down k) (m * up e) (up k) (down e') (down d) (down d') p) (other_side (n' * up d') (down d) (down k) (n * up d) (up k) (down d') (down e) (down e') q)
    ∙ scale (m * up e * down d) (n * up d * down e) (up k * down e' * down d') (mul-pos (mul-pos (up_pos k) (down_pos e')) (down_pos d'))
  where
    one_side : (x' de dk x uk de' dd dd' : ℕ) → x' * (de * dk) ≡ x * uk * de' → x' * dd' * (de * dk * dd) ≡ x * dd * (uk * de' * dd')
    one_side x' de dk x uk de' dd dd' h = let v = ap (λ (z : ℕ). z * (dd * dd')) h in omega arith

    other_side : (x' dd dk x uk dd' de de' : ℕ) → x' * (dd * dk) ≡ x * uk * dd' → x' * de' * (de * dk * dd) ≡ x * de * (uk * de' * dd')
    other_side x' dd dk x uk dd' de de' h = let v = ap (λ (z : ℕ). z * (de * de')) h in omega arith

-- for the two tests of `lt` and `eq` on two finite numbers
module _ (test : Float → Float → Bool) (inside : Bool → ℕ → Bool → ℕ → Bool)
    (is : (s : Bool) (m : ℕ) (e : ℤ) (t : Bool) (n : ℕ) (d : ℤ) → test (fin s m e) (fin t n d) ≡ inside s (m * up e * down d) t (n * up d * down e))
    (scale : (s : Bool) (a : ℕ) (t : Bool) (b p : ℕ) → 0 < p → inside s (a * p) t (b * p) ≡ inside s a t b)
  where
    finite_carried : (k : ℤ) (s : Bool) (m : ℕ) (e : ℤ) (t : Bool) (n : ℕ) (d : ℤ) → test (times_power k (fin s m e)) (times_power k (fin t n d)) ≡ test (fin s m e) (fin t n d)
    finite_carried k s m e t n d =
        by_times (λ x. test x (times_power k (fin t n d)) ≡ test (fin s m e) (fin t n d)) k s m e
        (λ m' e' p. by_times (λ y. test (fin s m' e') y ≡ test (fin s m e) (fin t n d)) k t n d
        (λ n' d' q.
        is s m' e' t n' d'
        ∙ carried (λ a b. inside s a t b) (λ a b r R. scale s a t b r R) k m e m' e' n d n' d' p q
        ∙ sym (is s m e t n d)))

pub times-lt : (k : ℤ) (x y : Float) → lt (times_power k x) (times_power k y) ≡ lt x y
unfolding lt times_power
times-lt k nan y = refl
times-lt k (inf s) nan = refl
times-lt k (inf s) (inf t) = refl
times-lt k (inf s) (fin t n d) = by_times (λ y. lt (inf s) y ≡ s) k t n d (λ n' d' q. refl)
times-lt k (fin s m e) nan = by_times (λ x. lt x nan ≡ false) k s m e (λ m' e' p. refl)
times-lt k (fin s m e) (inf t) = by_times (λ x. lt x (inf t) ≡ not t) k s m e (λ m' e' p. refl)
times-lt k (fin s m e) (fin t n d) = finite_carried lt below (λ s m e t n d. refl) below_scale k s m e t n d

pub times-eq : (k : ℤ) (x y : Float) → eq (times_power k x) (times_power k y) ≡ eq x y
unfolding eq times_power
times-eq k nan y = refl
times-eq k (inf s) nan = refl
times-eq k (inf s) (inf t) = refl
times-eq k (inf s) (fin t n d) = by_times (λ y. eq (inf s) y ≡ false) k t n d (λ n' d' q. refl)
times-eq k (fin s m e) nan = by_times (λ x. eq x nan ≡ false) k s m e (λ m' e' p. refl)
times-eq k (fin s m e) (inf t) = by_times (λ x. eq x (inf t) ≡ false) k s m e (λ m' e' p. refl)
times-eq k (fin s m e) (fin t n d) = finite_carried eq level (λ s m e t n d. refl) level_scale k s m e t n d

pub times-power_keeps_order : TimesPowerKeepsOrder
unfolding le
times-power_keeps_order k x y = ap₂ (λ (a b : Bool). a || b) (times-lt k x y) (times-eq k x y)

pub times_is_zero : (k : ℤ) (x : Float) → is_zero (times_power k x) ≡ is_zero x
unfolding is_zero times_power
times_is_zero k x = times-eq k x 0·0

-- More of 2^k leaves no more below the point.
pub shallower : (e : ℤ) (k : ℕ) → down (e +ℤ pos k) ≤ down e
shallower (pos a) k = le_refl 1
shallower (negsuc a) k = either (ltb k (suc a))
  where
    less : (a k : ℕ) → suc (suc a - suc k) ≤ suc a
    less a k = omega arith

    either : (c : Bool) → down (cond c (negsuc (suc a - suc k)) (pos (k - suc a))) ≤ 2 ^ suc a
    either true = pow_mono (less a k)
    either false = pow_pos (suc a)

-- ---- good numbers: `Scaled`
good_plus : (x : Float) → Good x → negative x ≡ false
good_plus = by_parts binary64 (λ x. negative x ≡ false) (λ m e g. refl)

pub scaled_is_times_power : ScaledIsTimesPower
scaled_is_times_power k x x' s =
    (times-power_by_value (pos k) x (good-finite s.from) s.from.held).1 x'
    record {
      is_finite = good-finite s.to;
      held = s.to.held;
      sign = good_plus x' s.to ∙ sym (good_plus x s.from);
      size = mul-one (units x') ∙ s.by;
    }

-- ---- between two numbers of binary64: x and x·2^l
pub times-up : (j m : ℕ) (e : ℤ) (m' : ℕ) (e' : ℤ) → Times (pos j) m e m' e' → m * up e * down e' ≤ m' * up e' * down e
times-up j m e m' e' p = grown (m * up e) (down e') (m' * up e') (down e) (2 ^ j) (pow_pos j) p
  where
    grown : (x d' x' d k : ℕ) → 0 < k → x' * (d * 1) ≡ x * k * d' → x * d' ≤ x' * d
    grown x d' x' d k K p = let v = le-mul_of_pos_right (x * d') K in omega arith

-- x / d is at most y / d', which is below c
below_too : (x d y d' c : ℕ) → 0 < d → x * d' ≤ y * d → y < c * d' → x < c * d
below_too x d y d' c D h less =
    lt_of_mul-lt-mul_right d' (lt_of_le_of_lt h (lt_of_lt_of_le (mul-lt-mul_of_pos_right less D) (le_of_eq (regroup c d' d))))
  where
    regroup : (c d' d : ℕ) → c * d' * d ≡ c * d * d'
    regroup c d' d = omega arith

held_below : (i j : ℕ) (x : Float) → T (fits binary64 x) → T (fits binary64 (times_power (pos i) (times_power (pos j) x))) → T (fits binary64 (times_power (pos j) x))
unfolding times_power
held_below i j nan g t = g
held_below i j (inf s) g t = g
held_below i j (fin s zero e) g t = g
held_below i j (fin s (suc m) e) g t =
    let e' = e +ℤ pos j in
    let e'' = e' +ℤ pos i in
    refit binary64 s m e e' g (le_trans (shallower e j) (fit binary64 s (suc m) e g).deep)
    (below_too (suc m * up e') (down e') (suc m * up e'') (down e'') (2 ^ 1024) (down_pos e')
    (times-up i (suc m) e' (suc m) e'' (times_some (pos i) (suc m) e')) (fit binary64 s (suc m) e'' t).under)

pub held_between : (x : Float) (j l : ℕ) → j ≤ l → T (fits binary64 x) → T (fits binary64 (times_power (pos l) x)) → T (fits binary64 (times_power (pos j) x))
held_between x j l h g t =
    let whole : j + (l - j) ≡ l = omega arith in
    held_below (l - j) j x g (rw (times-power_twice (pos j) (pos (l - j)) x, whole) t)

-- ---- sizes: a sheet's rates are negative, and a zero of either sign counts as plus zero
-- The size of a number times 2^c is its size times 2^c.
pub size-scaled : (c : ℕ) (x : Float) {y y' : Float} → T (finite x) → T (fits binary64 x) → T (fits binary64 (times_power (pos c) x))
    → IsSize x y → IsSize (times_power (pos c) x) y' → Scaled c y y'
size-scaled c x f g t s s' =
    record {
      from = s.good;
      to = s'.good;
      by =
          s'.same
          ∙ sym (mul-one (units (times_power (pos c) x)))
          ∙ ((times-power_by_value (pos c) x f g).0 t).size
          ∙ ap (λ (a : ℕ). a * 2 ^ c) (sym s.same);
    }
