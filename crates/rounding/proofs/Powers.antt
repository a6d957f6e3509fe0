-- Scaling by powers of two, in every format: of `round`, and of the three operations by their amounts.
use mathlib.Core.Path.{◌≡◌, refl, sym, ap, ap₂, ◌∙◌}
use Prim.Native.Nat.{ℕ, ◌+◌, ◌-◌, ◌*◌, ◌/◌, ◌^◌, ◌≤◌, ◌<◌}
use native.Mathlib.Nat.{mul_assoc, mul_comm, mul_left_comm, mul-mul-mul_comm, add-mul, mul-pos, mul-le-mul_right, le-mul_of_pos_right}
use mathlib.Core.Bool.{Bool, true, false, not}
use lib.Dec.{T, ltb, ltb→lt, nltb→le}
use lib.Pow.{pow-add, pow_pos}
use lib.Ieee.{Float, Format, prec, low, size, round, add, mul, div}
use lib.Ieee.Scale.{finite, grid_scale, round_same, normal_of_rounded}
use Rattle.rounding.specs.Good.{GoodIn}
use Rattle.rounding.proofs.Value.{amount}
use Rattle.rounding.proofs.Round.{round-amount, round-below, small_amount, many_digits, exact_if_finite}
use Rattle.rounding.proofs.Operations.{add_is, mul_is, div_is}

-- ---- `round` of 2 ^ t times a fraction
module _ (f : Format) (a c t : ℕ) (C : 0 < c) (s : T (finite (round f false (a * 2 ^ t) c))) where
  unscaled_finite : T (finite (round f false a c))
  unscaled_finite = (round-below f a c (a * 2 ^ t) c C C (mul-le-mul_right c (le-mul_of_pos_right a (pow_pos t))) s).is_finite

  normal_scaled : prec f ≤ size (a * 2 ^ low f / c) → amount f (round f false (a * 2 ^ t) c) ≡ amount f (round f false a c) * 2 ^ t
  normal_scaled N = round-amount f (a * 2 ^ t) c s ∙ grid_scale f a c t C N ∙ ap (λ (x : ℕ). x * 2 ^ t) (sym (round-amount f a c unscaled_finite))

  -- where the smaller result is above 2 ^ (prec - 1) smallest values
  above_scaled : 2 ^ (prec f - 1) < amount f (round f false a c) → amount f (round f false (a * 2 ^ t) c) ≡ amount f (round f false a c) * 2 ^ t
  above_scaled n = normal_scaled (normal_of_rounded f a c (rw (round-amount f a c unscaled_finite) at n))

-- a whole number of smallest values: in every case, for what is below the normal range is exact
whole_scaled : (f : Format) (a t : ℕ) → T (finite (round f false (a * 2 ^ t) (2 ^ low f))) → amount f (round f false (a * 2 ^ t) (2 ^ low f)) ≡ amount f (round f false a (2 ^ low f)) * 2 ^ t
whole_scaled f a t s = go (ltb a (2 ^ prec f)) (ltb→lt a (2 ^ prec f)) (nltb→le a (2 ^ prec f))
  where
    go : (b : Bool) → (T b → a < 2 ^ prec f) → (T (not b) → 2 ^ prec f ≤ a) → amount f (round f false (a * 2 ^ t) (2 ^ low f)) ≡ amount f (round f false a (2 ^ low f)) * 2 ^ t
    go true l g = exact_if_finite f (a * 2 ^ t) (record { q = a; j = t; few = l tt; is = refl }) s ∙ ap (λ (x : ℕ). x * 2 ^ t) (sym (small_amount f a (l tt)))
    go false l g = normal_scaled f a (2 ^ low f) t (pow_pos (low f)) s (many_digits f a (g tt))

-- ---- the operations, on numbers whose amounts are scaled
module _ {f : Format} {x x' y y' : Float} (g : GoodIn f x) (g' : GoodIn f x') (h : GoodIn f y) (h' : GoodIn f y') where
  module _ (k : ℕ) (p : amount f x' ≡ amount f x * 2 ^ k) (q : amount f y' ≡ amount f y * 2 ^ k) where
    add-scaled_is : add f x' y' ≡ round f false ((amount f x + amount f y) * 2 ^ k) (2 ^ low f)
    add-scaled_is = add_is g' h' ∙ ap (λ (a : ℕ). round f false a (2 ^ low f)) (ap₂ (λ (a b : ℕ). a + b) p q ∙ sym (add-mul (amount f x) (amount f y) (2 ^ k)))

    pub add_unscaled_finite : T (finite (add f x' y')) → T (finite (add f x y))
    add_unscaled_finite = rw (add_is g h, add-scaled_is) (unscaled_finite f (amount f x + amount f y) (2 ^ low f) k (pow_pos (low f)))

    pub add-scaled : T (finite (add f x' y')) → amount f (add f x' y') ≡ amount f (add f x y) * 2 ^ k
    add-scaled = rw (add_is g h, add-scaled_is) (whole_scaled f (amount f x + amount f y) k)

    pub div_alike : 0 < amount f y → div f x' y' ≡ div f x y
    div_alike n =
        let n' : 0 < amount f y * 2 ^ k = mul-pos n (pow_pos k) in
        div_is g' h' (rw q n')
        ∙ ap₂ (round f false) p q
        ∙ round_same f false (amount f x * 2 ^ k) (amount f y * 2 ^ k) (amount f x) (amount f y) n' n (simp (mul_assoc, mul_comm, mul_left_comm))
        ∙ sym (div_is g h n)

  module _ (j k : ℕ) (p : amount f x' ≡ amount f x * 2 ^ j) (q : amount f y' ≡ amount f y * 2 ^ k) where
    mul-scaled_is : mul f x' y' ≡ round f false (amount f x * amount f y * 2 ^ (j + k)) (2 ^ low f * 2 ^ low f)
    mul-scaled_is =
        mul_is g' h'
        ∙ ap (λ (a : ℕ). round f false a (2 ^ low f * 2 ^ low f))
        (ap₂ (λ (a b : ℕ). a * b) p q ∙ mul-mul-mul_comm (amount f x) (2 ^ j) (amount f y) (2 ^ k) ∙ ap (λ (a : ℕ). amount f x * amount f y * a) (sym (pow-add 2 j k)))

    pub mul-scaled : T (finite (mul f x' y')) → 2 ^ (prec f - 1) < amount f (mul f x y) → amount f (mul f x' y') ≡ amount f (mul f x y) * 2 ^ (j + k)
    mul-scaled = rw (mul_is g h, mul-scaled_is) (above_scaled f (amount f x * amount f y) (2 ^ low f * 2 ^ low f) (j + k) (mul-pos (pow_pos (low f)) (pow_pos (low f))))

module _ {f : Format} {x x' y : Float} (g : GoodIn f x) (g' : GoodIn f x') (h : GoodIn f y) (n : 0 < amount f y) (k : ℕ) (p : amount f x' ≡ amount f x * 2 ^ k) where
  dividend_is : div f x' y ≡ round f false (amount f x * 2 ^ k) (amount f y)
  dividend_is = div_is g' h n ∙ ap (λ (a : ℕ). round f false a (amount f y)) p

  pub dividend_scaled : T (finite (div f x' y)) → 2 ^ (prec f - 1) < amount f (div f x y) → amount f (div f x' y) ≡ amount f (div f x y) * 2 ^ k
  dividend_scaled = rw (div_is g h n, dividend_is) (above_scaled f (amount f x) (amount f y) k n)

module _ {f : Format} {x y y' : Float} (g : GoodIn f x) (h : GoodIn f y) (h' : GoodIn f y') (n : 0 < amount f y) (k : ℕ) (q : amount f y' ≡ amount f y * 2 ^ k) where
  divisor_pos' : 0 < amount f y'
  divisor_pos' = rw q (mul-pos n (pow_pos k))

  -- the larger quotient over the larger divisor
  divisor_is : div f x y ≡ round f false (amount f x * 2 ^ k) (amount f y')
  divisor_is =
      div_is g h n
      ∙ round_same f false (amount f x) (amount f y) (amount f x * 2 ^ k) (amount f y') n divisor_pos' (ap (λ (a : ℕ). amount f x * a) q ∙ simp (mul_assoc, mul_comm, mul_left_comm))

  pub divisor-scaled : T (finite (div f x y)) → 2 ^ (prec f - 1) < amount f (div f x y') → amount f (div f x y) ≡ amount f (div f x y') * 2 ^ k
  divisor-scaled = rw (div_is g h' divisor_pos', divisor_is) (above_scaled f (amount f x) (amount f y') k divisor_pos')
