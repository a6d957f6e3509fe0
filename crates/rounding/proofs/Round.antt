-- `round` of a fraction that is not negative: its amount, when it is good, how near it is, and its order.
use mathlib.Core.Path.{◌≡◌, refl, sym, ap, ◌∙◌, subst}
use Prim.Native.Nat.{ℕ, zero, suc, ◌+◌, ◌-◌, ◌*◌, ◌/◌, ◌^◌, ◌≤◌, ◌<◌}
use native.Mathlib.Nat.{le_trans, lt_of_lt_of_le, mul_assoc, mul_comm, mul-one, zero-mul, mul-div_cancel, le-add_left, sub-le, mul-le-mul_right, mul-pos, mul_right_comm, eq_of_mul-eq-mul_right, sub-add_cancel}
use native.Mathlib.Omega.{arith}
use mathlib.Core.Bool.{Bool, true, false, not, cond}
use lib.IntN.{ℤ, pos}
use lib.Dec.{T, ltb, leb→le, ltb→lt, nltb→le}
use lib.Pow.{pow-add, pow_pos, pow_mono, shl_lt}
use lib.Ieee.{Float, nan, inf, fin, Format, prec, emax, low, up, down, size, odd, units, fits, round, le}
use lib.Ieee.Digits.{size-le}
use lib.Ieee.Fits.{round-fits, round_is, two, two-le_pos, reach, down_pos}
use lib.Ieee.Exact.{HasValue, round_exact}
use lib.Ieee.Nearest.{closest}
use lib.Ieee.Order.{kept, drop, round_mono}
use lib.Ieee.Scale.{grid, overflow, finite, round_val, round_under, round_same, normal_of_fraction, normal_of_rounded}
use Rattle.rounding.specs.Good.{GoodIn}
use Rattle.rounding.proofs.Value.{amount, amount_of_value, of_value, by_parts, Digits, held_value, held_digits, held_lt, held_unique}
use Rattle.rounding.proofs.Compare.{le_amounts}
use Rattle.rounding.proofs.Grid.{OnePartIn, within_same, within_cancel, kept_near, closest-exact}

module _ (f : Format) (a c : ℕ) (t : T (finite (round f false a c))) where
  round-value : HasValue (round f false a c) false (grid f a c) (2 ^ low f)
  round-value = round_val f a c (round_under f a c t)

  pub round-good : GoodIn f (round f false a c)
  round-good = of_value f (round f false a c) (grid f a c) (2 ^ low f) round-value (round-fits f false a c)

  pub round-amount : amount f (round f false a c) ≡ grid f a c
  round-amount = amount_of_value f (round f false a c) false (grid f a c) round-value

  -- in the normal range
  round_near : 0 < c → prec f ≤ size (a * 2 ^ low f / c) → OnePartIn (2 ^ prec f) (amount f (round f false a c) * c) (a * 2 ^ low f)
  round_near C N = rw round-amount (kept_near (prec f) (a * 2 ^ low f) c (two-le_pos (prec f) (two f)) C N)

  -- that is, where the result is above 2 ^ (prec - 1) smallest values
  pub round_above : 0 < c → 2 ^ (prec f - 1) < amount f (round f false a c) → OnePartIn (2 ^ prec f) (amount f (round f false a c) * c) (a * 2 ^ low f)
  round_above C n = round_near C (normal_of_rounded f a c (rw round-amount at n))

-- ---- a whole number of smallest values with few digits is not changed: nothing is dropped but zeros
spare : (z p j : ℕ) → z ≤ p + j → z - p ≤ j
spare z p j h = omega arith

exact-grid : (f : Format) (a : ℕ) → Digits f a → grid f a (2 ^ low f) ≡ a
exact-grid f a d =
    let l = 2 ^ low f in
    let k = drop (prec f) (a * l) l in
    let r = d.q * 2 ^ (d.j - k) in
    let k-le : k ≤ d.j =
    spare (size (a * l / l)) (prec f) d.j (size-le (a * l / l) (prec f + d.j) (rw (mul-div_cancel a (pow_pos (low f)), d.is) (shl_lt (prec f) d.j d.few))) in
    let back : r * 2 ^ k ≡ a = mul_assoc d.q (2 ^ (d.j - k)) (2 ^ k) ∙ ap (λ (x : ℕ). d.q * x) (sym (pow-add 2 (d.j - k) k) ∙ ap (λ (x : ℕ). 2 ^ x) (sub-add_cancel k-le)) ∙ sym d.is in
    let parts : a * l ≡ r * (l * 2 ^ k) = ap (λ (x : ℕ). x * l) (sym back) ∙ mul_assoc r (2 ^ k) l ∙ ap (λ (x : ℕ). r * x) (mul_comm (2 ^ k) l) in
    ap (λ (x : ℕ). closest x (l * 2 ^ k) * 2 ^ k) parts ∙ ap (λ (x : ℕ). x * 2 ^ k) (closest-exact r (l * 2 ^ k) (mul-pos (pow_pos (low f)) (pow_pos k))) ∙ back

pub exact_if_finite : (f : Format) (a : ℕ) → Digits f a → T (finite (round f false a (2 ^ low f))) → amount f (round f false a (2 ^ low f)) ≡ a
exact_if_finite f a d t = round-amount f a (2 ^ low f) t ∙ exact-grid f a d

module _ (f : Format) (a : ℕ) (d : Digits f a) (h : a < 2 ^ (low f + suc (emax f))) where
  exact-value : HasValue (round f false a (2 ^ low f)) false a (2 ^ low f)
  exact-value = subst (λ (x : ℕ). HasValue (round f false a (2 ^ low f)) false x (2 ^ low f)) (exact-grid f a d) (round_val f a (2 ^ low f) (rw (exact-grid f a d) h))

  pub exact-amount : amount f (round f false a (2 ^ low f)) ≡ a
  exact-amount = amount_of_value f (round f false a (2 ^ low f)) false a exact-value

-- ---- a number of either sign that the format holds is what `round` makes of each fraction that has its value
-- a / c is m·u / d, which is z / l
crossed : (a c mu d z l : ℕ) → 0 < d → a * d ≡ mu * c → mu * l ≡ z * d → a * l ≡ z * c
crossed a c mu d z l D h k =
    eq_of_mul-eq-mul_right d D (a * l) (z * c) (mul_right_comm a l d ∙ ap (λ (x : ℕ). x * l) h ∙ mul_right_comm mu c l ∙ ap (λ (x : ℕ). x * c) k ∙ mul_right_comm z d c)

pub round_held : (f : Format) (s : Bool) (m : ℕ) (e : ℤ) (a c : ℕ) → T (fits f (fin s m e)) → 0 < c → a * down e ≡ m * up e * c → round f s a c ≡ fin s m e
round_held f s m e a c t C h =
    from (round f s a c) (round-fits f s a c)
    (round_exact f s a c d.q d.j C d.few (rw (← d.is) (held_lt f s m e t)) (units_are ∙ ap (λ (x : ℕ). x * c) d.is))
  where
    d : Digits f (amount f (fin s m e))
    d = held_digits f s m e t

    units_are : a * 2 ^ low f ≡ amount f (fin s m e) * c
    units_are = crossed a c (m * up e) (down e) (amount f (fin s m e)) (2 ^ low f) (down_pos e) h (held_value f s m e t).1

    from : (x : Float) → T (fits f x) → HasValue x s a c → x ≡ fin s m e
    from nan g v = absurd v
    from (inf r) g v = absurd v
    from (fin r n k) g v =
        let same : fin r n k ≡ fin s n k = ap (λ (b : Bool). fin b n k) v.0 in
        same
        ∙ held_unique f s n k m e (rw same at g) t
        (amount_of_value f (fin s n k) s (amount f (fin s m e)) (refl, sym (crossed (amount f (fin s m e)) (2 ^ low f) a c (n * up k) (down k) C (sym units_are) (sym v.1))))

pub round_back : {f : Format} {x : Float} → GoodIn f x → round f false (amount f x) (2 ^ low f) ≡ x
round_back {f} {x} g =
    by_parts f (λ x. round f false (amount f x) (2 ^ low f) ≡ x)
    (λ m e g. round_held f false m e (amount f (fin false m e)) (2 ^ low f) g.held (pow_pos (low f)) (sym (held_value f false m e g.held).1)) x g

few_digits : (f : Format) (a : ℕ) → a < 2 ^ prec f → Digits f a
few_digits f a h = record { q = a; j = 0; few = h; is = sym (mul-one a) }

-- the format holds all whole numbers with that few digits
in_reach : (f : Format) → prec f ≤ low f + suc (emax f)
in_reach f = le_trans (reach f) (le-add_left (suc (emax f)) (low f))

pub small_amount : (f : Format) (a : ℕ) → a < 2 ^ prec f → amount f (round f false a (2 ^ low f)) ≡ a
small_amount f a h = exact-amount f a (few_digits f a h) (lt_of_lt_of_le h (pow_mono (in_reach f)))

pub many_digits : (f : Format) (a : ℕ) → 2 ^ prec f ≤ a → prec f ≤ size (a * 2 ^ low f / 2 ^ low f)
many_digits f a h = normal_of_fraction f a (2 ^ low f) (pow_pos (low f)) (mul-le-mul_right (2 ^ low f) (le_trans (pow_mono (sub-le (prec f) 1)) h))

-- A whole number of smallest values: near whatever its size.
pub whole_near : (f : Format) (a : ℕ) → T (finite (round f false a (2 ^ low f))) → OnePartIn (2 ^ prec f) (amount f (round f false a (2 ^ low f))) a
whole_near f a t = go (ltb a (2 ^ prec f)) (ltb→lt a (2 ^ prec f)) (nltb→le a (2 ^ prec f))
  where
    go : (b : Bool) → (T b → a < 2 ^ prec f) → (T (not b) → 2 ^ prec f ≤ a) → OnePartIn (2 ^ prec f) (amount f (round f false a (2 ^ low f))) a
    go true l g = rw (small_amount f a (l tt)) (within_same (2 ^ prec f) a)
    go false l g = within_cancel (2 ^ prec f) (amount f (round f false a (2 ^ low f))) a (2 ^ low f) (pow_pos (low f)) (round_near f a (2 ^ low f) t (pow_pos (low f)) (many_digits f a (g tt)))

-- ---- zero
pub zero-good : (f : Format) → GoodIn f (fin false 0 (pos 0))
unfolding fits
zero-good f = record { plus = tt; held = tt }

pub zero-amount : (f : Format) → amount f (fin false 0 (pos 0)) ≡ 0
zero-amount f = amount_of_value f (fin false 0 (pos 0)) false 0 (refl, zero-mul (2 ^ low f))

pub round-zero : (f : Format) (c : ℕ) → 0 < c → round f false 0 c ≡ fin false 0 (pos 0)
round-zero f c C =
    round_same f false 0 c 0 (2 ^ low f) C (pow_pos (low f)) (zero-mul (2 ^ low f) ∙ sym (zero-mul c))
    ∙ ap (λ (a : ℕ). round f false a (2 ^ low f)) (sym (zero-amount f))
    ∙ round_back (zero-good f)

-- ---- order
-- Not a NaN, and with the sign plus: what `round f false` gives.
abbrev nonneg : Float → Bool
nonneg nan = false
nonneg (inf s) = not s
nonneg (fin s m e) = not s

odd-nonneg : (d q k l : ℕ) → T (nonneg (odd d false q k l))
unfolding odd
odd-nonneg d zero k l = tt
odd-nonneg d (suc q) k l = tt

units-nonneg : (f : Format) (q k : ℕ) → T (nonneg (units f false q k))
unfolding units
units-nonneg f q k = pick (ltb (q * 2 ^ k) (overflow f)) (odd (suc (prec f)) false q k (low f)) (inf false) (odd-nonneg (suc (prec f)) q k (low f)) tt
  where
    pick : (b : Bool) (x y : Float) → T (nonneg x) → T (nonneg y) → T (nonneg (cond b x y))
    pick true x y h k = h
    pick false x y h k = k

round-nonneg : (f : Format) (a c : ℕ) → T (nonneg (round f false a c))
round-nonneg f a c = rw round_is (units-nonneg f (kept (prec f) (a * 2 ^ low f) c) (drop (prec f) (a * 2 ^ low f) c))

-- what is no larger than a finite number is finite
le-finite : (x y : Float) → T (nonneg x) → T (finite y) → T (le x y) → T (finite x)
unfolding le
le-finite nan y u t h = absurd u
le-finite (inf true) y u t h = absurd u
le-finite (inf false) nan u t h = absurd t
le-finite (inf false) (inf s) u t h = absurd t
le-finite (inf false) (fin s m e) u t h = absurd h
le-finite (fin s m e) y u t h = tt

-- x is finite, and no larger than y
pub record Below (f : Format) (x y : Float) : Type 0 where
  pub is_finite : T (finite x)
  pub no_more : amount f x ≤ amount f y

pub round-below : (f : Format) (a b c d : ℕ) → 0 < b → 0 < d → a * d ≤ c * b → T (finite (round f false c d)) → Below f (round f false a b) (round f false c d)
round-below f a b c d B D h t =
    let l = round_mono f a b c d B D h in
    let s : T (finite (round f false a b)) = le-finite (round f false a b) (round f false c d) (round-nonneg f a b) t l in
    record {
      is_finite = s;
      no_more = leb→le (amount f (round f false a b)) (amount f (round f false c d)) (rw (le_amounts (round-good f a b s) (round-good f c d t)) at l);
    }
