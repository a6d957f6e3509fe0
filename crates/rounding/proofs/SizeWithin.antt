-- The test of a number's size: what it says of the digits, and that it may be asked of x with other limits in the place of x·2^k.
use mathlib.Core.Path.{◌≡◌, sym, ap, ap₂, ◌∙◌, subst}
use Prim.Native.Nat.{ℕ, zero, suc, ◌+◌, ◌-◌, ◌*◌, ◌^◌, ◌≤◌, ◌<◌}
use mathlib.Core.Logic.{◌⊎◌, inl, inr, ⊎_elim}
use native.Mathlib.Nat.{le_trans, le_of_eq, lt_irrefl, lt_of_not-le, lt_of_le_of_lt, lt_of_lt_of_le, lt_of_mul-lt-mul_right, mul-lt-mul_of_pos_right, one-mul, mul-one, mul_assoc, mul-pos, mul-le-mul, mul-le-mul_right, le-mul_of_pos_right, eq-zero-or-pos, zero-lt-suc}
use native.Mathlib.Omega.{arith}
use mathlib.Core.Bool.{Bool, true, false, not, ◌&&◌, ◌||◌, and-true, or-false, or_assoc}
use lib.IntN.{ℤ, pos, negsuc, neg_ℤ, ◌+ℤ◌, ◌-ℤ◌, +ℤ_assoc, +ℤ_idl, +ℤ-neg_ℤ_cancel}
use lib.Dec.{T, leb, ltb, eqb, leb→le, le→leb, nleb→lt, lt→ltb, eqb→eq, lit<}
use lib.Pow.{pow-add, pow_pos, pow_mono, le_ones}
use lib.Ieee.{Float, nan, inf, fin, binary64, up, down, lt, eq, le, neg, fits}
use lib.Ieee.Fits.{up_pos, down_pos, and_i, and_l, and_r, eq→eqb}
use lib.Ieee.Bits.{is_true}
use lib.Ieee.Positive.{through, first_pos}
use Rattle.exact.proofs.Bools.{same_truth, or_l, or_r, or_cases, or_not}
use Rattle.definitions.specs.Numbers.{◌⊘◌, 0·0, smallest, largest, finite, is_zero}
use Rattle.definitions.specs.Questions.{large_enough}
use Rattle.definitions.specs.Moving.{times_power, has_room}
use Rattle.rounding.specs.Scaling.{power}
use Rattle.rounding.specs.ResultRange.{size_within}
use Rattle.rounding.proofs.Value.{Fit, fit, refit}
use Rattle.rounding.proofs.Compare.{le_test}
use Rattle.rounding.proofs.AnyNumbers.{zero-amount}
use Rattle.rounding.proofs.TimesPower.{Times, times-up, by_times, up_neg, down-neg, quotient_by_power, times-power_twice, held_between, times-power_keeps_order, times_is_zero, times-neg, times_back}

-- ---- one limit at a time
abbrev at_least : Float → Float → Bool
at_least limit x = is_zero x || le limit x || le x (neg limit)

abbrev at_most : Float → Float → Bool
at_most limit x = le x limit && le (neg limit) x

-- In the place of x·2^k against a limit, x against the limit times 2^-k.
module _ (k : ℤ) (limit x : Float) where
  abbrev moved : Float
  moved = times_power (neg_ℤ k) limit

  above_moved : le limit (times_power k x) ≡ le moved x
  above_moved = ap (λ (y : Float). le y (times_power k x)) (sym (times_back k limit)) ∙ times-power_keeps_order k moved x

  below-moved : le (times_power k x) limit ≡ le x moved
  below-moved = ap (le (times_power k x)) (sym (times_back k limit)) ∙ times-power_keeps_order k x moved

  minus-moved : neg limit ≡ times_power k (neg moved)
  minus-moved = ap neg (sym (times_back k limit)) ∙ times-neg k moved

  above_minus_moved : le (neg limit) (times_power k x) ≡ le (neg moved) x
  above_minus_moved = ap (λ (y : Float). le y (times_power k x)) minus-moved ∙ times-power_keeps_order k (neg moved) x

  below-minus-moved : le (times_power k x) (neg limit) ≡ le x (neg moved)
  below-minus-moved = ap (le (times_power k x)) minus-moved ∙ times-power_keeps_order k x (neg moved)

  at_least-moved : at_least limit (times_power k x) ≡ at_least moved x
  at_least-moved = rw (times_is_zero k x, above_moved, below-minus-moved)

  at-most-moved : at_most limit (times_power k x) ≡ at_most moved x
  at-most-moved = rw (below-moved, above_minus_moved)

-- ---- the limits by the digits of the number, whatever its sign
le_plus : (a b : ℕ) → (ltb a b || (eqb a b && true)) ≡ leb a b
le_plus a b = ap (λ (c : Bool). ltb a b || c) (and-true (eqb a b)) ∙ le_test a b

turned : (a b : ℕ) → eqb a b ≡ eqb b a
turned a b = same_truth (eqb a b) (eqb b a) (λ t. eq→eqb (sym (eqb→eq a b t))) (λ t. eq→eqb (sym (eqb→eq b a t)))

-- numbers of different signs: the plus one is at most the minus one where both are zero alone, and the other way always
never : (a b : ℕ) → 0 < a + b → (eqb a b && (false || eqb a 0)) ≡ false
never a b h =
    same_truth (eqb a b && eqb a 0) false
    (λ t. let p = eqb→eq a b (and_l (eqb a b) (eqb a 0) t) in let q = eqb→eq a 0 (and_r (eqb a b) (eqb a 0) t) in absurd (omega arith))
    (λ t. absurd t)

always : (a b : ℕ) → (ltb 0 (a + b) || (eqb a b && (false || eqb a 0))) ≡ true
always a b = is_true (ltb 0 (a + b) || (eqb a b && eqb a 0)) (either (eq-zero-or-pos (a + b)))
  where
    either : (a + b ≡ 0) ⊎ (0 < a + b) → T (ltb 0 (a + b) || (eqb a b && eqb a 0))
    either (inl z) =
        let p : a ≡ 0 = omega arith in
        let q : a ≡ b = omega arith in
        or_r (ltb 0 (a + b)) (eqb a b && eqb a 0) (and_i (eqb a b) (eqb a 0) (eq→eqb q) (eq→eqb p))
    either (inr l) = or_l (ltb 0 (a + b)) (eqb a b && eqb a 0) (lt→ltb 0 (a + b) l)

module _ (a : ℕ) (c : ℤ) (s : Bool) (m : ℕ) (e : ℤ) where
  abbrev bound : ℕ
  bound = a * up c * down e

  abbrev own : ℕ
  own = m * up e * down c

  at_least-size : 0 < a → (le (fin false a c) (fin s m e) || le (fin s m e) (fin true a c)) ≡ leb bound own
  unfolding le lt eq
  at_least-size A = by_sign s
    where
      some : 0 < bound
      some = mul-pos (mul-pos A (up_pos c)) (down_pos e)

      by_sign : (s : Bool) → (le (fin false a c) (fin s m e) || le (fin s m e) (fin true a c)) ≡ leb bound own
      by_sign true = ap₂ (λ (x y : Bool). x || y) (never bound own (omega (arith, some))) (ap (λ (x : Bool). ltb bound own || (x && true)) (turned own bound) ∙ le_plus bound own)
      by_sign false = ap₂ (λ (x y : Bool). x || y) (le_plus bound own) (never own bound (omega (arith, some))) ∙ or-false (leb bound own)

  at_most_size : (le (fin s m e) (fin false a c) && le (fin true a c) (fin s m e)) ≡ leb own bound
  unfolding le lt eq
  at_most_size = by_sign s
    where
      by_sign : (s : Bool) → (le (fin s m e) (fin false a c) && le (fin true a c) (fin s m e)) ≡ leb own bound
      by_sign true = ap₂ (λ (x y : Bool). x && y) (always own bound) (ap (λ (x : Bool). ltb own bound || (x && true)) (turned bound own) ∙ le_plus own bound)
      by_sign false = ap₂ (λ (x y : Bool). x && y) (le_plus own bound) (always bound own) ∙ and-true (leb own bound)

  at_least_is : 0 < a → at_least (fin false a c) (fin s m e) ≡ (is_zero (fin s m e) || leb bound own)
  unfolding neg
  at_least_is A = or_assoc (is_zero (fin s m e)) (le (fin false a c) (fin s m e)) (le (fin s m e) (fin true a c)) ∙ ap (λ (b : Bool). is_zero (fin s m e) || b) (at_least-size A)

  at-most_is : at_most (fin false a c) (fin s m e) ≡ leb own bound
  unfolding neg
  at-most_is = at_most_size

-- No size is below zero.
at_least-zero : (s : Bool) (m : ℕ) (e : ℤ) → T (at_least 0·0 (fin s m e))
unfolding le lt eq neg
at_least-zero s m e = by_sign s
  where
    bound : ℕ
    bound = 0 * 1 * down e

    own : ℕ
    own = m * up e * 1

    large : T (leb bound own)
    large = le→leb bound own (omega arith)

    by_sign : (s : Bool) → T (at_least 0·0 (fin s m e))
    by_sign true = or_r (is_zero (fin true m e) || le 0·0 (fin true m e)) (le (fin true m e) (neg 0·0)) (rw (turned own bound, le_plus bound own) large)
    by_sign false = or_l (is_zero (fin false m e) || le 0·0 (fin false m e)) (le (fin false m e) (neg 0·0)) (or_r (is_zero (fin false m e)) (le 0·0 (fin false m e)) (rw (le_plus bound own) large))

-- ---- a weaker limit passes too: a' / c' is at most a / c
module _ (a : ℕ) (c : ℤ) (a' : ℕ) (c' : ℤ) (less : a' * up c' * down c ≤ a * up c * down c') (s : Bool) (m : ℕ) (e : ℤ) where
  at_least_less : 0 < a → 0 < a' → T (at_least (fin false a c) (fin s m e)) → T (at_least (fin false a' c') (fin s m e))
  at_least_less A A' t =
      rw (at_least_is a' c' s m e A')
      (⊎_elim
      (λ z. or_l (is_zero (fin s m e)) (leb (a' * up c' * down e) (m * up e * down c')) z)
      (λ l. or_r (is_zero (fin s m e)) (leb (a' * up c' * down e) (m * up e * down c'))
      (le→leb (a' * up c' * down e) (m * up e * down c')
      (through (a' * up c') (a * up c) (m * up e) (down c') (down c) (down e) (down_pos c) less (leb→le (a * up c * down e) (m * up e * down c) l))))
      (or_cases (is_zero (fin s m e)) (leb (a * up c * down e) (m * up e * down c)) (rw (at_least_is a c s m e A) at t)))

  at-most_more : T (at_most (fin false a' c') (fin s m e)) → T (at_most (fin false a c) (fin s m e))
  at-most_more t =
      rw (at-most_is a c s m e)
      (le→leb (m * up e * down c) (a * up c * down e)
      (through (m * up e) (a' * up c') (a * up c) (down e) (down c') (down c) (down_pos c')
      (leb→le (m * up e * down c') (a' * up c' * down e) (rw (at-most_is a' c' s m e) at t)) less))

-- ---- a limit times 2^-k is weaker the one way, and the other way round
times_down : (j m : ℕ) (e : ℤ) (m' : ℕ) (e' : ℤ) → Times (neg_ℤ (pos j)) m e m' e' → m' * up e' * down e ≤ m * up e * down e'
times_down j m e m' e' p = shrunk (m * up e) (down e') (m' * up e') (down e) (2 ^ j) (pow_pos j) (rw (up_neg (pos j), down-neg (pos j)) at p)
  where
    shrunk : (x d' x' d k : ℕ) → 0 < k → x' * (d * k) ≡ x * 1 * d' → x' * d ≤ x * d'
    shrunk x d' x' d k K p = let v = le-mul_of_pos_right (x' * d) K in omega arith

-- ---- no number of binary64 is above the largest
few_digits_under : (m a p j : ℕ) → m < 2 ^ p → m * 2 ^ a < 2 ^ (p + j) → m * 2 ^ a ≤ (2 ^ p - 1) * 2 ^ j
few_digits_under m a p j few under = either (leb a j) (leb→le a j) (nleb→lt a j)
  where
    either : (b : Bool) → (T b → a ≤ j) → (T (not b) → j < a) → m * 2 ^ a ≤ (2 ^ p - 1) * 2 ^ j
    either true h l = mul-le-mul (le_ones p few) (pow_mono (h tt))
    either false h l =
        let i = a - j in
        let more = l tt in
        let whole : a ≡ i + j = omega arith in
        let parts : m * 2 ^ a ≡ m * 2 ^ i * 2 ^ j = ap (λ (x : ℕ). m * 2 ^ x) whole ∙ ap (λ (x : ℕ). m * x) (pow-add 2 i j) ∙ sym (mul_assoc m (2 ^ i) (2 ^ j)) in
        rw parts (mul-le-mul_right (2 ^ j) (le_ones p (lt_of_mul-lt-mul_right (2 ^ j) (rw (parts, pow-add 2 p j) at under))))

held_at_most : (s : Bool) (m : ℕ) (e : ℤ) → T (fits binary64 (fin s m e)) → T (at_most largest (fin s m e))
held_at_most s m e t = rw (at-most_is 9007199254740991 (pos 971) s m e) (le→leb (m * up e * 1) (9007199254740991 * 2 ^ 971 * down e) (by_exponent e (fit binary64 s m e t)))
  where
    by_exponent : (e : ℤ) → Fit binary64 m e → m * up e * 1 ≤ 9007199254740991 * 2 ^ 971 * down e
    by_exponent (pos a) h = le_trans (le_of_eq (mul-one (m * 2 ^ a))) (few_digits_under m a 53 971 h.few (lt_of_lt_of_le h.under (le_of_eq (mul-one (2 ^ 1024)))))
    by_exponent (negsuc a) h =
        le_trans (le_of_eq (mul-one (m * 1) ∙ mul-one m))
        (le_trans (le_ones 53 h.few) (le_trans (le-mul_of_pos_right 9007199254740991 (pow_pos 971)) (le-mul_of_pos_right (9007199254740991 * 2 ^ 971) (pow_pos (suc a)))))

-- ---- question 16 by the number itself
-- The limits for x·2^k, each times 2^-k.
room_moved : (k : ℤ) (x : Float) → has_room (times_power k x) ≡ (at_least (times_power (neg_ℤ k) smallest) x && at_most (times_power (neg_ℤ k) largest) x)
unfolding has_room large_enough
room_moved k x = rw (at_least-moved k smallest x, at-most-moved k largest x)

some_left : (k : ℤ) (m : ℕ) (e : ℤ) (m' : ℕ) (e' : ℤ) → Times k m e m' e' → 0 < m → 0 < m'
some_left k m e m' e' p M =
    let right = mul-pos (mul-pos (mul-pos M (up_pos e)) (up_pos k)) (down_pos e') in
    first_pos m' (up e') (first_pos (m' * up e') (down e * down k) (rw p right))

-- Towards zero the upper limit passes, and so does x's own in its place; away from zero the lower one passes.
module _ (s : Bool) (m : ℕ) (e : ℤ) (j : ℕ) where
  wider : T (fits binary64 (fin s m e)) → T (at_most (times_power (pos j) largest) (fin s m e))
  wider t =
      by_times (λ y. T (at_most y (fin s m e))) (pos j) false 9007199254740991 (pos 971)
      (λ m' e' p. at-most_more m' e' 9007199254740991 (pos 971) (times-up j 9007199254740991 (pos 971) m' e' p) s m e (held_at_most s m e t))

  lower : T (at_least smallest (fin s m e)) → T (at_least (times_power (neg_ℤ (pos j)) smallest) (fin s m e))
  lower t =
      by_times (λ y. T (at_least y (fin s m e))) (neg_ℤ (pos j)) false 1 (negsuc 1021)
      (λ m' e' p. at_least_less 1 (negsuc 1021) m' e' (times_down j 1 (negsuc 1021) m' e' p) s m e (zero-lt-suc 0) (some_left (neg_ℤ (pos j)) 1 (negsuc 1021) m' e' p (zero-lt-suc 0)) t)

pub room_down : (j : ℕ) (x : Float) → T (finite x) → T (fits binary64 x) → size_within (times_power (pos (suc j)) smallest) largest x ≡ has_room (times_power (negsuc j) x)
unfolding finite size_within
room_down j nan f t = absurd f
room_down j (inf s) f t = absurd f
room_down j (fin s m e) f t =
    let x = fin s m e in
    let most = times_power (pos (suc j)) largest in
    ap (λ (b : Bool). at_least (times_power (pos (suc j)) smallest) x && b) (is_true (at_most largest x) (held_at_most s m e t) ∙ sym (is_true (at_most most x) (wider s m e (suc j) t)))
    ∙ sym (room_moved (negsuc j) x)

pub room_up : (j : ℕ) (x : Float) → T (finite x) → T (large_enough x) → size_within 0·0 (times_power (neg_ℤ (pos j)) largest) x ≡ has_room (times_power (pos j) x)
unfolding finite size_within large_enough
room_up j nan f t = absurd f
room_up j (inf s) f t = absurd f
room_up j (fin s m e) f t =
    let x = fin s m e in
    let least = times_power (neg_ℤ (pos j)) smallest in
    ap (λ (b : Bool). b && at_most (times_power (neg_ℤ (pos j)) largest) x) (is_true (at_least 0·0 x) (at_least-zero s m e) ∙ sym (is_true (at_least least x) (lower s m e j t)))
    ∙ sym (room_moved (pos j) x)

-- ---- what has room is a number of binary64
not_too_deep : (m : ℕ) (e : ℤ) (p l : ℕ) → m < 2 ^ p → 1 * 1 * down e ≤ m * up e * 2 ^ l → down e ≤ 2 ^ (p + l - 1)
not_too_deep m (pos a) p l few h = pow_pos (p + l - 1)
not_too_deep m (negsuc a) p l few h =
    let less : 2 ^ suc a < 2 ^ (p + l) =
    lt_of_le_of_lt (le_of_eq (sym (one-mul (2 ^ suc a)))) (lt_of_le_of_lt h (rw (mul-one m, pow-add 2 p l) (mul-lt-mul_of_pos_right few (pow_pos l)))) in
    let under : suc a < p + l = lt_of_not-le (λ (g : p + l ≤ suc a). lt_irrefl (2 ^ suc a) (lt_of_lt_of_le less (pow_mono g))) in
    pow_mono (omega arith)

pub room_held : (k : ℤ) (x : Float) → T (finite x) → T (fits binary64 x) → T (has_room (times_power k x)) → T (fits binary64 (times_power k x))
unfolding finite times_power has_room large_enough
room_held k nan f t r = absurd f
room_held k (inf s) f t r = absurd f
room_held k (fin s zero e) f t r = t
room_held k (fin s (suc m) e) f t r =
    let e' = e +ℤ k in
    let y = fin s (suc m) e' in
    let large = rw (at_least_is 1 (negsuc 1021) s (suc m) e' (zero-lt-suc 0)) at (and_l (at_least smallest y) (at_most largest y) r) in
    let small = rw (at-most_is 9007199254740991 (pos 971) s (suc m) e') at (and_r (at_least smallest y) (at_most largest y) r) in
    refit binary64 s m e e' t
    (not_too_deep (suc m) e' 53 1022 (fit binary64 s (suc m) e t).few
    (leb→le (1 * 1 * down e') (suc m * up e' * 2 ^ 1022) (or_not (is_zero y) (leb (1 * 1 * down e') (suc m * up e' * 2 ^ 1022)) (λ z. none m (up e') (up_pos e') (zero-amount s (suc m) e' z)) large)))
    (lt_of_le_of_lt (le_of_eq (sym (mul-one (suc m * up e')))) (lt_of_le_of_lt (leb→le (suc m * up e' * 1) (9007199254740991 * 2 ^ 971 * down e') small) (mul-lt-mul_of_pos_right (lit< tt) (down_pos e'))))
  where
    none : (m u : ℕ) → 0 < u → suc m * u ≡ 0 → ⊥
    none m u U h = let v = mul-pos (zero-lt-suc m) U in omega arith

-- ---- the limits as the code finds them: quotients by the power, both within 2^512 of a number
pub least_limit : (j : ℕ) → suc j ≤ 512 → smallest ⊘ power (negsuc j) ≡ times_power (pos (suc j)) smallest
unfolding finite times_power fits
least_limit j h = quotient_by_power (negsuc j) smallest tt (held_between smallest (suc j) 512 h tt tt)

-- 2^-j is 2^-512 times 2^(512 - j).
raised : (j : ℕ) → j ≤ 512 → negsuc 511 +ℤ pos (512 - j) ≡ neg_ℤ (pos j)
raised j h =
    let z = negsuc 511 +ℤ pos (512 - j) in
    let whole : 512 - j + j ≡ 512 = omega arith in
    let sum : z +ℤ pos j ≡ pos 0 = +ℤ_assoc (negsuc 511) (pos (512 - j)) (pos j) ∙ ap (λ (n : ℕ). negsuc 511 +ℤ pos n) whole in
    sym (+ℤ-neg_ℤ_cancel z (pos j)) ∙ ap (λ (y : ℤ). y -ℤ pos j) sum ∙ +ℤ_idl (neg_ℤ (pos j))

pub most_limit : (j : ℕ) → j ≤ 512 → largest ⊘ power (pos j) ≡ times_power (neg_ℤ (pos j)) largest
unfolding finite times_power fits
most_limit j h =
    let low = times_power (negsuc 511) largest in
    let same : times_power (pos (512 - j)) low ≡ times_power (neg_ℤ (pos j)) largest = times-power_twice (negsuc 511) (pos (512 - j)) largest ∙ ap (λ (z : ℤ). times_power z largest) (raised j h) in
    quotient_by_power (pos j) largest tt (subst (λ (y : Float). T (fits binary64 y)) same (held_between low (512 - j) 512 (omega arith) tt tt))
