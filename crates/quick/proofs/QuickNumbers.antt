-- A number that passes its quick test passes questions 6, 7 and 8.
use mathlib.Core.Path.{◌≡◌, refl, sym, subst}
use mathlib.Core.Logic.{◌⊎◌, inl, inr, ⊎_elim}
use mathlib.Core.Bool.{Bool, true, false, cond, beq, ◌&&◌, ◌||◌, and-true, and-false}
use Prim.Native.Nat.{ℕ, zero, suc, ◌+◌, ◌*◌, ◌^◌, ◌≤◌, ◌<◌}
use native.Mathlib.Nat.{zero-mul}
use native.Mathlib.Omega.{arith}
use lib.IntN.{ℤ}
use lib.Dec.{T, eqb, ltb, eqb→eq, ltb→lt, lt→ltb}
use lib.Ieee.{Float, nan, inf, fin, binary64, up, down, below, level, eq, lt, le, neg, of_bits}
use lib.Ieee.Fits.{down_pos, and_l, and_r}
use borrow.Author.Tests.{eq-eqb, ne_eqb}
use Rattle.exact.proofs.Bools.{or_l, or_r, or_cases}
use Rattle.definitions.specs.Numbers.{0·0, smallest, largest, finite, is_zero}
use Rattle.definitions.specs.Questions.{large_enough}
use Rattle.rounding.proofs.Finite.{zero-finite}
use Rattle.rounding.proofs.Words.{zero_word, smallest-word, largest-word}
use Rattle.places.specs.PlaceQuestions.{sign_at, passes}
use Rattle.quick.specs.QuickPass.{PassesOn, PassesOff, PassesWeight, within}

either : (c a b : Bool) → T a → T b → T (cond c a b)
either true a b p q = p
either false a b p q = q

-- The three questions of a number are the only ones.
passes-all : (reading n i j : ℕ) (x : Float) → T (finite x) → T (sign_at reading n i j x) → T (large_enough x) → (question : ℕ) → T (passes question reading n i j x)
unfolding passes
passes-all reading n i j x f s l question =
    let sign = sign_at reading n i j x in
    let large = large_enough x in
    either (eqb question 6) (finite x) (cond (eqb question 7) sign large) f (either (eqb question 7) sign large s l)

zero_large : (x : Float) → T (is_zero x) → T (large_enough x)
unfolding large_enough
zero_large x t = or_l (is_zero x || le smallest x) (le x (neg smallest)) (or_l (is_zero x) (le smallest x) t)

-- ---- a number off the diagonal
off_diagonal : (x : Float) → T (finite x) → T (le x 0·0) → T (large_enough x) → PassesOff x
unfolding sign_at
off_diagonal x f s l = record { at = λ question reading n i j o d. passes-all reading n i j x f (rw (ne_eqb i n o, ne_eqb i j d) s) l question }

zero-size : (x : Float) → T (is_zero x) → PassesOff x
unfolding is_zero le
zero-size x t = off_diagonal x (zero-finite x t) (or_r (lt x 0·0) (eq x 0·0) t) (zero_large x t)

negative-finite : (x : Float) → T (le (neg largest) x) → T (le x (neg smallest)) → T (finite x)
unfolding neg le lt eq finite
negative-finite nan l h = l
negative-finite (inf true) l h = l
negative-finite (inf false) l h = h
negative-finite (fin s m d) l h = tt

not_above : (a b : ℕ) → b ≡ 0 → T (ltb 0 (a + b) || (eqb a b && (false || eqb a 0)))
not_above zero b e = rw e tt
not_above (suc a) b e = or_l (ltb 0 (suc a + b)) (eqb (suc a) b && (false || eqb (suc a) 0)) (lt→ltb 0 (suc a + b) (omega arith))

not-both : (a b : ℕ) → (0 < a) ⊎ (0 < b) → T (eqb a b && (false || eqb a 0)) → ⊥
not-both a b h t =
    let p = eqb→eq a b (and_l (eqb a b) (eqb a 0) t) in
    let q = eqb→eq a 0 (and_r (eqb a b) (eqb a 0) t) in
    ⊎_elim (λ l. omega arith) (λ l. omega arith) h

down_some : (d : ℤ) → 0 < 1 * 1 * down d
down_some d = let p = down_pos d in omega arith

below-zero : (x : Float) → T (le x (neg smallest)) → T (le x 0·0)
unfolding neg le lt eq
below-zero nan h = h
below-zero (inf true) h = tt
below-zero (inf false) h = h
below-zero (fin true m d) h = not_above (m * up d * 1) (0 * 1 * down d) (omega arith)
below-zero (fin false m d) h = absurd (not-both _ (1 * 1 * down d) (inr (down_some d)) h)

large_size : (x : Float) → T (le (neg largest) x) → T (le x (neg smallest)) → PassesOff x
unfolding large_enough
large_size x l h = off_diagonal x (negative-finite x l h) (below-zero x h) (or_r (is_zero x || le smallest x) (le x (neg smallest)) h)

-- The test by the literals of the program.
pub size-passes : (x : Float) → T (within true (neg (of_bits binary64 9218868437227405311)) (neg (of_bits binary64 4503599627370496)) x) → PassesOff x
unfolding is_zero
size-passes x t =
    let low = le (neg largest) x in
    let high = le x (neg smallest) in
    ⊎_elim
    (λ z. zero-size x z)
    (λ b. large_size x (and_l low high b) (and_r low high b))
    (or_cases (is_zero x) (low && high) (rw (zero_word, smallest-word, largest-word, and-true) at t))

-- ---- a number on the diagonal
on-diagonal : (reading : ℕ) (x : Float) → T (finite x) → T (cond (eqb reading 1) (le 0·0 x) (lt 0·0 x)) → T (large_enough x) → PassesOn reading x
unfolding sign_at
on-diagonal reading x f s l = record { at = λ question n i o. passes-all reading n i i x f (rw (ne_eqb i n o, eq-eqb i i refl) s) l question }

both_zero : (s : Bool) (a b : ℕ) → a ≡ 0 → b ≡ 0 → T (level false a s b)
both_zero s a b e f = rw (e, f) (or_r (beq false s) true tt)

zero_reached : (x : Float) → T (is_zero x) → T (le 0·0 x)
unfolding is_zero le lt eq
zero_reached nan t = t
zero_reached (inf s) t = absurd t
zero_reached (fin s m d) t =
    let a = 0 * 1 * down d in
    let b = m * up d * 1 in
    let z = eqb→eq b a (and_l (eqb b a) (beq s false || eqb b 0) t) in
    or_r (below false a s b) (level false a s b) (both_zero s a b (omega arith) (omega arith))

zero_parameter : (x : Float) → T (is_zero x) → PassesOn 1 x
zero_parameter x t = on-diagonal 1 x (zero-finite x t) (zero_reached x t) (zero_large x t)

positive_finite : (x : Float) → T (le smallest x) → T (le x largest) → T (finite x)
unfolding le lt eq finite
positive_finite nan l h = l
positive_finite (inf true) l h = l
positive_finite (inf false) l h = h
positive_finite (fin s m d) l h = tt

at_least : (a b : ℕ) → T (ltb a b || (eqb a b && true)) → a ≤ b
at_least a b t =
    ⊎_elim
    (λ l. let h = ltb→lt a b l in omega arith)
    (λ e. let h = eqb→eq a b (and_l (eqb a b) true e) in omega arith)
    (or_cases (ltb a b) (eqb a b && true) t)

some_factor : (a k c : ℕ) → 0 < c → c ≤ a * k → 0 < a
some_factor zero k c h l = omega (arith, zero-mul k)
some_factor (suc a) k c h l = omega arith

scaled : (a c : ℕ) → 0 < a → T (ltb (0 * 1 * c) (a * 1))
scaled a c h = lt→ltb (0 * 1 * c) (a * 1) (omega arith)

above_zero : (x : Float) → T (le smallest x) → T (lt 0·0 x)
unfolding le lt eq
above_zero nan h = h
above_zero (inf true) h = h
above_zero (inf false) h = tt
above_zero (fin true m d) h = absurd (not-both (1 * 1 * down d) _ (inl (down_some d)) h)
above_zero (fin false m d) h =
    let p = some_factor (m * up d) (2 ^ 1022) (1 * 1 * down d) (down_some d) (at_least (1 * 1 * down d) (m * up d * 2 ^ 1022) h) in
    scaled (m * up d) (down d) p

large : (x : Float) → T (le smallest x) → T (large_enough x)
unfolding large_enough
large x l = or_l (is_zero x || le smallest x) (le x (neg smallest)) (or_r (is_zero x) (le smallest x) l)

large_parameter : (reading : ℕ) (x : Float) → T (le smallest x) → T (le x largest) → PassesOn reading x
unfolding le
large_parameter reading x l h =
    let p = above_zero x l in
    on-diagonal reading x (positive_finite x l h)
    (either (eqb reading 1) (le 0·0 x) (lt 0·0 x) (or_l (lt 0·0 x) (eq 0·0 x) p) p)
    (large x l)

pub parameter_passes : (reading : ℕ) (x : Float)
    → T ((eq x (of_bits binary64 0) && eqb reading 1) || (le (of_bits binary64 4503599627370496) x && le x (of_bits binary64 9218868437227405311))) → PassesOn reading x
unfolding is_zero
parameter_passes reading x t =
    let low = le smallest x in
    let high = le x largest in
    ⊎_elim
    (λ z. subst (λ r. PassesOn r x) (sym (eqb→eq reading 1 (and_r (is_zero x) (eqb reading 1) z))) (zero_parameter x (and_l (is_zero x) (eqb reading 1) z)))
    (λ b. large_parameter reading x (and_l low high b) (and_r low high b))
    (or_cases (is_zero x && eqb reading 1) (low && high) (rw (zero_word, smallest-word, largest-word) at t))

-- ---- a weight
pub weight-passes : (x : Float) → T (within false (of_bits binary64 4503599627370496) (of_bits binary64 9218868437227405311) x) → PassesWeight x
unfolding sign_at is_zero
weight-passes x t =
    let low = le smallest x in
    let high = le x largest in
    let both : T (low && high) = rw (zero_word, smallest-word, largest-word, and-false) at t in
    let l = and_l low high both in
    record { at = λ question reading n j. passes-all reading n n j x (positive_finite x l (and_r low high both)) (rw (eq-eqb n n refl) (above_zero x l)) (large x l) question }
