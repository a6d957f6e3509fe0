-- What the questions leave: an accepted sheet has good sizes and good diagonals; under reading 1 its moves and exits are numbers that
-- are not zero, under the others its diagonals are positive, and so are the weights of reading 3.
use Prim.Native.Nat.{ℕ, zero, suc, ◌+◌, ◌*◌, ◌<◌}
use mathlib.Core.Bool.{Bool, true, false, not, cond}
use mathlib.Core.List.{List}
use mathlib.Core.Path.{◌≡◌, refl}
use mathlib.Core.Logic.{◌≢◌}
use native.Mathlib.Omega.{arith}
use lib.Dec.{T, eqb, eqb→eq, ltb, lt→ltb, ltb→lt}
use lib.Ieee.{Float, nan, inf, fin, binary64, fits, lt, le, eq}
use borrow.Author.Tests.{eq-eqb, ne_eqb}
use lib.Ieee.Fits.{and_r}
use Rattle.exact.specs.Chains.{In}
use Rattle.exact.proofs.Bools.{holds, or_l}
use Rattle.exact.proofs.Cases.{by_bool}
use Rattle.definitions.specs.Numbers.{0·0, finite, is_zero, units}
use Rattle.definitions.specs.Sheet.{sheet_rows, place, size, diagonal, weight, weights}
use Rattle.definitions.specs.Accuracy.{Binary64}
use Rattle.definitions.specs.Questions.{pass, right_sign, moves, leaves, question9, place_questions, number_questions}
use Rattle.rounding.specs.Good.{Good}
use Rattle.rounding.proofs.Laws.{zero_is_good, units-zero, is_zero_lem}
use Rattle.rounding.proofs.Order.{lt-units}
use Rattle.rounding.proofs.Reversed.{le-not_above}
use Rattle.rounding.proofs.Zeros.{IsSize, plus_zero, size_of_negative, size_of_positive}
use Rattle.steps.proofs.Sizes.{size-at, diagonal-at}
use Rattle.steps.proofs.QuestionLaws.{then_first, then_next, number-finite, number_sign}
use Rattle.counts.proofs.Counts.{stage-rows}
use Rattle.rates_accuracy.specs.LeavingRatesAccuracy.{GoodWeight, GoodWeights}

less_or_equal : (x y : Float) → T (lt x y) → T (le x y)
unfolding le
less_or_equal x y = or_l (lt x y) (eq x y)

positive_good : (x : Float) → T (fits binary64 x) → T (finite x) → T (lt 0·0 x) → Good x
unfolding finite lt
positive_good nan f t l = absurd t
positive_good (inf s) f t l = absurd t
positive_good (fin true m e) f t l = absurd l
positive_good (fin false m e) f t l = record { plus = tt; held = f }

not-zero-pos : (a : ℕ) → T (not (eqb a 0)) → 0 < a
not-zero-pos zero t = absurd t
not-zero-pos (suc a) t = omega arith

-- Questions 6 and 7: an off-diagonal number that is zero or negative and a diagonal one that is zero or positive leave good numbers.
module _ (reading n : ℕ) (sheet : List Float) (fit : Binary64 sheet) (e : number_questions reading n sheet ≡ pass) where
  places : place_questions reading n sheet ≡ pass
  unfolding number_questions
  places = then_first (place_questions reading n sheet) (question9 reading n sheet) e

  -- A stage's row is one of the sheet's, and not that of the weights.
  stage-row : (i : ℕ) → i < n → i < sheet_rows reading n
  stage-row i h = omega (arith, stage-rows reading n)

  apart : (i : ℕ) → i < n → i ≢ n
  apart i h e = omega arith

  pub last_question : question9 reading n sheet ≡ pass
  unfolding number_questions
  last_question = then_next (place_questions reading n sheet) (question9 reading n sheet) e

  pub size_is : (i j : ℕ) → i < n → j < n → i ≢ j → IsSize (place n sheet i j) (size n sheet i j)
  unfolding right_sign Binary64
  size_is i j hi hj d =
      rw (size-at n sheet i j hi hj d)
      (size_of_negative (place n sheet i j) (fit (i * n + j)) (number-finite reading n sheet places i j (stage-row i hi) hj)
      (le-not_above (place n sheet i j) 0·0 (rw (ne_eqb i n (apart i hi), ne_eqb i j d) at (number_sign reading n sheet places i j (stage-row i hi) hj))))

  diagonal_sign : (i : ℕ) → i < n → T (cond (eqb reading 1) (le 0·0 (place n sheet i i)) (lt 0·0 (place n sheet i i)))
  unfolding right_sign
  diagonal_sign i h = rw (ne_eqb i n (apart i h), eq-eqb i i refl) at (number_sign reading n sheet places i i (stage-row i h) h)

  pub diagonal_is : (i : ℕ) → i < n → IsSize (place n sheet i i) (diagonal n sheet i)
  unfolding Binary64
  diagonal_is i h =
      rw (diagonal-at n sheet i h)
      (size_of_positive (place n sheet i i) (fit (i * n + i)) (number-finite reading n sheet places i i (stage-row i h) h)
      (le-not_above 0·0 (place n sheet i i) (either (eqb reading 1) (diagonal_sign i h))))
    where
      either : (c : Bool) → T (cond c (le 0·0 (place n sheet i i)) (lt 0·0 (place n sheet i i))) → T (le 0·0 (place n sheet i i))
      either true t = t
      either false t = less_or_equal 0·0 (place n sheet i i) t

-- A positive number of the format is good, and not zero.
positive_weight : (x : Float) → T (fits binary64 x) → T (finite x) → T (lt 0·0 x) → GoodWeight x
positive_weight x f t l =
    let g = positive_good x f t l in
    record { good = g; positive = ltb→lt 0 (units x) (rw (lt-units zero_is_good g, units-zero) at l) }

-- Readings 2 and 3: positive diagonals.
pub input_positive :
    (reading n : ℕ) (sheet : List Float) → eqb reading 1 ≡ false → Binary64 sheet → number_questions reading n sheet ≡ pass
    → (i : ℕ) → i < n → 0 < units (diagonal n sheet i)
unfolding Binary64
input_positive reading n sheet other fit e i h =
    let x = place n sheet i i in
    let l : T (lt 0·0 x) = rw other at (diagonal_sign reading n sheet fit e i h) in
    let g = positive_weight x (fit (i * n + i)) (number-finite reading n sheet (places reading n sheet fit e) i i (stage-row reading n sheet fit e i h) h) l in
    rw (diagonal-at n sheet i h, plus_zero g.good) g.positive

-- Reading 3: positive weights.
weight-good : (n : ℕ) (sheet : List Float) → Binary64 sheet → number_questions 3 n sheet ≡ pass → (j : ℕ) → j < n → GoodWeight (weight n sheet j)
unfolding Binary64 weight right_sign sheet_rows
weight-good n sheet fit e j h =
    let asked = places 3 n sheet fit e in
    positive_weight (place n sheet n j) (fit (n * n + j)) (number-finite 3 n sheet asked n j (omega arith) h)
    (rw (eq-eqb n n refl) at (number_sign 3 n sheet asked n j (omega arith) h))

pub input-weights : (reading n : ℕ) (sheet : List Float) → Binary64 sheet → number_questions reading n sheet ≡ pass → GoodWeights n (weights reading n sheet)
unfolding weights
input-weights reading n sheet fit e =
    by_bool (eqb reading 3)
    (λ three. rw three (weight-good n sheet fit (rw (eqb→eq reading 3 (holds three)) at e)))
    (λ other. rw other tt)

-- Reading 1: moves are nonzero sizes, and exits nonzero leaving rates.
module _ (n : ℕ) (sheet : List Float) (fit : Binary64 sheet) (e : number_questions 1 n sheet ≡ pass) where
  pub move_kept : (i j : ℕ) → In zero n i → In zero n j → i ≢ j → T (moves n sheet i j) → T (ltb zero (units (size n sheet i j)))
  unfolding moves
  move_kept i j hi hj d t =
      let x = size n sheet i j in
      let g = (size_is 1 n sheet fit e i j (omega arith) (omega arith) d).good in
      lt→ltb zero (units x) (not-zero-pos (units x) (rw (is_zero_lem g) at (and_r (not (eqb i j)) (not (is_zero x)) t)))

  pub exit_kept : (i : ℕ) → In zero n i → T (leaves n sheet i) → T (ltb zero (units (diagonal n sheet i)))
  unfolding leaves
  exit_kept i h t = rw (lt-units zero_is_good (diagonal_is 1 n sheet fit e i (omega arith)).good, units-zero) at t
