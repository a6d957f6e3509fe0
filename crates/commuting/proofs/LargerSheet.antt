-- A sheet and a larger one, whose rates are those times 2^c: sizes and diagonals are times 2^c too, the weights are the same, and the same
-- stages take part.
use Prim.Native.Nat.{ℕ, ◌+◌, ◌*◌, ◌≤◌, ◌<◌}
use native.Mathlib.Omega.{arith}
use mathlib.Core.Bool.{true, not, ◌&&◌, cond}
use mathlib.Core.List.{List}
use mathlib.Core.Logic.{◌≢◌}
use mathlib.Core.Path.{◌≡◌, sym, ap, ap₂, ◌∙◌, fun_ext}
use lib.Dec.{eqb}
use lib.IntN.{pos}
use lib.ListN.{get_or, drop}
use lib.Ieee.{Float, nan}
use Rattle.definitions.specs.Numbers.{is_zero}
use Rattle.exact.proofs.Cases.{by_order}
use Rattle.definitions.specs.LeavingRates.{none, some}
use Rattle.definitions.specs.Sheet.{place, size, diagonal, weight, weights, idle, takes_part}
use Rattle.definitions.specs.Questions.{pass, place_questions, question9, number_questions}
use Rattle.definitions.specs.Accuracy.{Binary64}
use Rattle.definitions.specs.Moving.{times_power}
use Rattle.rounding.specs.Scaling.{Scaled}
use Rattle.rounding.proofs.TimesPower.{times_is_zero, size-scaled}
use Rattle.rounding.proofs.Zeros.{IsSize}
use Rattle.steps.proofs.All.{all-below}
use Rattle.steps.proofs.LiveStages.{zeros, idle_is}
use Rattle.steps.proofs.QuestionLaws.{then_first, number-finite}
use Rattle.counts.proofs.Counts.{stage-rows}
use Rattle.shape.proofs.Square.{inside}
use Rattle.commuting.proofs.Moves.{same_behind}
use Rattle.rates_accuracy.proofs.Input.{size_is, diagonal_is}

-- Both pass the questions of the numbers.
pub record Larger (c reading n : ℕ) (sheet big : List Float) : Type 0 where
  pub rate : (at : ℕ) → at < n * n → get_or big at nan ≡ times_power (pos c) (get_or sheet at nan)
  pub weights : drop (n * n) big ≡ drop (n * n) sheet
  pub held : Binary64 sheet
  pub held' : Binary64 big
  pub asked : number_questions reading n sheet ≡ pass
  pub asked' : number_questions reading n big ≡ pass

module _ {c reading n : ℕ} {sheet big : List Float} (l : Larger c reading n sheet big) where
  -- The size of a number, in both.
  size_of : (i j : ℕ) → i < n → j < n → {y y' : Float} → IsSize (place n sheet i j) y → IsSize (place n big i j) y' → Scaled c y y'
  unfolding Binary64 number_questions
  size_of i j hi hj s s' =
      let at = i * n + j in
      let is = l.rate at (inside hi hj) in
      size-scaled c (get_or sheet at nan)
      (number-finite reading n sheet (then_first (place_questions reading n sheet) (question9 reading n sheet) l.asked) i j (omega (arith, stage-rows reading n)) hj)
      (l.held at) (rw is at (l.held' at)) s (rw is at s')

  pub larger_size : (i j : ℕ) → i < n → j < n → i ≢ j → Scaled c (size n sheet i j) (size n big i j)
  larger_size i j hi hj o =
      size_of i j hi hj (size_is reading n sheet l.held l.asked i j hi hj o) (size_is reading n big l.held' l.asked' i j hi hj o)

  pub larger_diagonal : (i : ℕ) → i < n → Scaled c (diagonal n sheet i) (diagonal n big i)
  larger_diagonal i h =
      size_of i i h h (diagonal_is reading n sheet l.held l.asked i h) (diagonal_is reading n big l.held' l.asked' i h)

  behind : (at : ℕ) → n * n ≤ at → get_or big at nan ≡ get_or sheet at nan
  behind = same_behind (n * n) big sheet l.weights

  pub same_weights : weights reading n big ≡ weights reading n sheet
  unfolding weights weight
  same_weights = ap (λ z. cond (eqb reading 3) (some z) none) (fun_ext (λ j. behind (n * n + j) (omega arith)))

  -- A zero is a zero in both.
  zero-at : (at : ℕ) → is_zero (get_or big at nan) ≡ is_zero (get_or sheet at nan)
  zero-at at = by_order (n * n) at (λ m. ap is_zero (behind at m)) (λ m. ap is_zero (l.rate at m) ∙ times_is_zero (pos c) (get_or sheet at nan))

  same_idle : (i : ℕ) → idle n big i ≡ idle n sheet i
  unfolding zeros
  same_idle i =
      idle_is n big i
      ∙ all-below (zeros n big i) (zeros n sheet i) (λ j h. ap₂ (λ a b. a && b) (zero-at (i * n + j)) (zero-at (j * n + i)))
      ∙ sym (idle_is n sheet i)

  pub same_parts : takes_part reading n big ≡ takes_part reading n sheet
  unfolding takes_part
  same_parts = fun_ext (λ i. ap (λ out. cond (eqb reading 1) (not out) true) (same_idle i))
