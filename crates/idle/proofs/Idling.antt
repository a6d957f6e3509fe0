-- Idle stages: the numbers that tell one, and the searches for one.
use mathlib.Core.Path.{◌≡◌, refl, sym, ap, ◌∙◌}
use mathlib.Core.Bool.{Bool, true, false, not, ◌&&◌, ◌||◌}
use mathlib.Core.List.{List}
use Prim.Native.Nat.{ℕ, ◌<◌}
use lib.Ieee.{Float, binary64, of_bits, eq, ne}
use Rattle.exact.proofs.Bools.{same_truth}
use Rattle.definitions.specs.Numbers.{is_zero, all}
use Rattle.definitions.specs.Sheet.{place, idle, takes_part}
use Rattle.rounding.proofs.Words.{zero_word}
use Rattle.steps.proofs.All.{each_below}
use Rattle.steps.proofs.LiveStages.{zeros, idle_is, live_is}

-- A test that fails at one place fails.
pub one_fails : (p : ℕ → Bool) (n i : ℕ) → i < n → p i ≡ false → all p 0 n ≡ false
one_fails p n i l e = same_truth (all p 0 n) false (λ t. rw e at (each_below n p t i l)) (λ z. absurd z)

either : (a b : Bool) → (not a || not b) ≡ not (a && b)
either true b = refl
either false b = refl

module _ (n : ℕ) (sheet : List Float) (i : ℕ) where
  -- The tests of the code.
  pub zeros_is : (j : ℕ) {x y : Float} → x ≡ place n sheet i j → y ≡ place n sheet j i → (ne x (of_bits binary64 0) || ne y (of_bits binary64 0)) ≡ not (zeros n sheet i j)
  unfolding zeros is_zero ne
  zeros_is j a b = rw (zero_word, a, b) (either (is_zero (place n sheet i j)) (is_zero (place n sheet j i)))

  -- A stage whose own place is not zero is not idle.
  pub told_apart : {x : Float} → i < n → x ≡ place n sheet i i → eq x (of_bits binary64 0) ≡ false → takes_part 1 n sheet i ≡ true
  unfolding zeros is_zero
  told_apart l a e =
      let w : is_zero (place n sheet i i) ≡ false = rw (zero_word, a) at e in
      live_is n sheet i ∙ ap not (idle_is n sheet i ∙ one_fails (zeros n sheet i) n i l (ap (λ b. b && is_zero (place n sheet i i)) w))

  pub live_of : {b : Bool} → b ≡ idle n sheet i → not b ≡ takes_part 1 n sheet i
  live_of e = ap not e ∙ sym (live_is n sheet i)
