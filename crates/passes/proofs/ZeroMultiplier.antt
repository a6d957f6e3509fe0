-- A multiplier of zero changes nothing, for finite numbers that are not negative.
use mathlib.Core.Path.{◌≡◌, ap, ◌∙◌}
use Prim.Native.Nat.{ℕ, suc, ◌-◌, ◌≤◌, ◌<◌}
use lib.Ieee.{Float}
use Rattle.definitions.specs.Numbers.{◌⊕◌, ◌⊗◌, ◌⊘◌, 0·0, units}
use Rattle.definitions.specs.LeavingRates.{System, downward, p, m↓, m↑, b↓, b↑}
use Rattle.rounding.specs.Good.{Good}
use Rattle.rounding.proofs.Zeros.{plus_zero, zero-times, zero-over}
use borrow.Author.Tests.{le-leb}
use Rattle.steps.proofs.LeavingRatesSteps.{at_next, size_step, exit_step, multiplier_is, upward_multiplier_is, column_step, upward_step}

pub zero-multiplier : {x y : Float} → Good x → Good y → x ⊕ 0·0 ⊗ y ≡ x
zero-multiplier g h = rw (zero-times h) (plus_zero g)

-- The same for a multiplier m that is zero.
unchanged : {x y m : Float} → m ≡ 0·0 → Good x → Good y → x ⊕ m ⊗ y ≡ x
unchanged e g h = rw e (zero-multiplier g h)

-- A size of zero has the multiplier zero, where the pivot is not zero.
module _ (r : ℕ) (at : ℕ → System) where
  pub zero-down : (k i : ℕ) → (at k).t i k ≡ 0·0 → Good (p r at k) → 0 < units (p r at k) → m↓ r at k i ≡ 0·0
  zero-down k i e g n = multiplier_is r at k i ∙ ap (λ x. x ⊘ p r at k) e ∙ zero-over g n

  pub zero-up : (k i : ℕ) → (at i).t i k ≡ 0·0 → Good (p r at k) → 0 < units (p r at k) → m↑ r at k i ≡ 0·0
  zero-up k i e g n = upward_multiplier_is r at k i ∙ ap (λ x. x ⊘ p r at k) e ∙ zero-over g n

  -- Rows of b.
  pub b_kept_down : (j k i : ℕ) → j ≤ k → i < r → m↓ r at k i ≡ 0·0 → Good (b↓ r at j k i) → Good (b↓ r at j k k) → b↓ r at j (suc k) i ≡ b↓ r at j k i
  b_kept_down j k i l m e g h = column_step r at j k i (le-leb j k l) m ∙ unchanged e g h

  pub b_kept_up : (j q i : ℕ) → i < r → m↑ r at (r - suc q) i ≡ 0·0 → Good (b↑ r at j q i) → Good (b↑ r at j q (r - suc q)) → b↑ r at j (suc q) i ≡ b↑ r at j q i
  b_kept_up j q i m e g h = upward_step r at j q i m ∙ unchanged e g h

-- Sizes and leaving rates.
module _ (r : ℕ) (start : System) where
  pub size-kept : (k i j : ℕ) → suc k < r → i < r → j < r → m↓ r (downward r start) k i ≡ 0·0 → Good ((downward r start k).t i j) → Good ((downward r start k).t k j)
      → (downward r start (suc k)).t i j ≡ (downward r start k).t i j
  size-kept k i j l m n e g h = size_step r (downward r start) k (at_next r start k l) i j m n ∙ unchanged e g h

  pub exit_kept : (k i : ℕ) → suc k < r → i < r → m↓ r (downward r start) k i ≡ 0·0 → Good ((downward r start k).s i) → Good ((downward r start k).s k)
      → (downward r start (suc k)).s i ≡ (downward r start k).s i
  exit_kept k i l m e g h = exit_step r (downward r start) k (at_next r start k l) i m ∙ unchanged e g h
