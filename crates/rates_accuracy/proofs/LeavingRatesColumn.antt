-- One column of b in the downward stages: its numbers stay good, and each stage is near an exact step of the right sides.
use Prim.Native.Nat.{ℕ, zero, suc, ◌+◌, ◌≤◌, ◌<◌}
use mathlib.Core.Bool.{Bool, true, false, cond}
use mathlib.Core.Path.{◌≡◌, refl, ap, ◌∙◌}
use native.Mathlib.Omega.{arith}
use lib.Dec.{T, eqb}
use borrow.Author.Tests.{le-leb, lt-leb, ne_eqb}
use Rattle.exact.specs.Chains.{In}
use Rattle.exact.specs.Elimination.{pivot}
use Rattle.exact.specs.Run.{RightStep}
use Rattle.exact.proofs.Near.{near_eq}
use Rattle.exact.proofs.Sums.{first, later}
use Rattle.definitions.specs.Numbers.{0·0, 1·0, units}
use Rattle.definitions.specs.LeavingRates.{Weights, System, b↓, column}
use Rattle.rounding.specs.Good.{Good, one·units}
use Rattle.rounding.proofs.Laws.{zero_is_good, one_is_good, units-zero, units-one}
use Rattle.steps.proofs.LeavingRatesSteps.{column-start, column_before_lem, column_step}
use Rattle.rates_accuracy.specs.LeavingRatesAccuracy.{weight_units, in_units, identity_column, GoodWeights, stage_roundings}
use Rattle.rates_accuracy.proofs.LeavingRatesRange.{downward-column, column-down}
use Rattle.rates_accuracy.proofs.LeavingRatesStages.{Eliminated, Shared, place_step}
use Rattle.exact.proofs.Cases.{by_order}

unit-good : (c : Bool) → Good (cond c 1·0 0·0)
unit-good true = one_is_good
unit-good false = zero_is_good

unit-units : (c : Bool) → units (cond c 1·0 0·0) ≡ cond c one·units zero
unit-units true = units-one
unit-units false = units-zero

module _ (r : ℕ) (at : ℕ → System) (j : ℕ) where
  pub column-units : (i : ℕ) → units (b↓ r at j zero i) ≡ identity_column j i
  unfolding identity_column
  column-units i = ap units (column-start r at j i) ∙ unit-units (eqb i j)

  -- Left of its column b is the identity still, so row k has a zero there.
  column-left : (k : ℕ) → k ≤ j → b↓ r at j k ≡ b↓ r at j zero
  column-left zero h = refl
  column-left (suc k) h =
      column_before_lem r at j k (lt-leb j k (omega arith)) ∙ column-left k (omega arith)

  left-zero : (k : ℕ) → k < j → units (b↓ r at j k k) ≡ zero
  unfolding identity_column
  left-zero k h =
      ap (λ b. units (b k)) (column-left k (omega arith)) ∙ column-units k ∙ rw (ne_eqb k j (omega arith))

  module _ (w : Weights) (gw : GoodWeights r w) (s : Shared w r at) (t : T (column r at j)) where
    -- One stage of row i.
    column-next :
        (k m : ℕ) → suc (k + m) ≡ r → ((i : ℕ) → In k (suc m) i → Good (b↓ r at j k i)) → (i : ℕ) → In (suc k) m i → (b : ℕ → ℕ)
        → Eliminated
        (stage_roundings w (suc m)) (pivot k m (in_units w (at k) b)) (weight_units w k) (b↓ r at j k i) ((at k).t i k) (b↓ r at j k k) (b↓ r at j (suc k) i)
    column-next k m e g i l b =
        by_order j k
        (λ c.
        rw (column_step r at j k i (le-leb j k c) (omega arith))
        (place_step w r gw at k m e (s.good k m e) (s.range k m e) i l (b↓ r at j k i) (b↓ r at j k k) (g i (later l)) (g k first)
        (column-down r at j r k i (downward-column r at j t) c (omega arith) (omega arith) (omega arith)) b))
        (λ c.
        rw (column_before_lem r at j k (lt-leb j k c))
        (record { good = g i (later l); near = near_eq (rw (left-zero k c) (omega arith)) }))

    pub column-good : (k m : ℕ) → suc (k + m) ≡ r → (i : ℕ) → In k (suc m) i → Good (b↓ r at j k i)
    column-good zero m e i l = rw (column-start r at j i) (unit-good (eqb i j))
    column-good (suc k) m e i l =
        (column-next k (suc m) (omega arith) (column-good k (suc m) (omega arith)) i l (λ i. zero)).good

    pub right_step :
        (k m : ℕ) → suc (k + m) ≡ r
        → RightStep (stage_roundings w (suc m)) k m
        (in_units w (at k) (λ i. units (b↓ r at j k i))) (in_units w (at (suc k)) (λ i. units (b↓ r at j (suc k) i)))
    right_step k m e i l = (column-next k m e (column-good k m e) i l (λ i. units (b↓ r at j k i))).near
