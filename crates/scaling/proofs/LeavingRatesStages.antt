-- The downward stages of two systems, one of which is the other times 2^c: the pivots are so too, and the multipliers are the same.
use Prim.Native.Nat.{ℕ, zero, suc, ◌+◌, ◌-◌, ◌<◌}
use mathlib.Core.Path.{◌≡◌, sym, ◌∙◌, subst, subst₂}
use native.Mathlib.Omega.{arith}
use lib.Dec.{T}
use lib.Ieee.{Float}
use Rattle.exact.specs.Chains.{In}
use Rattle.exact.proofs.Sums.{first, later}
use Rattle.definitions.specs.Numbers.{◌⊕◌, ◌⊗◌, add_product_in_range}
use Rattle.definitions.specs.LeavingRates.{System, pivot_in_range, downward, eliminate, p, m↓, m↑, shared}
use Rattle.rounding.specs.Good.{Good}
use Rattle.rounding.specs.Scaling.{Scaled}
use Rattle.rounding.proofs.Laws.{quotient-good}
use Rattle.steps.proofs.LeavingRatesSteps.{at-start, at_next, weights_stay, multiplier_is, upward_multiplier_is, size_step, exit_step, weights_step}
use Rattle.rates_accuracy.proofs.LeavingRatesRange.{StageRange, stage_range, downward-shared, upward_division}
use Rattle.rates_accuracy.specs.LeavingRatesAccuracy.{GoodWeights}
use Rattle.scaling.specs.Scaling.{ScaledSystem}
use Rattle.scaling.proofs.Pivot.{pivot-scaled}
use Rattle.scaling.proofs.ScaledNumbers.{same_ratio, step_scaled}

-- One stage k, with m stages after it.
module _ (c r : ℕ) (at at' : ℕ → System) (k m : ℕ) (e : suc (k + m) ≡ r) (gw : GoodWeights r (at k).z) (g : ScaledSystem c k (suc m) (at k) (at' k)) where
  pub own-pivot : T (pivot_in_range r (at k) k) → T (pivot_in_range r (at' k) k) → Scaled c (p r at k) (p r at' k)
  unfolding p
  own-pivot t t' = pivot-scaled c r k (at k) (at' k) (omega arith) gw (λ j l h. g.size k j first (omega arith) (omega arith)) (g.exit k first) g.weights t t'

  module _ (s : StageRange r at k m) (s' : StageRange r at' k m) where
    pub multiplier_same : (i : ℕ) → In (suc k) m i → m↓ r at' k i ≡ m↓ r at k i
    multiplier_same i l =
        multiplier_is r at' k i
        ∙ same_ratio (g.size i k (later l) first (omega arith)) (own-pivot s.pivot s'.pivot) (s.row i l).division
        ∙ sym (multiplier_is r at k i)

    multiplier-good : (i : ℕ) → In (suc k) m i → Good (m↓ r at k i)
    multiplier-good i l =
        rw (multiplier_is r at k i) (quotient-good (g.size i k (later l) first (omega arith)).from (own-pivot s.pivot s'.pivot).from (s.row i l).division)

    -- One place: x of row i becomes x + m·y, where y is its column's number in row k.
    place-scaled : (i : ℕ) → In (suc k) m i → {x x' y y' : Float} → Scaled c x x' → Scaled c y y'
        → T (add_product_in_range x (m↓ r at k i) y) → T (add_product_in_range x' (m↓ r at' k i) y')
        → Scaled c (x ⊕ m↓ r at k i ⊗ y) (x' ⊕ m↓ r at' k i ⊗ y')
    place-scaled i l a b t t' = let same = multiplier_same i l in rw same (step_scaled a (multiplier-good i l) b t (rw same at t'))

    -- The next stage begins with these numbers.
    pub stage-scaled : (suc k < r → at (suc k) ≡ eliminate r (at k) k) → (suc k < r → at' (suc k) ≡ eliminate r (at' k) k) → suc k < r
        → ScaledSystem c (suc k) m (at (suc k)) (at' (suc k))
    stage-scaled next next' more =
        record {
          size = λ i j li lj n.
              rw (size_step r at k (next (omega arith)) i j (omega arith) (omega arith), size_step r at' k (next' (omega arith)) i j (omega arith) (omega arith))
              (place-scaled i li (g.size i j (later li) (later lj) n) (g.size k j first (later lj) (omega arith)) ((s.row i li).size j lj n) ((s'.row i li).size j lj n));
          exit = λ i l.
              rw (exit_step r at k (next (omega arith)) i (omega arith), exit_step r at' k (next' (omega arith)) i (omega arith))
              (place-scaled i l (g.exit i (later l)) (g.exit k first) (s.row i l).exit (s'.row i l).exit);
          weights = weights_step r at' k (next' more) ∙ g.weights ∙ sym (weights_step r at k (next more));
        }

-- All of them.
module _ (c r : ℕ) (start start' : System) (gw : GoodWeights r start.z) (g : ScaledSystem c 0 r start start')
    (t : T (shared r (downward r start))) (t' : T (shared r (downward r start'))) where
  abbrev at : ℕ → System
  at = downward r start

  abbrev at' : ℕ → System
  at' = downward r start'

  kept-weights : (k : ℕ) → k < r → GoodWeights r (at k).z
  kept-weights k l = subst (GoodWeights r) (sym (weights_stay r start k l)) gw

  range : (k m : ℕ) → suc (k + m) ≡ r → StageRange r at k m
  range k m e = stage_range r at r k m e (omega arith) (downward-shared r at t)

  range' : (k m : ℕ) → suc (k + m) ≡ r → StageRange r at' k m
  range' k m e = stage_range r at' r k m e (omega arith) (downward-shared r at' t')

  pub stages-scaled : (k m : ℕ) → suc (k + m) ≡ r → ScaledSystem c k (suc m) (at k) (at' k)
  stages-scaled zero m e =
      subst₂ (ScaledSystem c zero (suc m)) (sym (at-start r start (omega arith))) (sym (at-start r start' (omega arith)))
      (subst (λ n. ScaledSystem c zero n start start') (omega arith) g)
  stages-scaled (suc k) m e =
      let before : suc (k + suc m) ≡ r = omega arith in
      stage-scaled c r at at' k (suc m) before (kept-weights k (omega arith)) (stages-scaled k (suc m) before) (range k (suc m) before) (range' k (suc m) before)
      (at_next r start k) (at_next r start' k) (omega arith)

  pub pivots-scaled : (k : ℕ) → k < r → Scaled c (p r at k) (p r at' k)
  pivots-scaled k l =
      let e : suc (k + (r - suc k)) ≡ r = omega arith in
      own-pivot c r at at' k (r - suc k) e (kept-weights k l) (stages-scaled k (r - suc k) e) (range k (r - suc k) e).pivot (range' k (r - suc k) e).pivot

  pub multipliers_same : (k i : ℕ) → k < i → i < r → m↓ r at' k i ≡ m↓ r at k i
  multipliers_same k i l h =
      let e : suc (k + (r - suc k)) ≡ r = omega arith in
      multiplier_same c r at at' k (r - suc k) e (kept-weights k (omega arith)) (stages-scaled k (r - suc k) e) (range k (r - suc k) e) (range' k (r - suc k) e) i (omega arith)

  pub upward_multipliers_same : (k i : ℕ) → i < k → k < r → m↑ r at' k i ≡ m↑ r at k i
  upward_multipliers_same k i l h =
      upward_multiplier_is r at' k i
      ∙ same_ratio ((stages-scaled i (r - suc i) (omega arith)).size i k first (omega arith) (omega arith)) (pivots-scaled k h) (upward_division r at t i k l h)
      ∙ sym (upward_multiplier_is r at k i)
