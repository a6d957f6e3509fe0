-- The downward stages, as far as every column shares them: the numbers stay good, and each stage is near an exact elimination step.
use Prim.Native.Nat.{ℕ, zero, suc, ◌+◌, ◌*◌, ◌≤◌, ◌<◌}
use mathlib.Core.Path.{◌≡◌, sym, ◌∙◌, subst, subst₂}
use mathlib.Core.Logic.{◌≢◌}
use native.Mathlib.Omega.{arith}
use lib.Dec.{T}
use lib.Ieee.{Float}
use Rattle.exact.specs.Chains.{In}
use Rattle.exact.specs.Near.{Near}
use Rattle.exact.specs.Systems.{AllOut}
use Rattle.exact.specs.Elimination.{pivot}
use Rattle.exact.specs.Run.{Step, SharedSteps}
use Rattle.exact.proofs.Near.{near_sym, near_grow, near_scale}
use Rattle.exact.proofs.Sums.{first, later}
use Rattle.exact.proofs.Run.{level_out}
use Rattle.definitions.specs.Numbers.{◌⊕◌, ◌⊗◌, div_in_range, add_product_in_range, units}
use Rattle.definitions.specs.LeavingRates.{Weights, System, downward, eliminate, p, m↓, shared_before, shared}
use Rattle.rounding.specs.Good.{Good}
use Rattle.steps.proofs.LeavingRatesSteps.{at-start, at_next, multiplier_is, size_step, exit_step, weights_step}
use Rattle.rates_accuracy.specs.LeavingRatesAccuracy.{weight_units, exit_units, in_units, GoodWeights, GoodSystem, StagesGetOut, stage_roundings}
use Rattle.rates_accuracy.proofs.LeavingRatesRange.{StageRange, stage_range, downward-shared, upward_division}
use Rattle.rates_accuracy.proofs.OperationErrors.{adds_product}
use Rattle.rates_accuracy.proofs.PivotErrors.{row-good, pivot-good, pivot_near, stage_count}

-- The number v is good, and within e roundings of x + t·W·y / P, where W is the weight of the stage.
pub record Eliminated (e P W : ℕ) (x t y v : Float) : Type 0 where
  pub good : Good v
  pub near : Near e (units v * P) (units x * P + units t * W * units y)

-- One stage k, with m stages after it.
module _ (w : Weights) (r : ℕ) (gw : GoodWeights r w) (at : ℕ → System) (k m : ℕ) (e : suc (k + m) ≡ r) (g : GoodSystem w k (suc m) (at k)) where
  module _ (s : StageRange r at k m) where
    -- One place: x of row i becomes x + m·y, where y is its column's number in row k.
    pub place_step :
        (i : ℕ) → In (suc k) m i → (x y : Float) → Good x → Good y → T (add_product_in_range x (m↓ r at k i) y) → (b : ℕ → ℕ)
        → Eliminated (stage_roundings w (suc m)) (pivot k m (in_units w (at k) b)) (weight_units w k) x ((at k).t i k) y (x ⊕ m↓ r at k i ⊗ y)
    place_step i l x y gx gy a b =
        let ratio = multiplier_is r at k i in
        let t = (at k).t i k in
        let gt = g.size i k (later l) first (omega arith) in
        let sum = adds_product x t (p r at k) y gx gt (pivot-good w r gw at k m e g s.pivot) gy (s.row i l).division (rw ratio at a) in
        rw ratio (record { good = sum.good; near = near_grow (stage_count w m (omega arith)) (sum.whole (weight_units w k) (near_sym (pivot_near r at k m e s.pivot b w gw g))) })

    -- The next stage begins with these numbers.
    module _ (next : suc k < r → at (suc k) ≡ eliminate r (at k) k) where
      size-next :
          (i j : ℕ) → In (suc k) m i → In (suc k) m j → i ≢ j → (b : ℕ → ℕ)
          → Eliminated (stage_roundings w (suc m)) (pivot k m (in_units w (at k) b)) (weight_units w k) ((at k).t i j) ((at k).t i k) ((at k).t k j) ((at (suc k)).t i j)
      size-next i j li lj n b =
          rw (size_step r at k (next (omega arith)) i j (omega arith) (omega arith))
          (place_step i li ((at k).t i j) ((at k).t k j) (g.size i j (later li) (later lj) n) (row-good w r gw at k m e g j lj) ((s.row i li).size j lj n) b)

      exit_next :
          (i : ℕ) → In (suc k) m i → (b : ℕ → ℕ)
          → Eliminated (stage_roundings w (suc m)) (pivot k m (in_units w (at k) b)) (weight_units w k) ((at k).s i) ((at k).t i k) ((at k).s k) ((at (suc k)).s i)
      exit_next i l b =
          rw (exit_step r at k (next (omega arith)) i (omega arith))
          (place_step i l ((at k).s i) ((at k).s k) (g.exit i (later l)) (g.exit k first) (s.row i l).exit b)

      pub stage-good : suc k < r → GoodSystem w (suc k) m (at (suc k))
      stage-good more =
          record {
            size = λ i j li lj n. (size-next i j li lj n (λ i. zero)).good;
            exit = λ i l. (exit_next i l (λ i. zero)).good;
            weights = weights_step r at k (next more) ∙ g.weights;
          }

      -- In units a size has its column's weight, and an exit has its factor.
      pub stage_step : (b b' : ℕ → ℕ) → Step (stage_roundings w (suc m)) k m (in_units w (at k) b) (in_units w (at (suc k)) b')
      stage_step b b' =
          record {
            size = λ i j li lj n. subst₂ (Near (stage_roundings w (suc m))) (omega arith) (omega arith) (near_scale (weight_units w j) (size-next i j li lj n b).near);
            exit = λ i l. subst₂ (Near (stage_roundings w (suc m))) (omega arith) (omega arith) (near_scale (exit_units w) (exit_next i l b).near);
          }

-- Getting out has nothing to do with the right sides.
pub first_out : (w : Weights) (r : ℕ) (start : System) → 0 < r → StagesGetOut w zero r start → (b : ℕ → ℕ) → AllOut zero r (in_units w (downward r start zero) b)
first_out w r start h o b = rw (at-start r start h) (record { out = o.out })

-- The stages up to q, from the steps before q.
module _ (w : Weights) (r : ℕ) (gw : GoodWeights r w) (start : System) (g : GoodSystem w zero r start) (q : ℕ) (t : T (shared_before r (downward r start) q)) where
  pub stages-good : (k m : ℕ) → suc (k + m) ≡ r → k ≤ q → GoodSystem w k (suc m) (downward r start k)
  stages-good zero m e l =
      subst (λ a. GoodSystem w zero (suc m) a) (sym (at-start r start (omega arith)))
      (subst (λ n. GoodSystem w zero n start) (omega arith) g)
  stages-good (suc k) m e l =
      let e' : suc (k + suc m) ≡ r = omega arith in
      stage-good w r gw (downward r start) k (suc m) e' (stages-good k (suc m) e' (omega arith))
      (stage_range r (downward r start) q k (suc m) e' l t)
      (at_next r start k) (omega arith)

  pub shared_steps : (b : ℕ → ℕ → ℕ) → SharedSteps (stage_roundings w) r (λ k. in_units w (downward r start k) (b k)) q
  shared_steps b = record { step = step }
    where
      step :
          (k m : ℕ) → suc (k + m) ≡ r → k < q
          → Step (stage_roundings w (suc m)) k m (in_units w (downward r start k) (b k)) (in_units w (downward r start (suc k)) (b (suc k)))
      step k m e l =
          stage_step w r gw (downward r start) k m e (stages-good k m e (omega arith))
          (stage_range r (downward r start) q k m e l t)
          (at_next r start k) (b k) (b (suc k))

  -- Each system gets out, whatever its right sides are.
  pub stages_out :
      StagesGetOut w zero r start → (b : ℕ → ℕ) (k m : ℕ) → suc (k + m) ≡ r → k ≤ q → AllOut k (suc m) (in_units w (downward r start k) b)
  stages_out o b k m e l =
      level_out (first_out w r start (omega arith) o b) (shared_steps (λ k. b)) k (suc m) (omega arith) l

-- What all the shared steps leave: good numbers as each stage begins, its tests, and those of the upward multipliers.
pub record Shared (w : Weights) (r : ℕ) (at : ℕ → System) : Type 0 where
  pub good : (k m : ℕ) → suc (k + m) ≡ r → GoodSystem w k (suc m) (at k)
  pub range : (k m : ℕ) → suc (k + m) ≡ r → StageRange r at k m
  pub upward : (i l : ℕ) → i < l → l < r → T (div_in_range ((at i).t i l) (p r at l))

pub shared_facts : (w : Weights) (r : ℕ) (gw : GoodWeights r w) (start : System) → GoodSystem w zero r start → T (shared r (downward r start)) → Shared w r (downward r start)
shared_facts w r gw start g t =
    let before = downward-shared r (downward r start) t in
    record {
      good = λ k m e. stages-good w r gw start g r before k m e (omega arith);
      range = λ k m e. stage_range r (downward r start) r k m e (omega arith) before;
      upward = upward_division r (downward r start) t;
    }
