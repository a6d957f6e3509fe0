-- The accuracy of the engine: its stages and its rows are a run of `exact`, whose answers the last division rounds.
use Prim.Native.Nat.{ℕ, zero, suc, ◌+◌, ◌-◌, ◌*◌, ◌≤◌, ◌<◌}
use native.Mathlib.Nat.{mul-pos, mul_right_comm}
use mathlib.Core.Path.{◌≡◌, sym, subst₂, fun_ext}
use native.Mathlib.Omega.{arith}
use lib.Dec.{T}
use Rattle.exact.specs.Near.{Near}
use Rattle.exact.specs.Systems.{Equations, Solves}
use Rattle.exact.specs.Run.{ColumnSteps, total, RunAccuracy, RunBound, WeightedRunBound}
use Rattle.exact.proofs.Near.{near_grow, near_scale, near_through}
use Rattle.exact.proofs.CommonDenominator.{product-pos}
use Rattle.exact.proofs.Run.{run_accuracy, run_bound, weighted_run_bound}
use Rattle.definitions.specs.Numbers.{units}
use Rattle.definitions.specs.LeavingRates.{Weights, none, some, System, downward, b↓, quotient, shared, column}
use Rattle.rounding.specs.Good.{one·units}
use Rattle.steps.proofs.LeavingRatesSteps.{at-start}
use Rattle.rates_accuracy.specs.LeavingRatesAccuracy.{weight_units, in_units, identity_column, GoodWeights, GoodSystem, StagesGetOut, stage_roundings, row_roundings, Computed, EngineWithin, EngineCount, cubes, EngineAccuracy}
use Rattle.rates_accuracy.proofs.LeavingRatesRange.{downward-shared}
use Rattle.rates_accuracy.proofs.LeavingRatesStages.{shared_facts, first_out, shared_steps}
use Rattle.rates_accuracy.proofs.LeavingRatesColumn.{column-units, right_step}
use Rattle.rates_accuracy.proofs.LeavingRatesUpward.{divisor, denominator, answer, row_near, last-quotient}
use Rattle.rates_accuracy.proofs.PivotErrors.{weight-pos}
use Rattle.rates_accuracy.proofs.Pivots.{positive_pivot}

-- The numbers as stage k begins, with column j of b.
level : Weights → ℕ → ℕ → System → ℕ → Equations
level w r j start k = in_units w (downward r start k) (λ i. units (b↓ r (downward r start) j k i))

level-start :
    (w : Weights) (r j : ℕ) (start : System) (c : ℕ) (z : ℕ → ℕ) → 0 < r
    → Solves zero r (in_units w start (identity_column j)) c z → Solves zero r (level w r j start zero) c z
unfolding level
level-start w r j start c z h =
    subst₂ (λ a b. Solves zero r (in_units w a b) c z) (sym (at-start r start h)) (sym (fun_ext (column-units r (downward r start) j)))

module _
    (w : Weights) (r j : ℕ) (start : System) (gw : GoodWeights r w) (g : GoodSystem w zero r start) (o : StagesGetOut w zero r start)
    (t : T (shared r (downward r start))) (u : T (column r (downward r start) j)) where
  abbrev D : ℕ
  D = denominator w r (downward r start)

  abbrev answers : ℕ → ℕ
  answers = answer w r (downward r start) j

  column_steps : ColumnSteps (stage_roundings w) (row_roundings w) r (level w r j start) D answers
  unfolding level
  column_steps =
      let facts = shared_facts w r gw start g t in
      record {
        down = right_step r (downward r start) j w gw facts u;
        up = λ k m e. row_near w r (downward r start) j gw facts u (λ i. units (b↓ r (downward r start) j k i)) k m e;
      }

  run_near :
      (c : ℕ) (z : ℕ → ℕ) → Solves zero r (in_units w start (identity_column j)) c z → (i : ℕ) → i < r
      → Near (total (stage_roundings w) (row_roundings w) r) (answers i * c) (z i * D)
  unfolding level RunAccuracy
  run_near c z solves i h =
      let n : 0 < r = omega arith in
      let before = downward-shared r (downward r start) t in
      run_accuracy (stage_roundings w) (row_roundings w) r (level w r j start) c D answers z
      (first_out w r start n o (λ i. units (b↓ r (downward r start) j zero i)))
      (shared_steps w r gw start g r before (λ k i. units (b↓ r (downward r start) j k i)))
      column_steps
      (level-start w r j start c z n solves)
      i h

  denominator-pos : 0 < D
  unfolding denominator
  denominator-pos =
      product-pos (divisor w r (downward r start)) zero r
      (λ l h.
      let e : suc (l + (r - suc l)) ≡ r = omega arith in
      let own = ((shared_facts w r gw start g t).range l (r - suc l) e).pivot in
      mul-pos (positive_pivot w r gw start g o r (downward-shared r (downward r start) t) l (r - suc l) e (omega arith) own) (weight-pos r w gw l (omega arith)))

  -- The answers over the weights, times the weights.
  quotient_computed :
      (c : ℕ) (z : ℕ → ℕ) → Solves zero r (in_units w start (identity_column j)) c z → (i : ℕ) → i < r
      → Computed (total (stage_roundings w) (row_roundings w) r + 1) (quotient r (downward r start) i j) (z i * weight_units w i) c
  quotient_computed c z solves i h =
      let last = last-quotient w r (downward r start) j gw (shared_facts w r gw start g t) u i h in
      let x = units (quotient r (downward r start) i j) in
      let W = weight_units w i in
      let run : Near (total (stage_roundings w) (row_roundings w) r) (answers i * W * c) (z i * W * D) =
      rw (mul_right_comm (answers i) W c, mul_right_comm (z i) W D) (near_scale W (run_near c z solves i h)) in
      let whole = near_through one·units c x (answers i * W) (z i * W) denominator-pos last.near run in
      record { good = last.good; near = near_grow (omega arith) whole }

pub engine_count : EngineCount
unfolding EngineCount EngineWithin
engine_count = quotient_computed

run_cubes : (w : Weights) (r : ℕ) → 0 < r → total (stage_roundings w) (row_roundings w) r + 1 ≤ cubes w * (r * r * r)
unfolding RunBound WeightedRunBound
run_cubes none r h = run_bound r h
run_cubes (some z) r h = weighted_run_bound r h

pub engine_accuracy : EngineAccuracy
unfolding EngineAccuracy EngineCount EngineWithin
engine_accuracy w r j start gw g o t u c z solves i h =
    let counted = engine_count w r j start gw g o t u c z solves i h in
    record { good = counted.good; near = near_grow (run_cubes w r (omega arith)) counted.near }
