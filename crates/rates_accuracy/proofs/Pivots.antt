-- No pivot is zero.
use Prim.Native.Nat.{ℕ, zero, suc, ◌+◌, ◌-◌, ◌*◌, ◌≤◌, ◌<◌}
use mathlib.Core.Bool.{not}
use mathlib.Core.Path.{◌≡◌, refl, subst}
use native.Mathlib.Nat.{le_refl}
use native.Mathlib.Omega.{arith}
use lib.Dec.{T, eqb→eq, T_not, not_T}
use lib.Ieee.{Float}
use Rattle.exact.specs.Elimination.{pivot, EliminationGetsOut}
use Rattle.exact.proofs.Near.{near_sym, near_pos, pos-left}
use Rattle.exact.proofs.Elimination.{elimination_gets_out}
use Rattle.definitions.specs.Numbers.{is_zero, units}
use Rattle.definitions.specs.LeavingRates.{Weights, none, System, downward, pivot_in_range, p, shared_before}
use Rattle.definitions.specs.Table.{live_count, live_system, live_begun}
use Rattle.rounding.specs.Good.{Good}
use Rattle.rounding.proofs.Laws.{is_zero_lem}
use Rattle.steps.proofs.Pivot.{finite_in_range}
use Rattle.rates_accuracy.specs.LeavingRatesAccuracy.{weight_units, in_units, GoodWeights, GoodSystem, StagesGetOut}
use Rattle.rates_accuracy.specs.Pivots.{NoPivotIsZeroInSystems, NoPivotIsZero}
use Rattle.steps.proofs.AcceptedCalls.{table-known}
use Rattle.steps.proofs.LiveStages.{no_weights}
use Rattle.rates_accuracy.proofs.LiveSystem.{live-good, live_out}
use Rattle.rates_accuracy.proofs.PivotErrors.{pivot-good, pivot_near}
use Rattle.rates_accuracy.proofs.LeavingRatesStages.{stages-good, stages_out}
use Rattle.rounding.proofs.Finite.{zero-finite}

positive_not_zero : {x : Float} → Good x → 0 < units x → T (not (is_zero x))
positive_not_zero {x} g h = not_T (is_zero x) (λ t. absurd (let e = eqb→eq (units x) 0 (subst T (is_zero_lem g) t) in omega arith))

-- The pivots up to stage q, from the steps before q; stage k has m stages after it.
module _
    (w : Weights) (r : ℕ) (gw : GoodWeights r w) (start : System) (g : GoodSystem w zero r start) (o : StagesGetOut w zero r start)
    (q : ℕ) (t : T (shared_before r (downward r start) q)) (k m : ℕ) (e : suc (k + m) ≡ r) (l : k ≤ q) where
  exact_positive : 0 < pivot k m (in_units w (downward r start k) (λ i. zero))
  unfolding EliminationGetsOut
  exact_positive =
      (elimination_gets_out k m (in_units w (downward r start k) (λ i. zero)) (stages_out w r gw start g q t o (λ i. zero) k m e l)).0

  module _ (s : T (pivot_in_range r (downward r start k) k)) where
    pub good-pivot : Good (p r (downward r start) k)
    good-pivot = pivot-good w r gw (downward r start) k m e (stages-good w r gw start g q t k m e l) s

    pub positive_pivot : 0 < units (p r (downward r start) k)
    positive_pivot =
        pos-left (units (p r (downward r start) k)) (weight_units w k)
        (near_pos (near_sym (pivot_near r (downward r start) k m e s (λ i. zero) w gw (stages-good w r gw start g q t k m e l))) exact_positive)

-- Without weights a pivot that is zero would be finite, so that its additions are in range.
module _
    (r : ℕ) (start : System) (g : GoodSystem none zero r start) (o : StagesGetOut none zero r start)
    (q : ℕ) (t : T (shared_before r (downward r start) q)) (k m : ℕ) (e : suc (k + m) ≡ r) (l : k ≤ q) where
  not-zero : T (not (is_zero (p r (downward r start) k)))
  unfolding p
  not-zero = not_T (is_zero (p r (downward r start) k)) zero-pivot
    where
      zero-pivot : T (is_zero (p r (downward r start) k)) → ⊥
      zero-pivot z =
          let s = finite_in_range r (downward r start k) k (stages-good none r tt start g q t k m e l).weights (zero-finite (p r (downward r start) k) z) in
          T_not (is_zero (p r (downward r start) k)) (positive_not_zero (good-pivot none r tt start g o q t k m e l s) (positive_pivot none r tt start g o q t k m e l s)) z

pub no_pivot_is_zero_in_systems : NoPivotIsZeroInSystems
unfolding NoPivotIsZeroInSystems
no_pivot_is_zero_in_systems r start g o k h t =
    let e : suc (k + (r - suc k)) ≡ r = omega arith in
    record {
      not-zero = not-zero r start g o k t k (r - suc k) e (le_refl k);
      good = good-pivot none r tt start g o k t k (r - suc k) e (le_refl k);
    }

-- The stages of a sheet that passes the questions, without the idle ones, are such a system.
pub no_pivot_is_zero : NoPivotIsZero
unfolding NoPivotIsZero NoPivotIsZeroInSystems live_count live_begun
no_pivot_is_zero n e sheet fit input =
    let numbers = (table-known 1 n e sheet (n * n) input).numbers in
    let plain = no_weights 1 n sheet refl in
    let r = live_count 1 n sheet in
    let live = live_system 1 n sheet in
    no_pivot_is_zero_in_systems r live
    (subst (λ w. GoodSystem w zero r live) plain (live-good 1 n sheet fit numbers)) (subst (λ w. StagesGetOut w zero r live) plain (live_out 1 n sheet fit numbers))
