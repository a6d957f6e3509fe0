-- `pivots::later_products` meets its contract: at turn q the last q products are added and tested. Assumes nothing.
use Prim.Native.Nat.{suc, ◌+◌, ◌-◌}
use mathlib.Core.Path.{◌≡◌, refl, ap, ap₂, ◌∙◌}
use native.Mathlib.Nat.{sub-zero}
use native.Mathlib.Omega.{arith}
use lib.ListN.{get_or}
use lib.Ieee.{of_bits, nan}
use Rattle.definitions.specs.Numbers.{◌⊗◌, mul_in_range}
use Rattle.rounding.proofs.ResultRange.{product_test}
use Rattle.tables.specs.RowMajor.{table}
use Rattle.steps.proofs.All.{all-falling}
use Rattle.steps.proofs.Gathering.{gathered_begins, gathered_turns, gathered_all, summed_begins, summed_turns, summed_ends}
use Rattle.passes.proofs.Weights.{some_weights}
use Rattle.pivots.proofs.later_products.Goals as goal

pub loop-q-init : goal.loop-q-init
unfolding of_bits
loop-q-init c = (omega arith, omega arith, summed_begins refl refl, gathered_begins refl)

pub loop-q-preserved : goal.loop-q-preserved
loop-q-preserved c =
    let turn = c.loop-q in
    let place : c.args.r - (turn.q + 1) ≡ c.args.r - suc turn.q = omega arith in
    let size = c.get-x.ensures ∙ ap (table c.args.t.now c.args.k) place in
    let weight = ap (λ j. get_or c.args.weights.now j nan) place in
    (turn.invariant.0, omega arith, summed_turns turn.invariant.2 (ap₂ ◌⊗◌ size weight), gathered_turns turn.invariant.3 (c.result_in_range-step.ensures ∙ product_test _ _ ∙ ap₂ mul_in_range size weight))

pub returns : goal.returns
returns c =
    let hi = c.args.r - suc c.args.k in
    let v = c.loop-q.invariant in
    let row = table c.args.t.now c.args.k in
    rw (some_weights c.args.weights.now (omega arith))
    (rw (sub-zero hi) at (summed_ends v.2 {hi = hi} (omega arith) (omega arith)), gathered_all {hi = hi} v.3 (omega arith) (omega arith) ∙ all-falling (λ j. mul_in_range (row j) (get_or c.args.weights.now j nan)) c.args.r c.args.k)
