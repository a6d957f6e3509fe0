-- `pivots::later_sizes` meets its contract: at turn q the last q sizes are added. Assumes nothing.
use Prim.Native.Nat.{suc, ◌+◌, ◌-◌}
use mathlib.Core.Path.{◌≡◌, refl, ap, ◌∙◌}
use native.Mathlib.Omega.{arith}
use lib.Ieee.{of_bits}
use Rattle.tables.specs.RowMajor.{table}
use Rattle.steps.proofs.Gathering.{summed_begins, summed_turns}
use Rattle.pivots.proofs.later_sizes.Goals as goal

pub loop-q-init : goal.loop-q-init
unfolding of_bits
loop-q-init c = (omega arith, omega arith, summed_begins refl refl)

pub loop-q-preserved : goal.loop-q-preserved
loop-q-preserved c =
    let turn = c.loop-q in
    let place : c.args.r - (turn.q + 1) ≡ c.args.r - suc turn.q = omega arith in
    (turn.invariant.0, omega arith, summed_turns turn.invariant.2 (c.get-x.ensures ∙ ap (table c.args.t.now c.args.k) place))
