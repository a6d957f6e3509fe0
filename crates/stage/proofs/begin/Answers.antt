-- `stage::begin` meets its contract. Assumes nothing.
use native.Mathlib.Omega.{arith}
use lib.Ieee.{of_bits}
use Rattle.tables.specs.RowMajor.{table}
use Rattle.passes.specs.Weights.{weights_in}
use Rattle.bounds.proofs.Bounds.{bound-one}
use Rattle.stage.proofs.StageSteps.{stage_begins}
use Rattle.stage.proofs.begin.Goals as goal

pub least-lo-requires : goal.least-lo-requires
unfolding of_bits
least-lo-requires c =
    let p = c.requires in
    (omega arith, omega arith, p.1, bound-one)

pub returns : goal.returns
returns c =
    stage_begins (weights_in c.args.weights.now) c.args.r c.args.k (table c.args.t.now) c.begin-pivot.ensures.0 c.begin-pivot.ensures.1 c.multipliers-rows.ensures.0 c.multipliers-rows.ensures.1
