-- `stage::last` meets its contract. Assumes nothing.
use Rattle.tables.specs.RowMajor.{table}
use Rattle.passes.specs.Weights.{weights_in}
use Rattle.passes.proofs.PairStages.{last-stage}
use Rattle.stage.proofs.last.Goals as goal

pub returns : goal.returns
returns c =
    last-stage (weights_in c.args.weights.now) c.args.r c.args.k (table c.args.t.now) c.requires.0 c.begin-pivot.ensures.0 c.put.ensures c.begin-pivot.ensures.1
