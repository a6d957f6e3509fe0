-- `downward::shared` meets its contract. Assumes nothing.
use Rattle.tables.specs.RowMajor.{table}
use Rattle.passes.specs.Weights.{weights_in}
use Rattle.downward.proofs.Downward.{shared-table}
use Rattle.downward.proofs.shared.Goals as goal

pub returns : goal.returns
returns c =
    shared-table (weights_in c.args.weights.now) c.args.r (table c.args.t.now) c.stages-down.ensures c.upward_rows-up.ensures
