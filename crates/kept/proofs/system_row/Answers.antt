-- `kept::system_row` meets its contract. Assumes nothing.
use Rattle.tables.specs.RowMajor.{table}
use Rattle.tables.specs.Vectors.{vector}
use Rattle.kept.proofs.ScaledRows.{row_scaled}
use Rattle.kept.proofs.system_row.Goals as goal

pub returns : goal.returns
returns c =
    row_scaled c.args.n c.args.stages.now.count c.args.stages.now.places (table c.args.t.now) (vector c.args.k.now) (vector c.args.w.now) (table c.args.s.now) c.args.p c.stage-i.result c.stage-i.ensures c.scale_row-sizes.ensures c.dot-rate.ensures c.put.ensures c.is_finite-finite.ensures
