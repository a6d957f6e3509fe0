-- `joins::join_stage` meets its contract. Assumes nothing.
use native.Mathlib.Omega.{arith}
use Rattle.tables.specs.RowMajor.{table}
use Rattle.tables.specs.Vectors.{vector}
use Rattle.compact.specs.Listing.{marked}
use Rattle.joins.proofs.ColumnSteps.{due_passes, due_joins}
use Rattle.joins.proofs.join_stage.Goals as goal

pub returns-then-kept-c : goal.returns-then-kept-c
returns-then-kept-c c =
    due_passes c.args.n (table c.args.t.now) (vector c.args.a.now) (marked c.args.kept.now) c.args.q _ c.told-x (omega arith) c.if-kept-c.true

pub returns : goal.returns
returns c =
    due_joins c.args.n (table c.args.t.now) (vector c.args.a.now) (marked c.args.kept.now) c.args.q _ (table c.args.x.now) (omega arith) c.if-kept-c.false c.join.ensures
