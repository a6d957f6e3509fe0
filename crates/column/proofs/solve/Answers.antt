-- `column::solve` meets its contract. Assumes nothing.
use borrow.Author.Tests.{not-true, not-false}
use Rattle.tables.specs.RowMajor.{table}
use Rattle.passes.specs.Weights.{weights_in}
use Rattle.column.proofs.ColumnSolved.{out_of_range, column-solved}
use mathlib.Core.Path.{ap}
use mathlib.Core.Bool.{not}
use Rattle.column.proofs.solve.Goals as goal

pub returns-then-not-shared : goal.returns-then-not-shared
unfolding weights_in
returns-then-not-shared c =
    out_of_range c.args.r c.args.j (table c.args.t.now) c.shared.ensures (not-true c.shared.result (ap not c.if-not-shared.true)) c.requires.2.long

pub returns : goal.returns
unfolding weights_in
returns c =
    column-solved c.args.r c.args.j (table c.args.t.now) c.shared.ensures (not-false c.shared.result (ap not c.if-not-shared.false)) c.identity.ensures c.downward_steps-down.ensures c.upward_steps-up.ensures c.quotients-last.ensures
