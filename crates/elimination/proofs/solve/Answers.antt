-- `elimination::solve` meets its contract. Assumes nothing.
use borrow.Author.Tests.{not-true, not-false}
use Rattle.tables.specs.RowMajor.{table}
use Rattle.passes.specs.Weights.{weights_in}
use Rattle.elimination.proofs.Quotients.{out_of_range, pass_starts, solved-table}
use mathlib.Core.Path.{ap}
use mathlib.Core.Bool.{not}
use Rattle.elimination.proofs.solve.Goals as goal

pub returns-then-not-shared : goal.returns-then-not-shared
returns-then-not-shared c =
    out_of_range (weights_in c.args.weights.now) c.args.r (table c.args.t.now) c.shared.ensures (not-true c.shared.result (ap not c.if-not-shared.true)) c.requires.2.long

pub pass-down-requires : goal.pass-down-requires
pass-down-requires c =
    (c.requires.0, pass_starts (weights_in c.args.weights.now) c.args.r (table c.args.t.now) c.shared.ensures (not-false c.shared.result (ap not c.if-not-shared.false)) (table c.args.b.now) c.identity.ensures)

pub returns : goal.returns
returns c =
    solved-table (weights_in c.args.weights.now) c.args.r (table c.args.t.now) c.shared.ensures (not-false c.shared.result (ap not c.if-not-shared.false)) (table c.args.b.now) c.identity.ensures c.pass-down.ensures c.pass-up.ensures c.quotients-last.ensures
