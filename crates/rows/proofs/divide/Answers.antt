-- `rows::divide` meets its contract: at column j the columns before it are done and tested. Assumes nothing.
use mathlib.Core.Path.{refl, ◌∙◌}
use native.Mathlib.Omega.{arith}
use borrow.Author.Rules.{rules}
use Rattle.rounding.proofs.ResultRange.{quotient_test}
use Rattle.tables.specs.RowMajor.{table}
use Rattle.steps.proofs.Gathering.{gathered_begins, gathered_turns}
use Rattle.tables.proofs.Loops.{along_begins, along_due, along_turns}
use Rattle.tables.proofs.Rows.{over_is, over_test}
use Rattle.rows.proofs.divide.Goals as goal

pub loop-j-init : goal.loop-j-init
loop-j-init c = (search rules, along_begins refl c.told-a, gathered_begins refl)

pub loop-j-preserved : goal.loop-j-preserved
loop-j-preserved c =
    let h = c.loop-j.invariant.1 in
    let j = c.loop-j.j in
    let own = table c.args.a.now c.args.i in
    let x = c.get-x.ensures ∙ along_due h in
    (omega arith, along_turns h c.put.ensures (over_is j own x c.args.p), gathered_turns c.loop-j.invariant.2 (over_test j own x c.args.p (c.result_in_range-step.ensures ∙ quotient_test c.get-x.result c.args.p)))
