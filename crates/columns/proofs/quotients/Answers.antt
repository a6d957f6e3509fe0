-- `columns::quotients` meets its contract: at row i the rows before it are divided and tested. Assumes nothing.
use mathlib.Core.Path.{refl, ◌∙◌}
use native.Mathlib.Nat.{le_refl}
use native.Mathlib.Omega.{arith}
use borrow.Author.Rules.{rules}
use Rattle.tables.specs.RowMajor.{table}
use Rattle.tables.specs.Operators.{between, span}
use Rattle.tables.specs.Rows.{over}
use Rattle.passes.specs.RowPass.{divided_rows, quotients_in_range}
use Rattle.steps.proofs.Gathering.{gathered_begins, gathered_turns, gathered_all}
use Rattle.tables.proofs.Loops.{down_begins, down_due, down_turns, down_ends}
use Rattle.tables.proofs.Rows.{row-over_same}
use Rattle.columns.proofs.quotients.Goals as goal

pub loop-i-init : goal.loop-i-init
loop-i-init c = (search rules, down_begins refl c.told-b, gathered_begins refl)

pub loop-i-preserved : goal.loop-i-preserved
unfolding span
loop-i-preserved c =
    let r = c.args.r in
    let i = c.loop-i.i in
    let f = table c.loop-i.b in
    let h = c.loop-i.invariant.1 in
    let p = c.get-p.ensures in
    let own = down_due h i (le_refl i) in
    (omega arith, down_turns h {row = between 0 r (over c.get-p.result (f i)) (f i)} c.divide-row.ensures.holds (row-over_same r p own), gathered_turns c.loop-i.invariant.2 (c.divide-row.ensures.range ∙ rw (p, own)))

pub returns : goal.returns
unfolding divided_rows quotients_in_range
returns c =
    let l = c.loop-i in
    record { range = gathered_all l.invariant.2 (omega arith) (omega arith); holds = down_ends l.invariant.1 (omega arith) (omega arith) }
