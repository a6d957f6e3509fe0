-- `downward::upward_rows` meets its contract: at row i the rows before it are done. Assumes nothing.
use mathlib.Core.Path.{refl, ◌∙◌}
use native.Mathlib.Omega.{arith}
use borrow.Author.Rules.{rules}
use Rattle.tables.specs.RowMajor.{table}
use Rattle.tables.specs.Operators.{span}
use Rattle.passes.specs.Stages.{upward_rows}
use Rattle.downward.proofs.Downward.{pivots_due, upward_same, upward_test_same}
use Rattle.steps.proofs.Gathering.{gathered_begins, gathered_turns, gathered_all}
use Rattle.tables.proofs.Loops.{down_begins, down_due, down_turns, down_ends}
use Rattle.downward.proofs.upward_rows.Goals as goal

pub loop-i-init : goal.loop-i-init
loop-i-init c = (search rules, down_begins refl c.told-t, gathered_begins refl)

pub upward_row-row-requires : goal.upward_row-row-requires
upward_row-row-requires c =
    let p = c.pivots.ensures in
    let h = c.loop-i.invariant.1 in
    (omega arith, c.requires, pivots_due c.args.r c.loop-i.i (table c.loop-i.t) (table c.args.t.now) (down_due h) _ p)

pub loop-i-preserved : goal.loop-i-preserved
unfolding span
loop-i-preserved c =
    let h = c.loop-i.invariant.1 in
    let g = c.upward_row-row.ensures in
    let f = table c.loop-i.t in (
      omega arith,
      down_turns h g.holds (upward_same c.args.r c.loop-i.i f (table c.args.t.now) (down_due h)),
      gathered_turns c.loop-i.invariant.2 (g.range ∙ upward_test_same c.args.r c.loop-i.i f (table c.args.t.now) (down_due h)),
    )

pub returns : goal.returns
unfolding upward_rows
returns c =
    let h = c.loop-i.invariant in
    record { range = gathered_all h.2 (omega arith) (omega arith); holds = down_ends h.1 (omega arith) (omega arith) }
