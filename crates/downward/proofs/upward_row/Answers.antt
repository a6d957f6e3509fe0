-- `downward::upward_row` meets its contract: at column k the columns before it are done. Assumes nothing.
use mathlib.Core.Path.{◌∙◌}
use native.Mathlib.Numerals.{add-one}
use native.Mathlib.Omega.{arith}
use borrow.Author.Rules.{rules}
use Rattle.rounding.proofs.ResultRange.{quotient_test}
use Rattle.tables.specs.RowMajor.{table}
use Rattle.passes.specs.Stages.{upward_row_in_range}
use Rattle.steps.proofs.Gathering.{gathered_begins, gathered_turns, gathered_ends}
use Rattle.tables.proofs.Loops.{along_begins, along_due, along_turns, along_ends}
use Rattle.downward.proofs.Downward.{over-pivot, over-pivot_test}
use Rattle.downward.proofs.upward_row.Goals as goal

pub loop-k-init : goal.loop-k-init
loop-k-init c = (search rules, along_begins (add-one c.args.i) c.told-t, gathered_begins (add-one c.args.i))

pub loop-k-preserved : goal.loop-k-preserved
loop-k-preserved c =
    let h = c.loop-k.invariant.1 in
    let f = table c.args.t.now in
    let a = c.get-x.ensures ∙ along_due h in
    let b = c.get-y.ensures ∙ c.requires.2 c.loop-k.k h.from (omega arith) in (
      omega arith,
      along_turns h c.put.ensures (over-pivot f c.args.i c.loop-k.k a b),
      gathered_turns c.loop-k.invariant.2 (over-pivot_test f c.args.i c.loop-k.k a b (c.result_in_range-step.ensures ∙ quotient_test c.get-x.result c.get-y.result)),
    )

pub returns : goal.returns
unfolding upward_row_in_range
returns c =
    let h = c.loop-k.invariant in
    record { range = gathered_ends h.2 (omega arith) (omega arith); holds = along_ends h.1 (omega arith) (omega arith) }
