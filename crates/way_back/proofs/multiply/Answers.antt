-- `way_back::multiply` meets its contract: at column q the columns before it are done and tested. Assumes nothing.
use mathlib.Core.Path.{refl, ap, ◌∙◌}
use native.Mathlib.Omega.{arith}
use borrow.Author.Rules.{rules}
use Rattle.definitions.specs.Numbers.{◌⊗◌}
use Rattle.rounding.proofs.ResultRange.{product_test}
use Rattle.steps.proofs.Gathering.{gathered_begins, gathered_turns}
use Rattle.tables.specs.RowMajor.{table}
use Rattle.tables.proofs.Loops.{along_begins, along_due, along_turns}
use Rattle.tables.proofs.Rows.{times_test}
use Rattle.way_back.specs.WayBack.{multiple}
use Rattle.way_back.proofs.multiply.Goals as goal

pub loop-q-preserved : goal.loop-q-preserved
unfolding multiple
loop-q-preserved c =
    let h = c.loop-q.invariant.1 in
    let x = c.get-x.ensures ∙ along_due h in
    (omega arith, along_turns h c.put.ensures (ap (λ z. c.args.m ⊗ z) x), gathered_turns c.loop-q.invariant.2 (times_test c.loop-q.q (table c.args.y.now c.args.p) x c.args.m (c.result_in_range-step.ensures ∙ product_test c.args.m c.get-x.result)))

pub loop-q-init : goal.loop-q-init
loop-q-init c = (search rules, along_begins refl c.told-y, gathered_begins refl)
