-- `ranges::products_in_range` meets its contract: at column j the columns from lo before it are tested. Assumes nothing.
use mathlib.Core.Path.{refl, ◌∙◌}
use native.Mathlib.Omega.{arith}
use borrow.Author.Rules.{rules}
use Rattle.rounding.proofs.ResultRange.{product_test}
use Rattle.tables.specs.RowMajor.{table}
use Rattle.steps.proofs.Gathering.{gathered_begins, gathered_turns}
use Rattle.tables.proofs.Rows.{times_test}
use Rattle.ranges.proofs.products_in_range.Goals as goal

pub loop-j-preserved : goal.loop-j-preserved
loop-j-preserved c =
    (omega arith, gathered_turns c.loop-j.invariant.1 (times_test c.loop-j.j (table c.args.a.now c.args.k) c.get-y.ensures c.args.m (c.result_in_range-step.ensures ∙ product_test c.args.m c.get-y.result)))

pub loop-j-init : goal.loop-j-init
loop-j-init c = (search rules, gathered_begins refl)
