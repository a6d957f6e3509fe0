-- `prices::products_in_range` meets its contract: at column j the products before it are tested. Assumes nothing.
use mathlib.Core.Path.{refl, ◌∙◌}
use native.Mathlib.Omega.{arith}
use borrow.Author.Rules.{rules}
use Rattle.definitions.specs.Prices.{unit_price}
use Rattle.rounding.proofs.ResultRange.{product_test}
use Rattle.steps.proofs.Gathering.{gathered_begins, gathered_turns}
use Rattle.prices.proofs.products_in_range.Goals as goal

pub loop-j-preserved : goal.loop-j-preserved
unfolding unit_price
loop-j-preserved c =
    let l = c.loop-j in
    (omega arith, gathered_turns l.invariant.1 (c.result_in_range-step.ensures ∙ product_test c.get-entry.result _ ∙ rw c.get-entry.ensures))

pub loop-j-init : goal.loop-j-init
loop-j-init c = (search rules, gathered_begins refl)
