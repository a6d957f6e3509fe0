-- `prices::in_range` meets its contract: at stage i the stages before it are tested. Assumes nothing.
use mathlib.Core.Path.{refl, ◌∙◌}
use native.Mathlib.Omega.{arith}
use borrow.Author.Rules.{rules}
use Rattle.definitions.specs.Prices.{unit_price}
use Rattle.steps.proofs.Gathering.{gathered_begins, gathered_turns}
use Rattle.tables.specs.RowMajor.{table}
use Rattle.prices.proofs.PriceTests.{price_test}
use Rattle.prices.proofs.in_range.Goals as goal

pub loop-i-preserved : goal.loop-i-preserved
loop-i-preserved c = (
  omega arith,
  gathered_turns c.loop-i.invariant.1
      (price_test c.args.n (table c.args.x.now) (unit_price c.args.prices.now) c.loop-i.i c.products_in_range-products.ensures c.is_finite-finite.ensures
      (c.get.ensures ∙ c.requires.2.price c.loop-i.i c.loop-i-test.true)),
)

pub loop-i-init : goal.loop-i-init
loop-i-init c = (search rules, gathered_begins refl)
