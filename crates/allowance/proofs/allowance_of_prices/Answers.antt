-- `allowance::allowance_of_prices` meets its contract. Assumes nothing.
use native.Mathlib.Omega.{arith}
use Rattle.definitions.specs.Prices.{price_allowance}
use Rattle.allowance.proofs.Cubes.{allowance_small}
use Rattle.allowance.proofs.allowance_of_prices.Goals as goal

pub returns : goal.returns
unfolding price_allowance
returns c = rw c.allowance_of.ensures

pub overflow_add-result : goal.overflow_add-result
overflow_add-result c = omega (arith, c.allowance_of.ensures, allowance_small c.args.reading c.requires, c.requires)
