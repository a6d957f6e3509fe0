-- `shares::shares` meets its contract: at stage j the stages before it are done and tested. Assumes nothing.
use mathlib.Core.Path.{ap₂, ◌∙◌}
use native.Mathlib.Omega.{arith}
use borrow.Author.Rules.{rules}
use Rattle.definitions.specs.Numbers.{◌⊘◌, div_in_range}
use Rattle.rounding.proofs.ResultRange.{quotient_test}
use Rattle.compact.specs.Listing.{marked}
use Rattle.shares.proofs.Sharing.{above_none, above_turns, shares_begin, shares_turn}
use Rattle.shares.proofs.shares.Goals as goal

pub loop-j-preserved : goal.loop-j-preserved
loop-j-preserved c = (
  omega arith,
  shares_turn (marked c.args.kept.now) c.loop-j.invariant.1 c.loop-j.invariant.2 (c.result_in_range-step.ensures ∙ quotient_test c.get-x.result c.get-y.result ∙ ap₂ div_in_range c.get-x.ensures c.get-y.ensures) (ap₂ ◌⊘◌ c.get-x.ensures c.get-y.ensures) c.put.ensures,
  above_turns (marked c.args.kept.now) c.loop-j.j c.loop-j.invariant.2,
)

pub loop-j-init : goal.loop-j-init
loop-j-init c = (search rules, shares_begin (marked c.args.kept.now) c.told-w, above_none (marked c.args.kept.now))
