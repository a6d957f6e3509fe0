-- `prices::ask_prices` meets its contract: every price before j is good. Assumes nothing.
use mathlib.Core.Path.{◌∙◌}
use mathlib.Core.Bool.{Bool}
use mathlib.Core.List.{List}
use Prim.Native.Nat.{ℕ}
use lib.Ieee.{Float}
use Rattle.exact.proofs.Bools.{denied, granted}
use Rattle.definitions.specs.Prices.{unit_price, good_price, question19}
use Rattle.answers.proofs.Outcome.{all_pass, no}
use Rattle.steps.proofs.Searches.{all-stages, good-stage, bad_stage, no_stage}
use mathlib.Core.Path.{ap}
use mathlib.Core.Bool.{not}
use Rattle.prices.proofs.ask_prices.Goals as goal

abbrev good : List Float → ℕ → Bool
good prices j = good_price (unit_price prices j)

pub loop-j-init : goal.loop-j-init
unfolding question19
loop-j-init c = all-stages _ _ _

pub returns-then-not-good_price : goal.returns-then-not-good_price
unfolding unit_price
returns-then-not-good_price c =
    no (c.loop-j.invariant ∙ bad_stage _ _ _ _ c.loop-j-test.true (denied _ _ c.good_price.ensures (ap not c.if-not-good_price.true)))

pub loop-j-preserved : goal.loop-j-preserved
unfolding unit_price
loop-j-preserved c =
    c.loop-j.invariant ∙ good-stage _ _ _ _ c.loop-j-test.true (granted _ _ c.good_price.ensures (ap not c.if-not-good_price.false))

pub returns : goal.returns
returns c = all_pass (c.loop-j.invariant ∙ no_stage _ _ _ _ c.loop-j-test.false)
