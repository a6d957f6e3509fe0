-- `price_planner::steps` meets its contract. Assumes nothing.
use borrow.Author.Tests.{not-true, not-false}
use Rattle.rounding.proofs.Words.{zero_word}
use Rattle.tables.proofs.Vectors.{new_table}
use Rattle.price_planner.proofs.SamePrices.{table_fails, prices_stepped}
use mathlib.Core.Path.{ap}
use mathlib.Core.Bool.{not}
use Rattle.price_planner.proofs.steps.Goals as goal

pub returns-then-not-steps : goal.returns-then-not-steps
returns-then-not-steps c =
    table_fails _ _ _ _ c.steps.ensures (not-true c.steps.result (ap not c.if-not-steps.true)) c.told-p

pub returns : goal.returns
returns c =
    prices_stepped _ _ _ _ c.steps.ensures (not-false c.steps.result (ap not c.if-not-steps.false)) c.request_prices.ensures

pub steps-requires : goal.steps-requires
steps-requires c = new_table zero_word
