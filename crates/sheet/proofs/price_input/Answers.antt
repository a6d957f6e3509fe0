-- `sheet::price_input` meets its contract. Assumes nothing.
use Rattle.definitions.specs.Prices.{price_input}
use Rattle.answers.proofs.Outcome.{passed, goes_on, handed_on}
use Rattle.shape.proofs.ShapeQuestions.{price_square}
use Rattle.sheet.proofs.price_input.Goals as goal

pub returns : goal.returns
unfolding price_input
returns c = goes_on (rw c.shape.ensures at c.in_ok-ask_prices.ensures) (rw (c.new.ensures.0, c.new.ensures.1, c.new.ensures.2) at c.ask_numbers.ensures)

pub new-requires : goal.new-requires
new-requires c = price_square _ _ _ _ _ _ (passed (rw c.shape.ensures at c.in_ok-ask_prices.ensures))

pub returns-in_err-ask_prices : goal.returns-in_err-ask_prices
unfolding price_input
returns-in_err-ask_prices c = handed_on _ c.from_residual.ensures.1 (rw c.shape.ensures at c.in_err-ask_prices.ensures)
