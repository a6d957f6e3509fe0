-- `price_planner::ask` meets its contract. Assumes nothing.
use Rattle.answers.proofs.Outcome.{passed, handed_on, goes_on}
use Rattle.shape.proofs.ShapeQuestions.{price_input-passed}
use Rattle.price_planner.proofs.ask.Goals as goal

pub returns-in_err-price_input : goal.returns-in_err-price_input
returns-in_err-price_input c = handed_on _ c.from_residual.ensures.1 c.in_err-price_input.ensures

-- There are n prices.
pub returns : goal.returns
returns c =
    let few = price_input-passed _ _ _ _ _ _ (passed c.in_ok-price_input.ensures) in
    goes_on c.in_ok-price_input.ensures (rw few.2 at c.ask_prices.ensures)
