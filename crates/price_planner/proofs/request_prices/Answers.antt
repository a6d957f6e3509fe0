-- `price_planner::request_prices` meets its contract. Assumes nothing.
use Rattle.answers.proofs.Outcome.{is_refusal, passed, refused}
use Rattle.price_planner.proofs.Endings.{prices_refused}
use Rattle.price_planner.proofs.request_prices.Goals as goal

pub returns-in_err-ask : goal.returns-in_err-ask
returns-in_err-ask c =
    prices_refused c.args.sheet.reading c.args.sheet.n c.args.sheet.e c.args.sheet.numbers.now c.args.prices.now c.args.answer.now (is_refusal c.from_residual.ensures.1)
    (refused c.in_err-ask.ensures)

pub prices_of_sheet-requires : goal.prices_of_sheet-requires
prices_of_sheet-requires c = passed c.in_ok-ask.ensures
