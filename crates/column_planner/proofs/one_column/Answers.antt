-- `column_planner::one_column` meets its contract. Assumes nothing.
use Rattle.answers.proofs.Outcome.{is_refusal, passed, refused}
use Rattle.column_planner.proofs.Endings.{column_refused}
use Rattle.column_planner.proofs.one_column.Goals as goal

pub returns-in_err-column_input : goal.returns-in_err-column_input
returns-in_err-column_input c =
    column_refused c.args.sheet.reading c.args.sheet.n c.args.sheet.e c.args.sheet.numbers.now c.args.stage c.args.answer.now (is_refusal c.from_residual.ensures.1)
    (refused c.in_err-column_input.ensures)

pub column_of_sheet-requires : goal.column_of_sheet-requires
column_of_sheet-requires c = passed c.in_ok-column_input.ensures
