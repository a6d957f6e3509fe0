-- `planner::whole_table` meets its contract. Assumes nothing.
use Rattle.answers.proofs.Outcome.{is_refusal, passed, refused}
use Rattle.planner.proofs.Endings.{table_refused}
use Rattle.planner.proofs.whole_table.Goals as goal

pub returns-in_err-table_input : goal.returns-in_err-table_input
returns-in_err-table_input c =
    table_refused c.args.sheet.reading c.args.sheet.n c.args.sheet.e c.args.sheet.numbers.now c.args.answer.now (is_refusal c.from_residual.ensures.1)
    (refused c.in_err-table_input.ensures)

pub table_of_sheet-requires : goal.table_of_sheet-requires
table_of_sheet-requires c = passed c.in_ok-table_input.ensures
