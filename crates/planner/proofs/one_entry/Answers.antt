-- `planner::one_entry` meets its contract. Assumes nothing.
use Rattle.answers.proofs.Outcome.{is_refusal, passed, refused}
use Rattle.planner.proofs.Endings.{entry_refused}
use Rattle.planner.proofs.one_entry.Goals as goal

pub returns-in_err-entry_input : goal.returns-in_err-entry_input
returns-in_err-entry_input c =
    entry_refused c.args.sheet.reading c.args.sheet.n c.args.sheet.e c.args.sheet.numbers.now c.args.i c.args.j (is_refusal c.from_residual.ensures.1)
    (refused c.in_err-entry_input.ensures)

pub entry_of_sheet-requires : goal.entry_of_sheet-requires
entry_of_sheet-requires c = passed c.in_ok-entry_input.ensures
