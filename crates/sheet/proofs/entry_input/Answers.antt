-- `sheet::entry_input` meets its contract. Assumes nothing.
use Rattle.answers.proofs.Outcome.{passed, goes_on, handed_on, in_other_words}
use Rattle.shape.proofs.ShapeQuestions.{shape_passed}
use Rattle.sheet.proofs.InOrder.{entry_in_order}
use Rattle.sheet.proofs.entry_input.Goals as goal

pub new-requires : goal.new-requires
new-requires c = (shape_passed _ _ _ _ _ (passed (rw c.shape.ensures at c.in_ok-ask_entry.ensures))).0

pub returns : goal.returns
returns c = in_other_words (entry_in_order _ _ _ _ _ _) (goes_on (rw c.shape.ensures at c.in_ok-ask_entry.ensures) (rw (c.new.ensures.0, c.new.ensures.1, c.new.ensures.2) at c.ask_numbers.ensures))

pub returns-in_err-ask_entry : goal.returns-in_err-ask_entry
returns-in_err-ask_entry c = in_other_words (entry_in_order _ _ _ _ _ _) (handed_on _ c.from_residual.ensures.1 (rw c.shape.ensures at c.in_err-ask_entry.ensures))
