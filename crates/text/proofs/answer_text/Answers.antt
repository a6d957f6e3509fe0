-- `text::answer_text` meets its contract: the answer, case by case. Assumes nothing.
use mir.Syntax.{w64}
use mir.ValLaws.{to_z-of_z}
use Rattle.text.specs.AnswerText.{answer_text}
use Rattle.text.proofs.answer_text.Goals as goal

-- e is handed over by its bits, which mean e.
pub returns-in-Ok : goal.returns-in-Ok
unfolding answer_text
returns-in-Ok c =
    rw c.in-Ok.is (rw (to_z-of_z w64 c.args.e c.ranges.e) at c.seconds_text.ensures)

pub returns-in-Err : goal.returns-in-Err
unfolding answer_text
returns-in-Err c = rw c.in-Err.is (rw c.into.ensures at c.refused_text.ensures)
