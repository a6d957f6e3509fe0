-- `file::save` meets its contract. Assumes nothing.
use mir.Syntax.{w64}
use mir.ValLaws.{to_z-of_z}
use Rattle.answers.proofs.Outcome.{is_refusal}
use Rattle.file.proofs.SaveAnswers.{not_saved, kept, to_save, saved, saved_bytes}
use Rattle.file.proofs.save.Goals as goal

-- e is handed over by its bits, which mean e.
pub returns-in_err-ask_save-clause-result_value : goal.returns-in_err-ask_save-clause-result_value
returns-in_err-ask_save-clause-result_value g c =
    not_saved g.W.Word.word_of c.args.reading c.args.n c.args.e c.args.sheet.now c.args.area.now (rw (to_z-of_z w64 c.args.e c.ranges.e) at c.in_err-ask_save.ensures) (is_refusal c.from_residual.ensures.1)

pub returns-in_err-ask_save-clause-area_after : goal.returns-in_err-ask_save-clause-area_after
returns-in_err-ask_save-clause-area_after g c =
    kept g.W.Word.word_of c.args.reading c.args.n c.args.e c.args.sheet.now c.args.area.now (rw (to_z-of_z w64 c.args.e c.ranges.e) at c.in_err-ask_save.ensures)

pub put_sheet-requires : goal.put_sheet-requires
put_sheet-requires g c =
    rw (to_z-of_z w64 c.args.e c.ranges.e)
    (to_save g.W.Word.word_of c.args.reading c.args.n c.args.e c.args.sheet.now c.args.area.now (rw (to_z-of_z w64 c.args.e c.ranges.e) at c.in_ok-ask_save.ensures))

pub returns-clause-result_value : goal.returns-clause-result_value
returns-clause-result_value g c =
    saved g.W.Word.word_of c.args.reading c.args.n c.args.e c.args.sheet.now c.args.area.now (rw (to_z-of_z w64 c.args.e c.ranges.e) at c.in_ok-ask_save.ensures) (rw (to_z-of_z w64 c.args.e c.ranges.e) at c.put_sheet.ensures)

pub returns-clause-area_after : goal.returns-clause-area_after
returns-clause-area_after g c =
    saved_bytes g.W.Word.word_of c.args.reading c.args.n c.args.e c.args.sheet.now c.args.area.now (rw (to_z-of_z w64 c.args.e c.ranges.e) at c.in_ok-ask_save.ensures) (rw (to_z-of_z w64 c.args.e c.ranges.e) at c.put_sheet.ensures)
