-- `file_calls::save` meets its contract. Assumes nothing.
use mir.Syntax.{w64}
use mir.ValLaws.{to_z-of_z}
use Rattle.file.specs.Areas.{saved_area}
use Rattle.file_calls.proofs.FileCalls.{save_call}
use Rattle.file_calls.proofs.save.Goals as goal

-- e is handed over by its bits, which mean e.
pub returns : goal.returns
returns g c =
    let same = to_z-of_z w64 c.args.e c.ranges.e in
    save_call (saved_area g.W.Word.word_of) c.args.reading c.args.n c.args.e c.args.sheet.now c.args.bytes.now (rw same at c.save-saved.ensures.result_value) (rw same at c.save-saved.ensures.area_after) c.hand.ensures
