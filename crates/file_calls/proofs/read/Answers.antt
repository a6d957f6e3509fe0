-- `file_calls::read` meets its contract. Assumes nothing.
use Rattle.file.specs.Areas.{file_area}
use Rattle.file_calls.proofs.FileCalls.{file_call}
use Rattle.file_calls.proofs.read.Goals as goal

pub returns : goal.returns
returns g c =
    file_call (file_area g.W.Word.of_word) c.args.bytes.now c.args.area.now c.read-head.ensures.result_value c.read-head.ensures.area_after c.hand_head.ensures
