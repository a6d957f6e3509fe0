-- `file::read` meets its contract: a sheet's numbers are written, and a refusal leaves the area as it was. Assumes nothing.
use mathlib.Core.List.{map}
use lib.ListN.{length}
use Rattle.definitions.specs.File.{file_words}
use Rattle.file.specs.Areas.{file_area}
use Rattle.file.proofs.Reading.{to_fill, sheet_read, refusal_read}
use Rattle.file.proofs.read.Goals as goal

pub fill-requires : goal.fill-requires
fill-requires g c = to_fill c.args.bytes.now (length c.args.area.now) c.in_ok-head.ensures

pub returns-clause-area_after : goal.returns-clause-area_after
unfolding file_area
returns-clause-area_after g c =
    sheet_read c.args.bytes.now (length c.args.area.now) c.in_ok-head.ensures (map g.W.Word.of_word (file_words c.args.bytes.now)) c.args.area.now c.fill.ensures

pub returns-in_err-head-clause-area_after : goal.returns-in_err-head-clause-area_after
unfolding file_area
returns-in_err-head-clause-area_after g c =
    refusal_read c.args.bytes.now (length c.args.area.now) _ (map g.W.Word.of_word (file_words c.args.bytes.now)) c.args.area.now c.in_err-head.ensures
