-- `report::dwell` meets its contract: the text for the bytes that are judged. Assumes nothing.
use native.Mathlib.Omega.{arith}
use Prim.Native.Nat.{suc}
use lib.ListN.{length, length-take}
use Rattle.definitions.specs.File.{longest_file}
use Rattle.report.proofs.Reporting.{same_report, judged_length, dwell_text_lem}
use Rattle.report.proofs.dwell.Goals as goal

pub slice_bounds-answer-end : goal.slice_bounds-answer-end
slice_bounds-answer-end c =
    simp length-take (omega (arith, judged_length (length c.args.input.now) (suc longest_file)))

pub returns : goal.returns
returns c =
    same_report (dwell_text_lem c.args.input.now c.judged-most.ensures) c.answer.ensures
