-- `writing::write_row` meets its contract: at column j the places before it are written. Assumes nothing.
use native.Mathlib.Omega.{arith}
use Rattle.writing.proofs.FilledRows.{filled_begins, filled_turns}
use Rattle.writing.proofs.write_row.Goals as goal

pub loop-j-init : goal.loop-j-init
loop-j-init c = filled_begins

pub loop-j-preserved : goal.loop-j-preserved
loop-j-preserved c = filled_turns c.loop-j.invariant (omega arith) c.get.ensures
