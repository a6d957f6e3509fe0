-- `writing::write_column` meets its contract: at row i the places before it are written. Assumes nothing.
use native.Mathlib.Omega.{arith}
use Rattle.writing.proofs.FilledRows.{filled_begins, filled_turns}
use Rattle.writing.proofs.write_column.Goals as goal

pub loop-i-init : goal.loop-i-init
loop-i-init c = filled_begins

pub loop-i-preserved : goal.loop-i-preserved
loop-i-preserved c = filled_turns c.loop-i.invariant (omega arith) c.get.ensures
