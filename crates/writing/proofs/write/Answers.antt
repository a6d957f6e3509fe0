-- `writing::write` meets its contract: at row i the rows before it are written. Assumes nothing.
use Rattle.writing.proofs.FilledRows.{rows_begin, rows-turn}
use Rattle.writing.proofs.write.Goals as goal

pub loop-i-init : goal.loop-i-init
loop-i-init c = rows_begin

pub loop-i-preserved : goal.loop-i-preserved
loop-i-preserved c = rows-turn c.loop-i.invariant c.loop-i-test.true c.requires.1 c.write_row.ensures
