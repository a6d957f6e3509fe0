-- `writing::write` meets its contract: at row i the rows before it are written. Assumes nothing.
use Rattle.tables.specs.RowMajor.{table}
use Rattle.writing.proofs.FilledRows.{FilledRows}
use Rattle.writing.proofs.write.Given as goal

abbrev pub invariant-loop-i : goal.invariant-loop-i
invariant-loop-i l = FilledRows (table l.x) l.n l.initial.answer l.answer l.i
