-- `writing::write_column` meets its contract: at row i the places before it are written. Assumes nothing.
use Rattle.tables.specs.Vectors.{vector}
use Rattle.writing.proofs.FilledRows.{Filled}
use Rattle.writing.proofs.write_column.Given as goal

abbrev pub invariant-loop-i : goal.invariant-loop-i
invariant-loop-i l = Filled (vector l.b) l.initial.place-items l.place-items l.i
