-- `writing::write_row` meets its contract: at column j the places before it are written. Assumes nothing.
use Rattle.tables.specs.RowMajor.{table}
use Rattle.writing.proofs.FilledRows.{Filled}
use Rattle.writing.proofs.write_row.Given as goal

abbrev pub invariant-loop-j : goal.invariant-loop-j
invariant-loop-j l = Filled (table l.x l.i) l.initial.part l.part l.j
