-- `lines::put_row` meets its contract. The loop's invariant: the lines of the first j entries are written. Assumes nothing.
use Rattle.definitions.specs.Sheet.{place}
use Rattle.definitions.specs.Dwell.{row_lines}
use Rattle.buffer.specs.Pasted.{Written}
use Rattle.lines.proofs.put_row.Given as goal

abbrev pub invariant-loop-j : goal.invariant-loop-j
invariant-loop-j l = Written (row_lines (place l.n l.answer) l.i l.j) l.initial.out l.out
