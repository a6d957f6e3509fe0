-- `lines::put_table` meets its contract. The loop's invariant: the first i rows are written. Assumes nothing.
use Rattle.definitions.specs.Sheet.{place}
use Rattle.definitions.specs.Dwell.{table_lines}
use Rattle.buffer.specs.Pasted.{Written}
use Rattle.lines.proofs.put_table.Given as goal

abbrev pub invariant-loop-i : goal.invariant-loop-i
invariant-loop-i l = Written (table_lines (place l.n l.answer) l.n l.i) l.initial.out l.out
