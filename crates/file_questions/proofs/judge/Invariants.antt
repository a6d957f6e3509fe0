-- `file_questions::judge` meets its contract. The loop's invariant: all before the record due is good, and the questions left are those from that record on. Assumes nothing.
use Prim.Native.Nat.{◌+◌}
use Rattle.file_questions.proofs.Judging.{Judged}
use Rattle.file_questions.proofs.judge.Given as goal

abbrev pub invariant-loop-row : goal.invariant-loop-row
invariant-loop-row l = Judged l.bytes l.room l.reading l.n l.rows l.at (l.row + 1)
