-- `moving::copy` meets its contract. The loop's invariant: the first weights are written. Assumes nothing.
use lib.ListN.{length}
use Rattle.steps.proofs.Filling.{Filling}
use Rattle.moving.proofs.copy.Given as goal

abbrev pub invariant-loop-i : goal.invariant-loop-i
invariant-loop-i l = Filling l.weights l.initial.area l.area (length l.weights) l.i
