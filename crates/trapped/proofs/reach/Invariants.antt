-- `trapped::reach` meets its contract. Assumes nothing.
use Rattle.trapped.proofs.Reaching.{to_do, Reached}
use Rattle.trapped.proofs.reach.Given as goal

abbrev pub invariant-loop-marks : goal.invariant-loop-marks
invariant-loop-marks l = Reached l.sheet.n l.sheet.numbers.now l.marks l.done

abbrev pub decreases-loop-marks : goal.decreases-loop-marks
decreases-loop-marks l = to_do l.sheet.n l.done
