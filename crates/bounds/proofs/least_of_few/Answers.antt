-- `bounds::least_of_few` meets its contract: at column j the numbers before it are bounded. Assumes nothing.
use native.Mathlib.Omega.{arith}
use Rattle.bounds.proofs.Bounds.{least_turns}
use Rattle.bounds.proofs.least_of_few.Goals as goal

pub loop-j-preserved : goal.loop-j-preserved
loop-j-preserved c = (omega arith, least_turns c.loop-j.invariant.1 c.get-x.ensures c.lower-least.ensures)
