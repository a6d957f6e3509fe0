-- `bounds::least_of_fours` meets its contract: at turn g four times g numbers are bounded. Assumes nothing.
use native.Mathlib.Omega.{arith}
use Rattle.bounds.proofs.Fours.{four_turns, four_ends}
use Rattle.bounds.proofs.least_of_fours.Goals as goal

pub loop-g-preserved : goal.loop-g-preserved
loop-g-preserved c = (omega arith, four_turns c.loop-g.invariant.1 (omega arith) c.lower_four-four.ensures)

pub returns : goal.returns
returns c = four_ends c.loop-g.invariant.1 (omega arith) c.smaller.ensures c.smaller-2.ensures c.smaller-3.ensures
