-- `bounds::least_of_fours` meets its contract: at turn g four times g numbers are bounded. Assumes nothing.
use Prim.Native.Nat.{◌+◌, ◌*◌, ◌-◌, ◌≤◌}
use Rattle.tables.specs.RowMajor.{table}
use Rattle.bounds.proofs.Fours.{FourLeast}
use Rattle.bounds.proofs.least_of_fours.Given as goal

abbrev pub invariant-loop-g : goal.invariant-loop-g
invariant-loop-g l = (l.g ≤ l.count) × FourLeast l.lo (table l.a l.k) l.from (l.from + 4 * l.g) l.four.a l.four.b l.four.c l.four.d

abbrev pub decreases-loop-g : goal.decreases-loop-g
decreases-loop-g l = l.count - l.g
