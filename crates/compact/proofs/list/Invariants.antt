-- `compact::list` meets its contract: at stage i the stages before it are listed. Assumes nothing.
use Prim.Native.Nat.{◌≤◌, ◌-◌}
use Rattle.compact.specs.Listing.{marked, Listing}
use Rattle.compact.proofs.list.Given as goal

abbrev pub invariant-loop-i : goal.invariant-loop-i
invariant-loop-i l = (l.i ≤ l.n) × Listing (marked l.mask) l.i l.r l.places

abbrev pub decreases-loop-i : goal.decreases-loop-i
decreases-loop-i l = l.n - l.i
