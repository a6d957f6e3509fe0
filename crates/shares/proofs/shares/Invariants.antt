-- `shares::shares` meets its contract: at stage j the stages before it are done and tested. Assumes nothing.
use mathlib.Core.Path.{◌≡◌}
use Prim.Native.Nat.{◌≤◌, ◌-◌}
use lib.Dec.{ltb}
use Rattle.definitions.specs.Compact.{rank}
use Rattle.tables.specs.Vectors.{vector}
use Rattle.compact.specs.Listing.{marked}
use Rattle.shares.specs.Shares.{Shares}
use Rattle.shares.proofs.shares.Given as goal

abbrev pub invariant-loop-j : goal.invariant-loop-j
invariant-loop-j l = (l.j ≤ l.n) × Shares (marked l.kept) (vector l.d) (vector l.a) l.j l.ok l.w × (l.above ≡ ltb 0 (rank (marked l.kept) l.j))

abbrev pub decreases-loop-j : goal.decreases-loop-j
decreases-loop-j l = l.n - l.j
