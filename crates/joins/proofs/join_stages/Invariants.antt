-- `joins::join_stages` meets its contract: after q stages those are done. Assumes nothing.
use Prim.Native.Nat.{◌≤◌, ◌-◌}
use Rattle.tables.specs.RowMajor.{table}
use Rattle.tables.specs.Vectors.{vector}
use Rattle.compact.specs.Listing.{marked}
use Rattle.joins.specs.Joins.{StagesJoin}
use Rattle.joins.proofs.join_stages.Given as goal

abbrev pub invariant-loop-q : goal.invariant-loop-q
invariant-loop-q l = (l.q ≤ l.n) × StagesJoin l.n (table l.t) (vector l.a) (marked l.kept) (table l.initial.x) l.q l.ok l.x

abbrev pub decreases-loop-q : goal.decreases-loop-q
decreases-loop-q l = l.n - l.q
