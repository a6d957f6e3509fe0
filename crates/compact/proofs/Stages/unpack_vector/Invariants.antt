-- `compact::Stages::unpack_vector` meets its contract: at place q the places before it are done. Assumes nothing.
use Prim.Native.Nat.{◌≤◌, ◌-◌}
use Rattle.tables.specs.Vectors.{vector}
use Rattle.compact.specs.Listing.{stage_at}
use Rattle.compact.specs.Compact.{UnpackedVector}
use Rattle.compact.proofs.Stages.unpack_vector.Given as goal

abbrev pub invariant-loop-q : goal.invariant-loop-q
invariant-loop-q l = (l.q ≤ l.self.count) × UnpackedVector (stage_at l.self.places) (vector l.y) l.q (vector l.initial.x) l.x

abbrev pub decreases-loop-q : goal.decreases-loop-q
decreases-loop-q l = l.self.count - l.q
