-- `compact::Stages::unpack_row` meets its contract: at place q the places before it are done. Assumes nothing.
use Prim.Native.Nat.{◌≤◌, ◌-◌}
use Rattle.tables.specs.RowMajor.{table}
use Rattle.compact.specs.Listing.{stage_at}
use Rattle.compact.specs.Compact.{UnpackedRow}
use Rattle.compact.proofs.Stages.unpack_row.Given as goal

abbrev pub invariant-loop-q : goal.invariant-loop-q
invariant-loop-q l = (l.q ≤ l.self.count) × UnpackedRow (stage_at l.self.places) (table l.y) l.p l.q (table l.initial.x) l.x

abbrev pub decreases-loop-q : goal.decreases-loop-q
decreases-loop-q l = l.self.count - l.q
