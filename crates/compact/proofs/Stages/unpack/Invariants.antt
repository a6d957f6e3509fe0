-- `compact::Stages::unpack` meets its contract: at place p the rows before it are done. Assumes nothing.
use Prim.Native.Nat.{◌≤◌, ◌-◌}
use Rattle.tables.specs.RowMajor.{table}
use Rattle.compact.specs.Listing.{stage_at}
use Rattle.compact.specs.Compact.{Unpacked}
use Rattle.compact.proofs.Stages.unpack.Given as goal

abbrev pub invariant-loop-p : goal.invariant-loop-p
invariant-loop-p l = (l.p ≤ l.self.count) × Unpacked (stage_at l.self.places) (table l.y) l.self.count l.p (table l.initial.x) l.x

abbrev pub decreases-loop-p : goal.decreases-loop-p
decreases-loop-p l = l.self.count - l.p
