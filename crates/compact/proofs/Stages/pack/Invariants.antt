-- `compact::Stages::pack` meets its contract: at place p the rows before it are done. Assumes nothing.
use Prim.Native.Nat.{◌≤◌, ◌-◌}
use Rattle.tables.specs.RowMajor.{table}
use Rattle.tables.specs.Operators.{between}
use Rattle.tables.proofs.Loops.{Down}
use Rattle.compact.specs.Listing.{stage_at}
use Rattle.compact.proofs.Stages.pack.Given as goal

abbrev pub invariant-loop-p : goal.invariant-loop-p
invariant-loop-p l = (l.p ≤ l.self.count) × Down 0 (λ o. between 0 l.self.count (λ q. table l.t (stage_at l.self.places o) (stage_at l.self.places q)) (table l.initial.s o)) (table l.initial.s) l.s l.p

abbrev pub decreases-loop-p : goal.decreases-loop-p
decreases-loop-p l = l.self.count - l.p
