-- `compact::Stages::pack_row` meets its contract: at place q the places before it are done. Assumes nothing.
use Prim.Native.Nat.{◌≤◌, ◌-◌}
use Rattle.tables.specs.RowMajor.{table}
use Rattle.tables.proofs.Loops.{Along}
use Rattle.compact.specs.Listing.{stage_at}
use Rattle.compact.proofs.Stages.pack_row.Given as goal

abbrev pub invariant-loop-q : goal.invariant-loop-q
invariant-loop-q l = (l.q ≤ l.self.count) × Along l.p 0 (λ o. table l.t (stage_at l.self.places l.p) (stage_at l.self.places o)) (table l.initial.s) l.s l.q

abbrev pub decreases-loop-q : goal.decreases-loop-q
decreases-loop-q l = l.self.count - l.q
