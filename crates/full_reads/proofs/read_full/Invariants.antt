-- `full_reads::read_full` meets its contract. The loop's invariant: what stands in the first places was consumed.
use Rattle.std.proofs.Common.{◌≡◌, ◌-◌, ◌≤◌, length, take}
use Rattle.std.specs.Io.KnownBytes.{Consumes}
use Rattle.full_reads.proofs.read_full.Given as goal

abbrev pub invariant-loop-taken : goal.invariant-loop-taken
invariant-loop-taken g l = (l.taken ≤ length l.area) × (length l.area ≡ length l.initial.area) × Consumes (g.R.Read.remaining l.initial.input) (g.R.Read.remaining l.input) (take l.taken l.area)

abbrev pub decreases-loop-taken : goal.decreases-loop-taken
decreases-loop-taken g l = length l.area - l.taken
