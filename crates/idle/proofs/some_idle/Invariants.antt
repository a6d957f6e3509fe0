-- `idle::some_idle` meets its contract: every stage before i takes part. Assumes nothing.
use mathlib.Core.Bool.{true}
use Prim.Native.Nat.{◌≤◌, ◌-◌}
use Rattle.definitions.specs.Sheet.{takes_part}
use Rattle.steps.proofs.Gathering.{Gathered}
use Rattle.idle.proofs.some_idle.Given as goal

abbrev pub invariant-loop-i : goal.invariant-loop-i
invariant-loop-i l = (l.i ≤ l.sheet.n) × Gathered (takes_part 1 l.sheet.n l.sheet.numbers.now) 0 l.i true

abbrev pub decreases-loop-i : goal.decreases-loop-i
decreases-loop-i l = l.sheet.n - l.i
