-- `idle::is_idle` meets its contract: before stage j every number is zero. Assumes nothing.
use mathlib.Core.Bool.{true}
use Prim.Native.Nat.{◌≤◌, ◌-◌}
use Rattle.steps.proofs.Gathering.{Gathered}
use Rattle.steps.proofs.LiveStages.{zeros}
use Rattle.idle.proofs.is_idle.Given as goal

abbrev pub invariant-loop-j : goal.invariant-loop-j
invariant-loop-j l = (l.j ≤ l.sheet.n) × Gathered (zeros l.sheet.n l.sheet.numbers.now l.i) 0 l.j true

abbrev pub decreases-loop-j : goal.decreases-loop-j
decreases-loop-j l = l.sheet.n - l.j
