-- `live::live_stages` meets its contract: before stage i the marks are right. Assumes nothing.
use Prim.Native.Nat.{◌≤◌, ◌-◌}
use Rattle.definitions.specs.Sheet.{takes_part}
use Rattle.compact.specs.Listing.{MaskOf}
use Rattle.live.proofs.live_stages.Given as goal

abbrev pub invariant-loop-i : goal.invariant-loop-i
invariant-loop-i l = (l.i ≤ l.sheet.n) × MaskOf (takes_part 1 l.sheet.n l.sheet.numbers.now) l.i l.live

abbrev pub decreases-loop-i : goal.decreases-loop-i
decreases-loop-i l = l.sheet.n - l.i
