-- `marks::exits` meets its contract. Assumes nothing.
use mathlib.Core.Bool.{false}
use Prim.Native.Nat.{◌≤◌, ◌-◌}
use Rattle.definitions.specs.Questions.{leaves}
use Rattle.marks.specs.Marks.{Marked}
use Rattle.marks.proofs.Marking.{before}
use Rattle.marks.proofs.exits.Given as goal

abbrev pub invariant-loop-i : goal.invariant-loop-i
invariant-loop-i l = (l.i ≤ l.sheet.n) × Marked (before (λ k. false) (leaves l.sheet.n l.sheet.numbers.now) l.i) l.sheet.n l.next

abbrev pub decreases-loop-i : goal.decreases-loop-i
decreases-loop-i l = l.sheet.n - l.i
