-- `marks::mark_movers` meets its contract. Assumes nothing.
use Prim.Native.Nat.{◌≤◌, ◌-◌}
use Rattle.definitions.specs.Questions.{moves}
use Rattle.marks.specs.Marks.{is_marked, Marked}
use Rattle.marks.proofs.Marking.{before}
use Rattle.marks.proofs.mark_movers.Given as goal

abbrev pub invariant-loop-i : goal.invariant-loop-i
invariant-loop-i l = (l.i ≤ l.sheet.n) × Marked (before (is_marked l.initial.next) (λ k. moves l.sheet.n l.sheet.numbers.now k l.j) l.i) l.sheet.n l.next

abbrev pub decreases-loop-i : goal.decreases-loop-i
decreases-loop-i l = l.sheet.n - l.i
