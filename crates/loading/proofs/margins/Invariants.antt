-- `loading::margins` meets its contract: at stage i the stages before it are done. Assumes nothing.
use Prim.Native.Nat.{◌≤◌, ◌-◌}
use Rattle.definitions.specs.Sheet.{diagonal}
use Rattle.tables.specs.Vectors.{vector}
use Rattle.tables.proofs.Vectors.{AlongVector}
use Rattle.loading.proofs.margins.Given as goal

abbrev pub invariant-loop-i : goal.invariant-loop-i
invariant-loop-i l = (l.i ≤ l.sheet.n) × AlongVector 0 (diagonal l.sheet.n l.sheet.numbers.now) (vector l.initial.d) l.d l.i

abbrev pub decreases-loop-i : goal.decreases-loop-i
decreases-loop-i l = l.sheet.n - l.i
