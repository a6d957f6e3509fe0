-- `loading::rates` meets its contract: at row i the rows before it are done. Assumes nothing.
use Prim.Native.Nat.{◌≤◌, ◌-◌}
use Rattle.definitions.specs.Sheet.{diagonal}
use Rattle.tables.specs.RowMajor.{table}
use Rattle.tables.specs.Operators.{replace}
use Rattle.tables.proofs.Loops.{Down}
use Rattle.loading.proofs.rates.Given as goal

abbrev pub invariant-loop-i : goal.invariant-loop-i
invariant-loop-i w = (w.i ≤ w.sheet.n) × Down 0 (λ l. replace l (diagonal w.sheet.n w.sheet.numbers.now l) (table w.initial.t l)) (table w.initial.t) w.t w.i

abbrev pub decreases-loop-i : goal.decreases-loop-i
decreases-loop-i l = l.sheet.n - l.i
