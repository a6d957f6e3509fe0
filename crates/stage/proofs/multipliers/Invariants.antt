-- `stage::multipliers` meets its contract: at row i the rows before it are done and told. Assumes nothing.
use Prim.Native.Nat.{ℕ, ◌≤◌, ◌-◌, suc}
use lib.Ieee.{Float}
use Rattle.tables.specs.RowMajor.{table}
use Rattle.tables.proofs.Loops.{Down}
use Rattle.passes.specs.Stages.{row_test, multiplier_row}
use Rattle.passes.specs.StageTests.{RowFinite, Alike}
use Rattle.passes.proofs.Told.{ToldEach}
use Rattle.stage.proofs.multipliers.Given as goal

abbrev pub invariant-loop-i : goal.invariant-loop-i
invariant-loop-i w =
    (w.i ≤ w.r)
    × Down (suc w.k) (multiplier_row w.k w.stage.p (table w.initial.t)) (table w.initial.t) w.t w.i
    × ((g : ℕ → ℕ → Float) → Alike w.r w.k (table w.initial.t) g → ToldEach (λ l. row_test w.r w.k l w.stage.p (g l) (g w.k)) (λ l. RowFinite w.r w.k l w.stage.p (g l) (g w.k)) (suc w.k) w.i w.ok)

abbrev pub decreases-loop-i : goal.decreases-loop-i
decreases-loop-i l = l.r - l.i
