-- `column::upward_steps` meets its contract: q stages are done. Assumes nothing.
use mathlib.Core.Path.{◌≡◌}
use Prim.Native.Nat.{suc, ◌+◌, ◌-◌}
use native.Mathlib.Omega.{arith}
use borrow.Author.Rules.{rules}
use Rattle.column.proofs.ColumnStages.{ups_begin, ups_turn}
use Rattle.column.proofs.upward_steps.Goals as goal

pub loop-q-preserved : goal.loop-q-preserved
loop-q-preserved c =
    let r = c.args.r in
    let q = c.loop-q.q in
    let e : suc (r - 1 - q + q) ≡ r = omega arith in
    (omega arith, ups_turn c.loop-q.invariant.1 (r - 1 - q) e c.add_multiples-large.ensures)

pub loop-q-init : goal.loop-q-init
loop-q-init c = (search rules, ups_begin c.told-b)
