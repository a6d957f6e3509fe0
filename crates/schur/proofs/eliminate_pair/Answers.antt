-- `schur::eliminate_pair` meets its contract: at row i the rows from k + 2 before it are done. Assumes nothing.
use mathlib.Core.Path.{◌≡◌}
use Prim.Native.Nat.{◌+◌, suc}
use native.Mathlib.Omega.{arith}
use Rattle.tables.proofs.Loops.{down_begins, down_ends}
use Rattle.passes.specs.Stages.{pair_rows}
use Rattle.schur.proofs.SchurRows.{pair_turns}
use Rattle.schur.proofs.eliminate_pair.Goals as goal

pub loop-i-init : goal.loop-i-init
loop-i-init c =
    let two : c.args.k + 2 ≡ suc (suc c.args.k) = omega arith in
    (omega arith, down_begins two c.told-t)

pub loop-i-preserved : goal.loop-i-preserved
loop-i-preserved c =
    (omega arith, pair_turns c.args.r c.args.first.s c.args.second.s c.loop-i.invariant.1 c.eliminate_twice.ensures)

pub returns : goal.returns
unfolding pair_rows
returns c = down_ends c.loop-i.invariant.1 (omega arith) (omega arith)
