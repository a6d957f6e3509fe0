-- `compact::Stages::unpack` meets its contract: at place p the rows before it are done. Assumes nothing.
use native.Mathlib.Omega.{arith}
use Rattle.compact.proofs.Packing.{rows-turn}
use Rattle.compact.proofs.Stages.unpack.Goals as goal

pub loop-p-preserved : goal.loop-p-preserved
loop-p-preserved c =
    (omega arith, rows-turn c.args.self.now.differ c.loop-p-test.true c.loop-p.invariant.1 c.unpack_row.ensures)
