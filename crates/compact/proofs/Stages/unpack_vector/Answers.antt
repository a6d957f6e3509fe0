-- `compact::Stages::unpack_vector` meets its contract: at place q the places before it are done. Assumes nothing.
use native.Mathlib.Omega.{arith}
use Rattle.compact.proofs.Packing.{vector_turns}
use Rattle.compact.proofs.Stages.unpack_vector.Goals as goal

pub loop-q-preserved : goal.loop-q-preserved
loop-q-preserved c =
    (omega arith, vector_turns c.args.self.now.differ c.loop-q-test.true c.stage-i.ensures c.get-z.ensures c.loop-q.invariant.1 c.put.ensures)
