-- `compact::Stages::unpack_row` meets its contract: at place q the places before it are done. Assumes nothing.
use native.Mathlib.Omega.{arith}
use Rattle.compact.proofs.Packing.{row_turns, row_ends}
use Rattle.compact.proofs.Stages.unpack_row.Goals as goal

pub loop-q-preserved : goal.loop-q-preserved
loop-q-preserved c =
    (omega arith, row_turns c.args.self.now.differ c.loop-q-test.true c.stage-i.ensures c.stage-j.ensures c.get-z.ensures c.loop-q.invariant.1 c.put.ensures)

pub returns : goal.returns
returns c = row_ends c.args.self.now.differ c.loop-q.invariant.1 (omega arith) (omega arith)
