-- `column::downward_steps` meets its contract: at stage k the stages from j before it are done. Assumes nothing.
use native.Mathlib.Omega.{arith}
use Rattle.column.proofs.ColumnStages.{downs_begin, downs_turn}
use Rattle.column.proofs.downward_steps.Goals as goal

pub loop-k-preserved : goal.loop-k-preserved
loop-k-preserved c = (omega arith, downs_turn c.loop-k.invariant.1 (omega arith) c.add_multiples-large.ensures)

pub loop-k-init : goal.loop-k-init
loop-k-init c = (omega (arith, c.requires.0), downs_begin c.told-b)
