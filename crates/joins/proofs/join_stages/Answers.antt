-- `joins::join_stages` meets its contract: after q stages those are done. Assumes nothing.
use native.Mathlib.Omega.{arith}
use borrow.Author.Rules.{rules}
use Rattle.joins.proofs.ColumnSteps.{joins_begin, joins_turn}
use Rattle.joins.proofs.join_stages.Goals as goal

pub loop-q-preserved : goal.loop-q-preserved
loop-q-preserved c = (omega arith, joins_turn _ _ _ _ c.loop-q.invariant.1 c.join_stage-stage.ensures)

pub loop-q-init : goal.loop-q-init
loop-q-init c = (search rules, joins_begin _ _ _ _ c.told-x)
