-- `ratios::fill` meets its contract: at stage i the stages before it are done. Assumes nothing.
use native.Mathlib.Omega.{arith}
use borrow.Author.Rules.{rules}
use Rattle.ratios.proofs.RatioLaws.{ratios_none, ratios_turn}
use Rattle.ratios.proofs.fill.Goals as goal

pub loop-i-preserved : goal.loop-i-preserved
loop-i-preserved c = (omega arith, ratios_turn _ _ _ c.loop-i.invariant.1 c.stage-step.ensures)

pub loop-i-init : goal.loop-i-init
loop-i-init c = (search rules, ratios_none _ _ _ c.told-a c.requires.1 c.told-kept)
