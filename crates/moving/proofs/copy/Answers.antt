-- `moving::copy` meets its contract. The loop's invariant: the first weights are written. Assumes nothing.
use mathlib.Core.Path.{refl}
use lib.Ieee.{nan}
use Rattle.steps.proofs.Filling.{none_yet, one_more, all_written}
use Rattle.moving.proofs.copy.Goals as goal

pub loop-i-init : goal.loop-i-init
loop-i-init c = none_yet refl c.requires

pub loop-i-preserved : goal.loop-i-preserved
loop-i-preserved c = one_more _ nan c.loop-i.invariant c.loop-i-test.true refl

pub returns : goal.returns
returns c = all_written c.loop-i.invariant c.loop-i-test.false
