-- `moving::times_power` meets its contract. The loop's invariant: the first products are written. Assumes nothing.
use lib.ListN.{length-map}
use lib.Ieee.{nan}
use Rattle.definitions.specs.Numbers.{◌⊗◌}
use Rattle.steps.proofs.Filling.{none_yet, one_more, all_written}
use Rattle.moving.proofs.Room.{product_at}
use Rattle.moving.proofs.times_power.Goals as goal

pub loop-i-preserved : goal.loop-i-preserved
loop-i-preserved c =
    one_more _ (nan ⊗ c.args.power) c.loop-i.invariant c.loop-i-test.true (product_at c.args.power c.args.numbers.now c.loop-i.i nan)

pub loop-i-init : goal.loop-i-init
loop-i-init c = none_yet (length-map c.args.numbers.now (λ number. number ⊗ c.args.power)) c.requires

pub returns : goal.returns
returns c = all_written c.loop-i.invariant c.loop-i-test.false
