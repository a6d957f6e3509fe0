-- `powers::power_of_two` meets its contract: the doubling rule of the table is computed here, over the whole of it. Assumes nothing.
use mir.Syntax.{w64}
use mir.ValLaws.{to_z-of_z}
use lib.Ieee.{of_bits}
use Rattle.definitions.specs.Moving.{times_power}
use Rattle.powers.specs.Doubling.{same_number, doubles, doubling_rule}
use Rattle.powers.proofs.power_of_two.Goals as goal

-- k is handed over by its bits, which mean k.
pub power_in-requires : goal.power_in-requires
unfolding of_bits times_power same_number doubles doubling_rule
power_in-requires c =
    (tt, rw (to_z-of_z w64 c.args.k c.ranges.k) c.requires)
