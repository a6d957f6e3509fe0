-- `powers::power_in` meets its contract. Assumes nothing.
use mathlib.Core.Path.{◌≡◌}
use native.Mathlib.Omega.{arith}
use lib.IntN.{pos, ◌+ℤ◌}
use mir.Syntax.{w64}
use mir.ValLaws.{to_z-of_z}
use Rattle.powers.proofs.Doubling.{place-below, in_table, rule_gives_powers}
use Rattle.powers.proofs.power_in.Goals as goal
use Rattle.powers.proofs.power_in.Goals.{After-place_of-at}

-- k is handed over by its bits, which mean k.
at_place : (c : goal.After-place_of-at) → pos c.place_of-at.result ≡ c.args.k +ℤ pos 512
at_place c =
    rw (to_z-of_z w64 c.args.k c.ranges.k) at c.place_of-at.ensures

pub offset_bounds-table-at : goal.offset_bounds-table-at
offset_bounds-table-at c =
    record { fits = omega (arith, place-below c.args.k c.requires.1 c.place_of-at.result (at_place c)) }

pub bounds-table-at : goal.bounds-table-at
bounds-table-at c =
    in_table c.args.table.now c.requires.0 c.args.k c.requires.1 c.place_of-at.result (at_place (goal.at.bounds-table-at c).After-place_of-at)

pub returns : goal.returns
returns c =
    rule_gives_powers c.args.table.now c.requires.0 c.args.k c.requires.1 c.place_of-at.result (at_place (goal.at.returns c).After-place_of-at)
