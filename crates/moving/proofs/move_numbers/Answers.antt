-- `moving::move_numbers` meets its contract. Assumes nothing.
use borrow.Author.Rules.{rules}
use mathlib.Core.Path.{refl, sym, ◌∙◌}
use mir.Syntax.{w64}
use mir.ValLaws.{to_z-of_z}
use mathlib.Core.List.{map}
use lib.ListN.{length-map}
use Rattle.definitions.specs.Moving.{times_power}
use Rattle.moving.proofs.Endings.{rates_written, both_written}
use Rattle.moving.proofs.move_numbers.Goals as goal

-- k is handed over by its bits, which mean k.
pub returns-then-has_room : goal.returns-then-has_room
returns-then-has_room c =
    let same = to_z-of_z w64 c.args.k c.ranges.k in
    let rates = c.args.rates.now in
    let room = sym c.if-has_room.true ∙ (rw same at c.has_room.ensures) in
    let first = rates_written c.requires.0 (search rules) c.args.area.now (rw same at c.power_of_two-power.ensures) (sym room) c.times_power.ensures in
    record { value = room; area_after = both_written (map (λ number. times_power c.args.k number) rates) c.args.weights.now c.args.area.now (sym (length-map rates (λ number. times_power c.args.k number))) first (search rules) }

pub returns : goal.returns
returns c =
    record { value = sym c.if-has_room.false ∙ (rw (to_z-of_z w64 c.args.k c.ranges.k) at c.has_room.ensures); area_after = refl }
