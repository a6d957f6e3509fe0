-- `moving::has_room` meets its contract. Assumes nothing.
use Rattle.std.proofs.Common.{rules}
use mathlib.Core.Path.{◌∙◌}
use mir.Syntax.{w64}
use mir.ValLaws.{to_z-of_z}
use Rattle.moving.proofs.Room.{by_least, by_most}
use Rattle.moving.proofs.has_room.Goals as goal

pub returns-then-k-lt0 : goal.returns-then-k-lt0
returns-then-k-lt0 c =
    c.sizes_within.ensures
    ∙ by_least c.args.numbers.now c.args.k c.requires (search rules)
    (rw (to_z-of_z w64 c.args.k c.ranges.k) at c.if-k-lt0.true)

pub returns : goal.returns
returns c =
    c.sizes_within-2.ensures
    ∙ by_most c.args.numbers.now c.args.k c.requires (rw (to_z-of_z w64 c.args.k c.ranges.k) at c.if-k-lt0.false)
