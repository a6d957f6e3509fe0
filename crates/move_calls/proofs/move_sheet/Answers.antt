-- `move_calls::move_sheet` meets its contract. Assumes nothing.
use mir.Syntax.{w64}
use mir.ValLaws.{to_z-of_z}
use Rattle.move_calls.proofs.MoveCalls.{move_call}
use Rattle.move_calls.proofs.move_sheet.Goals as goal

-- e and k are handed over by their bits, which mean e and k.
pub returns : goal.returns
returns c =
    move_call (rw (to_z-of_z w64 c.args.e c.ranges.e, to_z-of_z w64 c.args.k c.ranges.k) at c.move_sheet-moved.ensures) c.hand.ensures
