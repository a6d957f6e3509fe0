-- `text::put_seconds` meets its contract: four texts in a row. Assumes nothing.
use mathlib.Core.List.{◌++◌}
use mir.Syntax.{w64}
use mir.ValLaws.{to_z-of_z}
use Rattle.definitions.specs.Dwell.{text}
use Rattle.buffer.specs.Pasted.{Room}
use Rattle.buffer.proofs.Pasting.{room_1, room_2, room_3, room_4, written_4}
use Rattle.digits.proofs.Digits.{field}
use Rattle.digits.proofs.Integers.{signed_field}
use Rattle.text.proofs.TextLengths.{seconds_pieces}
use Rattle.text.proofs.put_seconds.Goals as goal
use Rattle.text.proofs.put_seconds.Goals.{Start}

-- Room for the pieces of the line.
room : (c : goal.Start) → Room (text "seconds " ++ (field c.args.n 32) ++ (field c.args.allowance 32) ++ (signed_field c.args.e 10)) c.args.out.now
room c = rw (seconds_pieces c.args.n c.args.allowance c.args.e) at c.requires

pub put_bytes-requires : goal.put_bytes-requires
unfolding text
put_bytes-requires c =
    room_1 (text "seconds ") (field c.args.n 32) (field c.args.allowance 32) (signed_field c.args.e 10) (room (goal.at.put_bytes-requires c).Start)

pub put_field-requires : goal.put_field-requires
unfolding text
put_field-requires c =
    room_2 (text "seconds ") (field c.args.n 32) (field c.args.allowance 32) (signed_field c.args.e 10) (room (goal.at.put_field-requires c).Start) c.put_bytes.ensures

pub put_field-requires-2 : goal.put_field-requires-2
unfolding text
put_field-requires-2 c =
    room_3 (text "seconds ") (field c.args.n 32) (field c.args.allowance 32) (signed_field c.args.e 10) (room (goal.at.put_field-requires-2 c).Start) c.put_bytes.ensures c.put_field.ensures

-- e is handed over by its bits, which mean e.
pub put_integer-requires : goal.put_integer-requires
unfolding text
put_integer-requires c =
    rw (to_z-of_z w64 c.args.e c.ranges.e)
    (room_4 (text "seconds ") (field c.args.n 32) (field c.args.allowance 32) (signed_field c.args.e 10) (room (goal.at.put_integer-requires c).Start) c.put_bytes.ensures c.put_field.ensures c.put_field-2.ensures)

pub returns : goal.returns
unfolding text
returns c =
    rw (seconds_pieces c.args.n c.args.allowance c.args.e)
    (written_4 (text "seconds ") (field c.args.n 32) (field c.args.allowance 32) (signed_field c.args.e 10) (room (goal.at.returns c).Start) c.put_bytes.ensures c.put_field.ensures c.put_field-2.ensures
    (rw (to_z-of_z w64 c.args.e c.ranges.e) at c.put_integer.ensures))
