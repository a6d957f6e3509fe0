-- `text::seconds_text` meets its contract: the first line and the table, for which the buffer has room. Assumes nothing.
use mathlib.Core.Path.{refl}
use native.Mathlib.Omega.{arith}
use mir.Syntax.{w64}
use mir.ValLaws.{to_z-of_z}
use Rattle.std.proofs.Common.{rules}
use Rattle.definitions.specs.Sheet.{place}
use Rattle.buffer.proofs.Pasting.{written_at_start}
use Rattle.text.proofs.TextLengths.{line_room, table_room, text_written}
use Rattle.text.proofs.seconds_text.Goals as goal
use Rattle.text.proofs.seconds_text.Goals.{Start}

-- e is handed over by its bits, which mean e.
pub put_seconds-requires : goal.put_seconds-requires
put_seconds-requires c =
    rw (to_z-of_z w64 c.args.e c.ranges.e)
    (line_room c.args.n c.args.allowance c.args.e (place c.args.n c.args.answer.now) c.requires.0 (omega arith) (omega (arith, c.ranges.e.sfits)) refl c.requires.2)

pub put_table-requires : goal.put_table-requires
put_table-requires c =
    let line = rw (to_z-of_z w64 c.args.e c.ranges.e) at c.put_seconds.ensures in
    (c.requires.1, table_room c.args.n c.args.allowance c.args.e (place c.args.n c.args.answer.now) c.requires.0 (omega arith) (omega (arith, c.ranges.e.sfits)) line refl c.requires.2)

pub returns : goal.returns
returns c =
    let line = rw (to_z-of_z w64 c.args.e c.ranges.e) at c.put_seconds.ensures in
    written_at_start
    (text_written c.args.n c.args.allowance c.args.e (place c.args.n c.args.answer.now) c.requires.0 (omega arith) (omega (arith, c.ranges.e.sfits)) line refl c.requires.2 c.put_table.ensures)
    refl (search rules)
