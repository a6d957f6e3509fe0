-- `lines::put_entry` meets its contract: four texts in a row are the pieces of the line. Assumes nothing.
use mathlib.Core.List.{[], ◌∷◌}
use Rattle.definitions.specs.Dwell.{hexadecimal}
use Rattle.buffer.proofs.Pasting.{written_4}
use Rattle.digits.proofs.Digits.{field}
use Rattle.lines.proofs.Lines.{entry_pieces}
use Rattle.lines.proofs.put_entry.Goals as goal

pub returns : goal.returns
returns c =
    let row = field c.args.row 32 in
    let column = field c.args.column 32 in
    let bits = hexadecimal 16 c.to_word-word.result in
    let pieces = entry_pieces c.args.row c.args.column c.args.x c.to_word-word.result c.to_word-word.ensures in
    rw pieces (written_4 row column bits (10 ∷ []) (rw pieces at c.requires) c.put_field.ensures c.put_field-2.ensures c.put_hexadecimal.ensures c.put_byte.ensures)
