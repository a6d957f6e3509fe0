-- `saving::put_record` meets its contract: three texts in a row. Assumes nothing.
use mathlib.Core.List.{◌++◌, map}
use mathlib.Core.Path.{◌∙◌}
use native.Mathlib.Omega.{arith}
use Prim.Native.Nat.{ℕ, ◌+◌, ◌*◌}
use lib.ListN.{length, length-append, length-map}
use Rattle.definitions.specs.Saving.{little_bytes, record_bytes, word_bytes}
use Rattle.records.proofs.LittleBytes.{length-little}
use Rattle.buffer.proofs.Pasting.{written_3}
use Rattle.saving.proofs.FileBytes.{record_pieces, length-words}
use Rattle.saving.proofs.put_record.Goals as goal

-- The buffer has room for the record, so its length fits.
pub overflow_mul-numbers : goal.overflow_mul-numbers
unfolding record_bytes
overflow_mul-numbers g c = omega (arith, length-append {A = ℕ}, length-words, length-map c.args.numbers.now g.W.Word.word_of)

pub overflow_add-width : goal.overflow_add-width
unfolding record_bytes
overflow_add-width g c = omega (arith, length-append {A = ℕ}, length-little, length-words, length-map c.args.numbers.now g.W.Word.word_of)

pub returns : goal.returns
returns g c =
    let all = map g.W.Word.word_of c.args.numbers.now in
    let header = little_bytes 4 (c.args.width + 8 * length c.args.numbers.now) ++ little_bytes 2 c.args.kind in
    let number = little_bytes c.args.width c.args.number in
    let pieces = record_pieces c.args.kind c.args.number c.args.width all ∙ rw length-map in
    rw pieces (written_3 header number (word_bytes all) (rw pieces at c.requires.1) c.put_header.ensures c.put_number.ensures c.put_words.ensures)
