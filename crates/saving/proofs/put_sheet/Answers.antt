-- `saving::put_sheet` meets its contract. The loop's invariant: behind the head the first i records are written. Assumes nothing.
use mathlib.Core.Path.{◌≡◌, refl, ◌∙◌}
use Prim.Native.Nat.{ℕ, ◌+◌, ◌*◌, ◌≤◌, ◌<◌}
use native.Mathlib.Omega.{arith}
use mathlib.Core.List.{List, map}
use lib.ListN.{length, length-map}
use mir.Syntax.{w64}
use mir.ValLaws.{to_z-of_z}
use Rattle.std.proofs.Common.{rules}
use Rattle.definitions.specs.Sheet.{sheet_rows, sheet_numbers}
use Rattle.definitions.specs.Saving.{bytes_due, records_bytes}
use Rattle.counts.proofs.Counts.{rows_few, stage-rows}
use Rattle.buffer.specs.declared.Writer.{Writer}
use Rattle.buffer.specs.Pasted.{Room, Written}
use Rattle.buffer.proofs.Growing.{Turn, turn}
use Rattle.buffer.proofs.Pasting.{written_at_start}
use Rattle.saving.proofs.FileBytes.{row_of, row_taken, records_of, records_begun, file_grows, head_room, records_room, file_written, short, row_inside}
use Rattle.saving.proofs.put_sheet.Given as given
use Rattle.saving.proofs.put_sheet.Goals as goal
use Rattle.saving.proofs.put_sheet.Goals.{In-loop-i, Start}

-- A turn writes one record more.
record_turn : (reading n : ℕ) (words : List ℕ) {i : ℕ} {start here : Writer} → Room (records_of reading n words) start → i < sheet_rows reading n → Written (records_bytes n 1 i words) start here
    → Turn (bytes_due n (i + 1) (row_of n i words)) (records_bytes n 1 (i + 1) words) start here
record_turn reading n words room due so_far =
    turn (λ i. records_bytes n 1 i words) (λ i. bytes_due n (i + 1) (row_of n i words)) (sheet_rows reading n) (λ i h. file_grows n words i) room due so_far

-- The sheet's words are as many as its numbers.
held : (g : given.Over) (c : goal.Start g) → length (map g.W.Word.word_of c.args.sheet.now) ≡ sheet_numbers c.args.reading c.args.n
held g c = length-map c.args.sheet.now g.W.Word.word_of ∙ c.requires.0

-- e is handed over by its bits, which mean e.
pub put_head-requires : goal.put_head-requires
put_head-requires g c =
    let words = map g.W.Word.word_of c.args.sheet.now in
    rw (to_z-of_z w64 c.args.e c.ranges.e) (c.requires.3, head_room c.args.reading c.args.n c.args.e words (held g (goal.at.put_head-requires g c).Start) refl c.requires.2)

pub loop-i-init : goal.loop-i-init
loop-i-init g c = records_begun _ _ _

-- The record due is one of the sheet's, and its numbers end within the sheet's.
due : (g : given.Over) (c : goal.In-loop-i g) → c.loop-i.i < sheet_rows c.args.reading c.args.n
due g c = omega (arith, c.rows-rows.ensures, stage-rows c.args.reading c.args.n)

inside : (g : given.Over) (c : goal.In-loop-i g) → (c.loop-i.i * c.args.n + c.args.n ≤ length c.args.sheet.now) × (length c.args.sheet.now ≤ 1056) × (c.loop-i.i ≤ 33)
inside g c =
    (row_inside c.args.reading c.args.n c.requires.0 (due g c), short c.args.reading c.args.n c.requires.0 c.requires.1, omega (arith, due g c, rows_few c.args.reading c.args.n))

pub put_due-requires : goal.put_due-requires
put_due-requires g c =
    let words = map g.W.Word.word_of c.args.sheet.now in
    let own = goal.at.put_due-requires g c in
    let head = rw (to_z-of_z w64 c.args.e c.ranges.e) at c.put_head.ensures in
    let room = records_room c.args.reading c.args.n c.args.e words (held g own.Start) head refl c.requires.2 in
    rw (row_taken g.W.Word.word_of c.args.n c.loop-i.i c.args.sheet.now) (record_turn c.args.reading c.args.n words room (due g own.In-loop-i) c.loop-i.invariant).room

pub loop-i-preserved : goal.loop-i-preserved
loop-i-preserved g c =
    let words = map g.W.Word.word_of c.args.sheet.now in
    let own = goal.at.loop-i-preserved g c in
    let head = rw (to_z-of_z w64 c.args.e c.ranges.e) at c.put_head.ensures in
    let room = records_room c.args.reading c.args.n c.args.e words (held g own.Start) head refl c.requires.2 in
    (record_turn c.args.reading c.args.n words room (due g own.In-loop-i) c.loop-i.invariant).written
    (rw (row_taken g.W.Word.word_of c.args.n c.loop-i.i c.args.sheet.now) at c.put_due.ensures)

-- All records behind the head are the file.
pub returns : goal.returns
returns g c =
    let words = map g.W.Word.word_of c.args.sheet.now in
    let own = goal.at.returns g c in
    let end : c.loop-i.i ≡ sheet_rows c.args.reading c.args.n = omega (arith, c.rows-rows.ensures) in
    let head = rw (to_z-of_z w64 c.args.e c.ranges.e) at c.put_head.ensures in
    written_at_start (file_written c.args.reading c.args.n c.args.e words (held g own.Start) head refl c.requires.2 (rw end at c.loop-i.invariant)) refl (search rules)

pub overflow_mul-first : goal.overflow_mul-first
overflow_mul-first g c = omega (arith, inside g c)

pub overflow_add-first : goal.overflow_add-first
overflow_add-first g c = omega (arith, inside g c)

pub offset_bounds-sheet-first : goal.offset_bounds-sheet-first
offset_bounds-sheet-first g c = omega (arith, inside g c)

pub slice_bounds-put_due-end : goal.slice_bounds-put_due-end
slice_bounds-put_due-end g c = omega (arith, inside g c)
