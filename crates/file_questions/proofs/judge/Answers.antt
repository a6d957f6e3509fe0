-- `file_questions::judge` meets its contract. The loop's invariant: all before the record due is good, and the questions left are those from that record on. Assumes nothing.
use Prim.Native.Nat.{◌+◌, ◌≤◌}
use mathlib.Core.Path.{◌≡◌, ◌∙◌}
use mathlib.Core.Bool.{true}
use lib.ListN.{length, drop}
use native.Mathlib.Omega.{arith}
use borrow.Author.Rules.{rules}
use mir.Syntax.{w64}
use mir.Val.{to_z, of_z}
use mir.ValLaws.{to_z-of_z}
use Rattle.definitions.specs.Sheet.{sheet_numbers}
use Rattle.definitions.specs.Questions.{question4}
use Rattle.definitions.specs.File.{whole_record, known_head, good_head, good_record, file_questions}
use Rattle.exact.proofs.Bools.{denied, granted}
use Rattle.records.proofs.Records.{whole_room}
use Rattle.file_questions.proofs.HeadAndRecords.{at_least-four, head_stages_lem}
use Rattle.file_questions.proofs.Judging.{head_read, head_cut, head_bad, record_cut, record_bad, bytes_after, at_end, room_short, room_enough, refused_by, given_by, judged_head, judged_record}
use mathlib.Core.Path.{ap}
use mathlib.Core.Bool.{not}
use Rattle.file_questions.proofs.judge.Goals as goal
use Rattle.file_questions.proofs.judge.Goals.{After-numbers-places, Else-not-is_good_head, Else-not-is_whole, Else-not-is_whole-2}

pub returns-then-not-is_whole : goal.returns-then-not-is_whole
returns-then-not-is_whole c =
    let test = c.is_whole in
    let cut = denied test.result (whole_record c.args.bytes.now) test.ensures (ap not c.if-not-is_whole.true) in
    refused_by c.args.bytes.now c.args.room 11 0 c.refused.result c.refused.ensures (head_cut c.args.bytes.now c.args.room cut)

whole_head : (c : goal.Else-not-is_whole) → whole_record c.args.bytes.now ≡ true
whole_head c = granted c.is_whole.result (whole_record c.args.bytes.now) c.is_whole.ensures (ap not c.if-not-is_whole.false)

pub is_good_head-requires : goal.is_good_head-requires
is_good_head-requires c = omega (arith, whole_room c.args.bytes.now 0 (whole_head c))

pub returns-then-not-is_good_head : goal.returns-then-not-is_good_head
returns-then-not-is_good_head c =
    let test = c.is_good_head in
    let bad = denied test.result (good_head c.args.bytes.now) test.ensures (ap not c.if-not-is_good_head.true) in
    refused_by c.args.bytes.now c.args.room 12 0 c.refused-then-not-is_good_head.result c.refused-then-not-is_good_head.ensures (head_bad c.args.bytes.now c.args.room (whole_head (goal.at.returns-then-not-is_good_head c).Else-not-is_whole) bad)

good_head_lem : (c : goal.Else-not-is_good_head) → good_head c.args.bytes.now ≡ true
good_head_lem c =
    let bytes = c.args.bytes.now in
    granted c.is_good_head.result (good_head bytes) c.is_good_head.ensures (ap not c.if-not-is_good_head.false)

-- Ten bytes of the head are there, whichever length it has.
known : (c : goal.Else-not-is_good_head) → known_head c.args.bytes.now ≡ true
known c = (head_read c.args.bytes.now (good_head_lem c)).size

head_held : (c : goal.Else-not-is_good_head) → whole_record c.args.bytes.now ≡ true → 10 ≤ length c.args.bytes.now
head_held c whole =
    let bytes = c.args.bytes.now in
    omega (arith, whole_room bytes 0 whole, at_least-four bytes (known c))

pub unit_of-e-requires : goal.unit_of-e-requires
unit_of-e-requires c =
    (omega (arith, whole_room c.args.bytes.now 0 (whole_head (goal.at.unit_of-e-requires c).Else-not-is_whole)), known (goal.at.unit_of-e-requires c).Else-not-is_good_head)

-- Few stages, and the first record behind the head.
pub rows-rows-requires : goal.rows-rows-requires
rows-rows-requires c =
    let w = (goal.at.rows-rows-requires c).Else-not-is_good_head in
    let bytes = c.args.bytes.now in
    omega (arith, (head_read bytes (good_head_lem w)).most, head_stages_lem bytes (known w), c.field_at-n.ensures)

pub record_end-at-requires : goal.record_end-at-requires
record_end-at-requires c =
    whole_room c.args.bytes.now 0 (whole_head (goal.at.record_end-at-requires c).Else-not-is_whole)

pub loop-row-init : goal.loop-row-init
loop-row-init c =
    judged_head c.args.bytes.now c.args.room c.field_at-reading.result c.field_at-n.result c.rows-rows.result c.record_end-at.result (whole_head (goal.at.loop-row-init c).Else-not-is_whole) (good_head_lem (goal.at.loop-row-init c).Else-not-is_good_head) c.field_at-reading.ensures c.field_at-n.ensures c.rows-rows.ensures c.record_end-at.ensures

-- The file and the room, and the questions left, seen from the loop.

pub returns-then-not-is_whole-2 : goal.returns-then-not-is_whole-2
returns-then-not-is_whole-2 c =
    let test = c.is_whole-in-loop-row in
    let cut = denied test.result (whole_record (drop c.loop-row.at c.args.bytes.now)) test.ensures (ap not c.if-not-is_whole-2.true) in
    refused_by c.args.bytes.now c.args.room 11 (c.loop-row.row + 1) c.refused-then-not-is_whole-2.result c.refused-then-not-is_whole-2.ensures
    (c.loop-row.invariant.left ∙ record_cut c.args.bytes.now c.args.room c.field_at-n.result c.rows-rows.result (sheet_numbers c.field_at-reading.result c.field_at-n.result) c.loop-row.at (c.loop-row.row + 1) (omega arith) cut)

whole_record_lem : (c : goal.Else-not-is_whole-2) → whole_record (drop c.loop-row.at c.args.bytes.now) ≡ true
whole_record_lem c =
    granted c.is_whole-in-loop-row.result (whole_record (drop c.loop-row.at c.args.bytes.now)) c.is_whole-in-loop-row.ensures (ap not c.if-not-is_whole-2.false)

pub is_good_record-requires : goal.is_good_record-requires
is_good_record-requires c =
    (whole_room c.args.bytes.now c.loop-row.at (whole_record_lem c), c.loop-row.invariant.few)

pub returns-then-not-is_good_record : goal.returns-then-not-is_good_record
returns-then-not-is_good_record c =
    let test = c.is_good_record in
    let bad = denied test.result (good_record c.field_at-n.result (c.loop-row.row + 1) (drop c.loop-row.at c.args.bytes.now)) test.ensures (ap not c.if-not-is_good_record.true) in
    refused_by c.args.bytes.now c.args.room 13 (c.loop-row.row + 1) c.refused-then-not-is_good_record.result c.refused-then-not-is_good_record.ensures
    (c.loop-row.invariant.left ∙ record_bad c.args.bytes.now c.args.room c.field_at-n.result c.rows-rows.result (sheet_numbers c.field_at-reading.result c.field_at-n.result) c.loop-row.at (c.loop-row.row + 1) (omega arith) (whole_record_lem (goal.at.returns-then-not-is_good_record c).Else-not-is_whole-2) bad)

pub record_end-at-requires-in-loop-row : goal.record_end-at-requires-in-loop-row
record_end-at-requires-in-loop-row c =
    whole_room c.args.bytes.now c.loop-row.at (whole_record_lem (goal.at.record_end-at-requires-in-loop-row c).Else-not-is_whole-2)

pub loop-row-preserved : goal.loop-row-preserved
loop-row-preserved c =
    let test = c.is_good_record in
    let good = granted test.result (good_record c.field_at-n.result (c.loop-row.row + 1) (drop c.loop-row.at c.args.bytes.now)) test.ensures (ap not c.if-not-is_good_record.false) in
    rw c.record_end-at-in-loop-row.ensures
    (judged_record c.args.bytes.now c.args.room c.field_at-reading.result c.field_at-n.result c.rows-rows.result c.loop-row.at (c.loop-row.row + 1) c.loop-row.invariant (omega arith) (whole_record_lem (goal.at.loop-row-preserved c).Else-not-is_whole-2) good)

pub returns-then-at-bytes : goal.returns-then-at-bytes
returns-then-at-bytes c =
    refused_by c.args.bytes.now c.args.room 14 0 c.refused-then-at-bytes.result c.refused-then-at-bytes.ensures
    (c.loop-row.invariant.left ∙ bytes_after c.args.bytes.now c.args.room c.field_at-n.result c.rows-rows.result (sheet_numbers c.field_at-reading.result c.field_at-n.result) c.loop-row.at (c.loop-row.row + 1) (omega arith) c.loop-row.invariant.inside c.if-at-bytes.true)

-- After the last record only question 4 is left, of as many places as the code counted.
records_done : (c : goal.After-numbers-places) → c.loop-row.at ≡ length c.args.bytes.now → file_questions c.args.bytes.now c.args.room ≡ question4 c.numbers-places.result c.args.room
records_done c end =
    rw c.numbers-places.ensures
    (c.loop-row.invariant.left ∙ at_end c.args.bytes.now c.args.room c.field_at-n.result c.rows-rows.result (sheet_numbers c.field_at-reading.result c.field_at-n.result) c.loop-row.at (c.loop-row.row + 1) (omega arith) end)

pub returns-then-room-places : goal.returns-then-room-places
returns-then-room-places c =
    refused_by c.args.bytes.now c.args.room 4 0 c.refused-then-room-places.result c.refused-then-room-places.ensures
    (records_done (goal.at.returns-then-room-places c).After-numbers-places (search rules) ∙ room_short _ c.args.room c.if-room-places.true)

-- The unit is handed over by its bits, which mean it.
pub returns : goal.returns
returns c =
    let unit = c.unit_of-e in
    given_by c.args.bytes.now c.args.room c.field_at-reading.result c.field_at-n.result (to_z w64 (of_z w64 unit.result)) c.loop-row.invariant.kind c.loop-row.invariant.stages (to_z-of_z w64 unit.result (record { sfits = unit.type_inv }) ∙ unit.ensures)
    (records_done (goal.at.returns c).After-numbers-places (search rules) ∙ room_enough _ c.args.room c.if-room-places.false)

pub field_at-reading-requires : goal.field_at-reading-requires
field_at-reading-requires c =
    omega (arith, head_held c (whole_head (goal.at.field_at-reading-requires c).Else-not-is_whole))

pub field_at-n-requires : goal.field_at-n-requires
field_at-n-requires c =
    omega (arith, head_held (goal.at.field_at-n-requires c).Else-not-is_good_head (whole_head (goal.at.field_at-n-requires c).Else-not-is_whole))
