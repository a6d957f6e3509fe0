-- `file_questions::is_good_head` meets its contract: at each `return` the numbers read so far decide question 12. Assumes nothing.
use native.Mathlib.Omega.{arith}
use mathlib.Core.Path.{◌≡◌}
use Prim.Native.Nat.{◌≤◌}
use mathlib.Core.Bool.{true}
use lib.ListN.{length, drop}
use mir.Syntax.{w64}
use mir.ValLaws.{to_z-of_z}
use Rattle.definitions.specs.Questions.{known_reading, exponent_in_range}
use Rattle.definitions.specs.File.{little, known_head}
use Rattle.file_questions.proofs.HeadAndRecords.{head_kind, head_length_lem, length-known, at_least-four, head_holds}
use mathlib.Core.Path.{ap}
use mathlib.Core.Bool.{not}
use Rattle.file_questions.proofs.is_good_head.Goals as goal
use Rattle.file_questions.proofs.is_good_head.Goals.{Else-not-size}

pub returns-then-field_at-ne1 : goal.returns-then-field_at-ne1
returns-then-field_at-ne1 c = head_kind c.args.bytes.now c.field_at.result c.field_at.ensures c.if-field_at-ne1.true

pub returns-then-not-size : goal.returns-then-not-size
returns-then-not-size c =
    let bytes = c.args.bytes.now in
    let kind : little 2 (drop 4 bytes) ≡ 1 = omega arith in
    head_length_lem bytes c.field_at-size.result kind c.field_at-size.ensures (ap not c.if-not-size.true)

-- The head is long enough for a reading and a number of stages, and its length says whether it has a unit.
known : (c : goal.Else-not-size) → known_head c.args.bytes.now ≡ true
known c = length-known c.args.bytes.now c.field_at-size.result c.field_at-size.ensures (ap not c.if-not-size.false)

long : (c : goal.Else-not-size) → 10 ≤ length c.args.bytes.now
long c =
    omega (arith, c.requires, at_least-four c.args.bytes.now (known c))

pub returns : goal.returns
unfolding known_reading exponent_in_range
returns c =
    let bytes = c.args.bytes.now in
    let kind : little 2 (drop 4 bytes) ≡ 1 = omega arith in
    let e = c.unit_of-e.result in
    rw (to_z-of_z w64 e (record { sfits = c.unit_of-e.type_inv })) (head_holds bytes (known (goal.at.returns c).Else-not-size) c.field_at-reading.result c.field_at-n.result e kind c.field_at-reading.ensures c.field_at-n.ensures c.unit_of-e.ensures)

pub field_at-reading-requires : goal.field_at-reading-requires
field_at-reading-requires c = omega (arith, long c)

pub field_at-n-requires : goal.field_at-n-requires
field_at-n-requires c = omega (arith, long (goal.at.field_at-n-requires c).Else-not-size)

pub unit_of-e-requires : goal.unit_of-e-requires
unit_of-e-requires c = (c.requires, known (goal.at.unit_of-e-requires c).Else-not-size)
