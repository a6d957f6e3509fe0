-- `file_questions::unit_of` meets its contract. Assumes nothing.
use mathlib.Core.Path.{◌≡◌, sym, ◌∙◌}
use native.Mathlib.Omega.{arith}
use mir.Syntax.{w64}
use mir.ValLaws.{to_z-of_z}
use Rattle.definitions.specs.File.{record_length}
use Rattle.file_questions.proofs.HeadAndRecords.{old_unit, new_unit, not-four}
use Rattle.file_questions.proofs.unit_of.Goals as goal
use Rattle.file_questions.proofs.unit_of.Goals.{Else-field_at-eq4}

pub returns-then-field_at-eq4 : goal.returns-then-field_at-eq4
unfolding record_length
returns-then-field_at-eq4 c =
    sym (old_unit c.args.bytes.now (omega (arith, c.field_at.ensures, c.if-field_at-eq4.true)))

other : (c : goal.Else-field_at-eq4) → record_length c.args.bytes.now ≡ 4 → ⊥
unfolding record_length
other c = λ is. c.if-field_at-eq4.false (omega (arith, c.field_at.ensures))

pub signed_at-requires : goal.signed_at-requires
signed_at-requires c =
    omega (arith, c.requires.0, not-four c.args.bytes.now c.requires.1 (other c))

pub returns : goal.returns
returns c =
    to_z-of_z w64 c.signed_at.result (record { sfits = c.signed_at.type_inv }) ∙ c.signed_at.ensures ∙ new_unit c.args.bytes.now c.requires.1 (other (goal.at.returns c).Else-field_at-eq4)

pub field_at-requires : goal.field_at-requires
field_at-requires c = omega (arith, c.requires.0)
