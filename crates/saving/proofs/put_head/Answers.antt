-- `saving::put_head` meets its contract: four texts in a row. Assumes nothing.
use mathlib.Core.List.{◌++◌}
use native.Mathlib.Omega.{arith}
use mir.Syntax.{w64}
use mir.ValLaws.{to_z-of_z}
use Rattle.definitions.specs.Saving.{little_bytes, complement}
use Rattle.steps.proofs.QuestionLaws.{exponent_small}
use Rattle.buffer.proofs.Pasting.{written_4}
use Rattle.saving.proofs.FileBytes.{head_pieces}
use Rattle.saving.proofs.put_head.Goals as goal

-- e is handed over by its bits, which mean e.
pub complement-unit-requires : goal.complement-unit-requires
complement-unit-requires c = rw (to_z-of_z w64 c.args.e c.ranges.e) (omega (arith, exponent_small c.args.e c.requires.0))

pub returns : goal.returns
returns c =
    let header = little_bytes 4 6 ++ little_bytes 2 1 in
    let reading = little_bytes 2 c.args.reading in
    let stages = little_bytes 2 c.args.n in
    let unit = little_bytes 2 (complement c.args.e) in
    let pieces = head_pieces c.args.reading c.args.n c.args.e in
    let bits = rw (to_z-of_z w64 c.args.e c.ranges.e) at c.complement-unit.ensures in
    rw pieces
    (written_4 header reading stages unit (rw pieces at c.requires.1) c.put_header.ensures c.put_number.ensures c.put_number-2.ensures (rw bits at c.put_number-3.ensures))
