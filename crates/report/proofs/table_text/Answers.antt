-- `report::table_text` meets its contract: the text for what the service answers and leaves in the area. Assumes nothing.
use Rattle.std.proofs.Common.{rules}
use mathlib.Core.Path.{refl}
use native.Mathlib.Omega.{arith}
use mir.Syntax.{w64}
use mir.ValLaws.{to_z-of_z}
use Rattle.counts.proofs.Counts.{square_small}
use Rattle.report.proofs.Reporting.{same_text, served_text}
use Rattle.report.proofs.table_text.Goals as goal

pub answer_text-requires : goal.answer_text-requires
answer_text-requires c =
    (c.requires.0, omega (arith, square_small c.requires.0), c.requires.1)

-- The sheet holds e by its bits, which mean e.
pub returns : goal.returns
returns c =
    same_text (served_text c.args.sheet.reading c.args.sheet.n c.args.sheet.e c.args.sheet.numbers.now _ _ refl c.whole_table-table.ensures) (rw (to_z-of_z w64 c.args.sheet.e (search rules)) at c.answer_text.ensures)
