-- `report::answer` meets its contract: the text of the file's sheet, or the line of the refusal with which its reading ends. Assumes nothing.
use borrow.Author.Rules.{rules}
use Prim.Native.Nat.{◌≤◌}
use mathlib.Core.Path.{refl, ◌∙◌}
use native.Mathlib.Omega.{arith}
use mir.Syntax.{w64}
use mir.ValLaws.{to_z-of_z}
use lib.ListN.{length-take}
use Rattle.report.proofs.Reporting.{reported, stages, inside, sheet_text, file_refused}
use Rattle.file.proofs.Areas.{numbers_area}
use Rattle.report.proofs.answer.Goals as goal
use Rattle.report.proofs.answer.Goals.{After-numbers-places}

-- The file's numbers stand in the area.
held : (c : goal.After-numbers-places) → c.numbers-places.result ≤ 1056
held c = inside c.args.bytes.now _ _ refl c.in-Ok.ensures.result_value (c.in-Ok.ensures.area_after ∙ numbers_area _ _) c.numbers-places.ensures

-- The head holds e by its bits, and it is handed on by them.
pub returns-in-Ok : goal.returns-in-Ok
returns-in-Ok c =
    let same = to_z-of_z w64 c.in-Ok.head.e (search rules) in
    reported (sheet_text c.args.bytes.now _ _ refl c.in-Ok.ensures.result_value (c.in-Ok.ensures.area_after ∙ numbers_area _ _) c.numbers-places.ensures) (omega arith) (rw same at c.table_text.ensures)

pub returns-in-Err : goal.returns-in-Err
returns-in-Err c =
    reported (file_refused c.args.bytes.now _ c.in-Err.ensures.result_value) (omega arith) (rw c.into.ensures at c.refused_text.ensures)

pub numbers-places-requires : goal.numbers-places-requires
numbers-places-requires c = stages c.args.bytes.now _ _ refl c.in-Ok.ensures.result_value (c.in-Ok.ensures.area_after ∙ numbers_area _ _)

pub slice_bounds-area-end : goal.slice_bounds-area-end
slice_bounds-area-end c = omega (arith, held c)

pub slice_bounds-numbers-end : goal.slice_bounds-numbers-end
slice_bounds-numbers-end c = simp length-take (omega (arith, held (goal.at.slice_bounds-numbers-end c).After-numbers-places))

pub table_text-requires : goal.table_text-requires
table_text-requires c = (stages c.args.bytes.now _ _ refl c.in-Ok.ensures.result_value (c.in-Ok.ensures.area_after ∙ numbers_area _ _), c.requires)
