-- The text for an answer of the whole table and the area that it leaves (document 01, "The sheet file").
use Rattle.std.specs.Prelude.{ℕ, List, ◌++◌, ℤ, Float}
use Rattle.definitions.specs.Sheet.{place}
use Rattle.definitions.specs.Services.{Answer, given, refused}
use Rattle.definitions.specs.Dwell.{refused_line, seconds_line, table_lines}

unfoldable pub answer_text : ℕ → ℤ → List Float → Answer ℕ → List ℕ
answer_text n e area (given allowed) = seconds_line n allowed e ++ table_lines (place n area) n n
answer_text n e area (refused number row column) = refused_line number row column
