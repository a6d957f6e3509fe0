-- Only the signer's column (document 02, U2): seconds at one stage, counted from 1, from every entry; for reading 1 alone.
use Rattle.std.specs.Prelude.{ℕ, ◌-◌, Bool, ◌&&◌, cond, List, eqb, ℤ, length, Float}
use Rattle.definitions.specs.Sheet.{takes_part, allowance}
use Rattle.definitions.specs.Tables.{list}
use Rattle.definitions.specs.Compact.{rank}
use Rattle.definitions.specs.LeavingRates.{shared, column}
use Rattle.definitions.specs.Table.{live_count, live_begun, entry}
use Rattle.definitions.specs.Questions.{Asked, ask, ◌then◌, question4, question5, size_questions, number_questions}
use Rattle.definitions.specs.Services.{Answer, answer, filled}

-- "Reading 2 gets 1"; document 02, U10: "1 admits reading 3 except in the column engine".
unfoldable pub column_reading : ℕ → Asked
column_reading reading = ask (eqb reading 1) 1 0 0

-- "Question 4 asks for n numbers; 5 concerns the one stage": `held` and `room` are the lengths of the sheet and of the answer area.
unfoldable pub column_shape : ℕ → ℕ → ℤ → ℕ → ℕ → ℕ → Asked
column_shape reading n e held room stage =
    column_reading reading then size_questions 1 n e held then question4 n room then question5 n stage stage

unfoldable pub column_input : ℕ → ℕ → ℤ → List Float → ℕ → ℕ → Asked
column_input reading n e sheet room stage = column_shape reading n e (length sheet) room stage then number_questions 1 n sheet

-- The column of b that stage j's numbers come from. Asked for an idle stage, "the column engine still takes all steps of the others,
-- with a column of zeros" (document 02, U3): past the last stage the identity has no 1.
unfoldable pub column_of : ℕ → List Float → ℕ → ℕ
column_of n sheet j = let on = takes_part 1 n sheet in cond (on j) (rank on j) (live_count 1 n sheet)

-- "10 looks at this engine's own steps": those that serve every column, and those of that column of b.
unfoldable pub column_in_range : ℕ → List Float → ℕ → Bool
column_in_range n sheet j =
    let r = live_count 1 n sheet in
    let at = live_begun 1 n sheet in
    shared r at && column r at (column_of n sheet j)

unfoldable pub column_questions : ℕ → ℕ → ℤ → List Float → ℕ → ℕ → Asked
column_questions reading n e sheet room stage = column_input reading n e sheet room stage then ask (column_in_range n sheet (stage - 1)) 10 0 0

-- The column, from the first entry to the last, and the allowance that is handed over with it.
unfoldable pub stage_column : ℕ → List Float → ℕ → List Float
stage_column n sheet stage = list (λ i. entry 1 n sheet i (stage - 1)) n

unfoldable pub column_answer : ℕ → ℕ → ℤ → List Float → ℕ → ℕ → Answer ℕ
column_answer reading n e sheet room stage = answer (column_questions reading n e sheet room stage) (allowance 1 n)

-- "Fills n numbers; later places keep theirs."
unfoldable pub column_area : ℕ → ℕ → ℤ → List Float → ℕ → List Float → List Float
column_area reading n e sheet stage area =
    let new = stage_column n sheet stage in
    filled (column_questions reading n e sheet (length area) stage) new area
