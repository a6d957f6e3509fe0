-- The whole table of a sheet, and "every step in range" (document 01, question 10; document 02, U3 and U10).
use Rattle.std.specs.Prelude.{ℕ, Bool, ◌&&◌, cond, List, eqb, Float}
use Rattle.definitions.specs.Numbers.{0·0}
use Rattle.definitions.specs.Sheet.{size, diagonal, system, takes_part}
use Rattle.definitions.specs.Compact.{stages_with, rank, compact}
use Rattle.definitions.specs.LeavingRates.{System, downward, quotient, in_range}
use Rattle.definitions.specs.Margins as Margins

-- Reading 1: "Idle stages are left out of the steps, the others keep their order" (document 02, U3): how many the others are, and
-- their system as each stage begins. Reading 3, where no stage is idle: but for the pivot, the "steps are those of reading 1" (U10).
unfoldable pub live_count : ℕ → ℕ → List Float → ℕ
live_count reading n sheet = rank (takes_part reading n sheet) n

unfoldable pub live_system : ℕ → ℕ → List Float → System
live_system reading n sheet = compact (stages_with (takes_part reading n sheet) n) (system reading n sheet)

unfoldable pub live_begun : ℕ → ℕ → List Float → ℕ → System
live_begun reading n sheet = downward (live_count reading n sheet) (live_system reading n sheet)

-- "And every entry in an idle row or column is plus zero."
unfoldable pub live_entry : ℕ → ℕ → List Float → ℕ → ℕ → Float
live_entry reading n sheet =
    let on = takes_part reading n sheet in
    let r = live_count reading n sheet in
    let at = live_begun reading n sheet in
    λ i j. cond (on i && on j) (quotient r at (rank on i) (rank on j)) 0·0

-- Entry (i, j): seconds that a request entering at stage i spends at stage j.
unfoldable pub entry : ℕ → ℕ → List Float → ℕ → ℕ → Float
entry reading n sheet =
    let live = live_entry reading n sheet in
    let margins = Margins.entry n (size n sheet) (diagonal n sheet) in
    cond (eqb reading 2) margins live

unfoldable pub every_step_in_range : ℕ → ℕ → List Float → Bool
every_step_in_range reading n sheet =
    let live = in_range (live_count reading n sheet) (live_begun reading n sheet) in
    let margins = Margins.margins_in_range n (size n sheet) (diagonal n sheet) in
    cond (eqb reading 2) margins live
