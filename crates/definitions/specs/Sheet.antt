-- A flow sheet of n stages (document 01, "The sheet and its two readings"; document 02, U10): n × n numbers, row by row, and in
-- reading 3 the n weights as one row more. Stage i of the paper is i - 1 here.
use Rattle.std.specs.Prelude.{ℕ, suc, ◌+◌, ◌*◌, ◌^◌, Bool, true, not, ◌&&◌, cond, List, eqb, ltb, get_or, Float}
use Rattle.std.specs.Float.{nan}
use Rattle.definitions.specs.Numbers.{◌⊕◌, ◌⊖◌, 0·0, is_zero, all}
use Rattle.definitions.specs.LeavingRates.{Weights, none, some, System}

-- A choice by the reading: leaving rates (1), margins (2), weights (3).
abbrev pub by_reading : {A : Type 0} → ℕ → A → A → A → A
by_reading reading first second third = cond (eqb reading 1) first (cond (eqb reading 2) second third)

-- "Then n weights after the n × n numbers" (document 02, U10): how many rows of n numbers a sheet has, and how many numbers.
unfoldable pub sheet_rows : ℕ → ℕ → ℕ
sheet_rows reading n = cond (eqb reading 3) (suc n) n

unfoldable pub sheet_numbers : ℕ → ℕ → ℕ
sheet_numbers reading n = cond (eqb reading 3) (n * n + n) (n * n)

-- The number at place (i, j).
abbrev pub place : ℕ → List Float → ℕ → ℕ → Float
place n sheet i j = get_or sheet (i * n + j) nan

-- "Write t_ij for its size": off the diagonal the place holds minus the rate. "A zero of either sign counts as plus zero."
-- A size stands between two different stages of the sheet; elsewhere there is no rate, and it is plus zero.
unfoldable pub size : ℕ → List Float → ℕ → ℕ → Float
size n sheet i j = cond (ltb i n && ltb j n && not (eqb i j)) (0·0 ⊖ place n sheet i j) 0·0

-- The diagonal's parameter: the leaving rate s_i (reading 1), the margin d_i (reading 2) or s_i of s = Az (reading 3), either zero
-- as plus zero. Past the last stage there is none, and it is plus zero.
unfoldable pub diagonal : ℕ → List Float → ℕ → Float
diagonal n sheet i = cond (ltb i n) (place n sheet i i ⊕ 0·0) 0·0

-- The weight z_j stands in the row after the last stage's.
unfoldable pub weight : ℕ → List Float → ℕ → Float
weight n sheet j = place n sheet n j

unfoldable pub weights : ℕ → ℕ → List Float → Weights
weights reading n sheet = cond (eqb reading 3) (some (weight n sheet)) none

unfoldable pub system : ℕ → ℕ → List Float → System
system reading n sheet = record { t = size n sheet; s = diagonal n sheet; z = weights reading n sheet }

-- "In reading 1, a stage whose row and column are all zero is idle" (document 02, U3): zeros of either sign, the diagonal's too.
unfoldable pub idle : ℕ → List Float → ℕ → Bool
idle n sheet i = all (λ j. is_zero (place n sheet i j) && is_zero (place n sheet j i)) 0 n

-- The stages that take part in the steps: in reading 1 those that are not idle, in readings 2 and 3 every stage.
unfoldable pub takes_part : ℕ → ℕ → List Float → ℕ → Bool
takes_part reading n sheet i = cond (eqb reading 1) (not (idle n sheet i)) true

-- The allowance E of a table: 4n³ for reading 1, 12n³ for reading 2, 6n³ for reading 3; "n still counting all" stages (document 02,
-- U3).
unfoldable pub allowance : ℕ → ℕ → ℕ
allowance reading n = by_reading reading 4 12 6 * n ^ 3
