-- Places of a sheet.
use mathlib.Core.List.{List}
use Prim.Native.Nat.{ℕ, ◌+◌, ◌*◌, ◌/◌, ◌%◌, ◌≤◌, ◌<◌}
use native.Mathlib.Nat.{mul_comm, mul-le-mul_right, div-add-mod', div-lt_iff_lt-mul, mod-lt}
use native.Mathlib.Omega.{arith}
use lib.ListN.{length, get_or}
use lib.Ieee.{Float, nan}
use lib.Ieee.Positive.{first_pos}
use Rattle.definitions.specs.Sheet.{sheet_rows, sheet_numbers, place}
use Rattle.counts.proofs.Counts as counts
use Rattle.counts.proofs.Counts.{square_small, rows_of-numbers, stage-rows}
use Rattle.shape.specs.Square.{Square, WholeSheet}

-- Place (i, j) of m rows of n.
pub inside : {m n i j : ℕ} → i < m → j < n → i * n + j < m * n
inside {m} {n} {i} {j} hi hj = let h = mul-le-mul_right n hi in omega arith

-- Place (i, j) lies in the sheet, and the place is a small number.
pub place_inside : {n i j : ℕ} {sheet : List Float} → Square n sheet → i < n → j < n → (i * n + j < length sheet) × (i * n + j < 1024)
place_inside {n} {i} {j} q hi hj =
    let h = inside hi hj in
    let few = square_small q.few in
    (omega (arith, q.held), omega arith)

-- A whole sheet has its stages' own numbers, and its numbers are whole rows.
module _ {reading n : ℕ} {sheet : List Float} (s : WholeSheet reading n sheet) where
  pub own-numbers : n * n ≤ sheet_numbers reading n
  own-numbers = rw (rows_of-numbers reading n) (mul-le-mul_right n (stage-rows reading n))

  pub is_square : Square n sheet
  is_square = record { few = s.few; held = rw s.held own-numbers }

  pub numbers_few : length sheet ≤ 1056
  numbers_few = rw s.held (counts.numbers_few reading n s.few)

  pub row_inside : {i j : ℕ} → i < sheet_rows reading n → j < n → i * n + j < length sheet
  row_inside hi hj = rw (s.held, rows_of-numbers reading n) (inside hi hj)

  -- What holds at every place holds of every number.
  pub every_number : (P : Float → Type 0) → ((i j : ℕ) → i < sheet_rows reading n → j < n → P (place n sheet i j)) → (at : ℕ) → at < length sheet → P (get_or sheet at nan)
  every_number P h at below =
      let few : at < sheet_rows reading n * n = rw (← (rows_of-numbers reading n), ← s.held) below in
      let some : 0 < n = first_pos n (sheet_rows reading n) (rw (mul_comm n (sheet_rows reading n)) (omega arith)) in
      rw (← (div-add-mod' at n)) (h (at / n) (at % n) ((div-lt_iff_lt-mul some).1 few) (mod-lt at some))
