-- The searches for the first bad place and the first bad stage, step by step as the loops take them.
use mathlib.Core.Path.{◌≡◌, ◌∙◌}
use mathlib.Core.Bool.{Bool, true, false}
use Prim.Native.Nat.{ℕ, suc, ◌+◌, ◌-◌, ◌≤◌, ◌<◌}
use native.Mathlib.Nat.{sub-zero}
use native.Mathlib.Numerals.{add-one}
use native.Mathlib.Omega.{arith}
use Rattle.definitions.specs.Questions.{Asked, pass, refuse, ◌then◌, ask, ask_row, ask_rows, ask_stages}

-- What is left of n after j, and after one more.
one_less : (n j : ℕ) → j < n → n - j ≡ suc (n - (j + 1))
one_less n j h = omega arith

none_left : (n j : ℕ) → n ≤ j → n - j ≡ 0
none_left n j h = omega arith

-- m rows of n places.
module _ (good : ℕ → ℕ → Bool) (number m n : ℕ) where
  -- The rows from i on, and the places of row i from column j on with the rows after it.
  abbrev pub from_row : ℕ → Asked
  from_row i = ask_rows good number n i (m - i)

  abbrev pub from_place : ℕ → ℕ → Asked
  from_place i j = ask_row good number i j (n - j) then from_row (i + 1)

  pub all-rows : ask_rows good number n 0 m ≡ from_row 0
  all-rows = rw (sub-zero m)

  pub enter_row : (i : ℕ) → i < m → from_row i ≡ from_place i 0
  unfolding ask_rows
  enter_row i h = rw (one_less m i h, sub-zero n, add-one i)

  place_step : (i j : ℕ) → j < n → from_place i j ≡ ((ask (good i j) number (i + 1) (j + 1) then ask_row good number i (j + 1) (n - (j + 1))) then from_row (i + 1))
  unfolding ask_row
  place_step i j h = rw (one_less n j h, add-one i, add-one j)

  pub good-place : (i j : ℕ) → j < n → good i j ≡ true → from_place i j ≡ from_place i (j + 1)
  good-place i j h g = place_step i j h ∙ rw g

  pub bad_place : (i j : ℕ) → j < n → good i j ≡ false → from_place i j ≡ refuse number (i + 1) (j + 1)
  bad_place i j h g = place_step i j h ∙ rw g

  pub leave_row : (i j : ℕ) → n ≤ j → from_place i j ≡ from_row (i + 1)
  unfolding ask_row
  leave_row i j h = rw (none_left n j h)

  pub no_row : (i : ℕ) → m ≤ i → from_row i ≡ pass
  unfolding ask_rows
  no_row i h = rw (none_left m i h)

module _ (good : ℕ → Bool) (number n : ℕ) where
  -- The stages from i on.
  abbrev pub from_stage : ℕ → Asked
  from_stage i = ask_stages good number i (n - i)

  pub all-stages : ask_stages good number 0 n ≡ from_stage 0
  all-stages = rw (sub-zero n)

  stage_step : (i : ℕ) → i < n → from_stage i ≡ (ask (good i) number (i + 1) 0 then from_stage (i + 1))
  unfolding ask_stages
  stage_step i h = rw (one_less n i h, add-one i)

  pub good-stage : (i : ℕ) → i < n → good i ≡ true → from_stage i ≡ from_stage (i + 1)
  good-stage i h g = stage_step i h ∙ rw g

  pub bad_stage : (i : ℕ) → i < n → good i ≡ false → from_stage i ≡ refuse number (i + 1) 0
  bad_stage i h g = stage_step i h ∙ rw g

  pub no_stage : (i : ℕ) → n ≤ i → from_stage i ≡ pass
  unfolding ask_stages
  no_stage i h = rw (none_left n i h)
