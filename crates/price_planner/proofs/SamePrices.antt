-- From the working table to the sheet's prices.
use mathlib.Core.Path.{◌≡◌, refl, ap, ap₂, ◌∙◌}
use Prim.Native.Nat.{ℕ, ◌<◌}
use native.Mathlib.Omega.{arith}
use mathlib.Core.Bool.{Bool, true, false, ◌&&◌}
use mathlib.Core.List.{List}
use lib.Ieee.{Float}
use Rattle.exact.proofs.Bools.{holds}
use Rattle.definitions.specs.Numbers.{◌⊗◌, 0·0, mul_in_range}
use Rattle.definitions.specs.Table.{entry}
use Rattle.definitions.specs.Prices.{unit_price, request_price, price_in_range, prices_in_range}
use Rattle.steps.proofs.All.{all-below}
use Rattle.steps.proofs.FloatSums.{sum_same, sum_in_range_same}
use Rattle.tables.specs.RowMajor.{table}
use Rattle.tables.specs.Vectors.{IsVector}
use Rattle.readings.specs.Stepped.{Stepped}
use Rattle.prices.specs.PriceSteps.{PricesGive}
use Rattle.price_planner.specs.Promises.{PriceStepped}

-- A price looks at its own row alone.
module _ {n : ℕ} (x y : ℕ → ℕ → Float) (c : ℕ → Float) (i : ℕ) (row : (j : ℕ) → j < n → x i j ≡ y i j) where
  terms : (j : ℕ) → j < n → x i j ⊗ c j ≡ y i j ⊗ c j
  terms j l = ap (λ a. a ⊗ c j) (row j l)

  same_price : request_price n x c i ≡ request_price n y c i
  unfolding request_price
  same_price = sum_same 0·0 0·0 (λ j. x i j ⊗ c j) (λ j. y i j ⊗ c j) 0 n refl (λ j l m. terms j (omega arith))

  same_price_range : price_in_range n x c i ≡ price_in_range n y c i
  unfolding price_in_range
  same_price_range =
      ap₂ ◌&&◌
      (all-below (λ j. mul_in_range (x i j) (c j)) (λ j. mul_in_range (y i j) (c j)) (λ j l. ap (λ a. mul_in_range a (c j)) (row j l)))
      (sum_in_range_same 0·0 0·0 (λ j. x i j ⊗ c j) (λ j. y i j ⊗ c j) 0 n refl (λ j l m. terms j (omega arith)))

module _ (reading n : ℕ) (sheet prices : List Float) {x : List Float} {table-ok : Bool} (stepped : Stepped reading n sheet table-ok x) where
  -- A step of the table out of range.
  pub table_fails : table-ok ≡ false → {ps : List Float} → IsVector ps → PriceStepped reading n sheet prices false ps
  unfolding prices_in_range
  table_fails bad l = record { range = rw (← stepped.range, bad); price = λ z. absurd z; long = l }

  -- The table's steps in range, and the prices from it.
  pub prices_stepped : table-ok ≡ true → {ok : Bool} {ps : List Float} → PricesGive n (table x) (unit_price prices) ok ps → PriceStepped reading n sheet prices ok ps
  unfolding prices_in_range
  prices_stepped good given =
      let e = entry reading n sheet in
      let c = unit_price prices in
      let at = stepped.entries (holds good) in
      record {
        range =
            given.range
            ∙ all-below (price_in_range n (table x) c) (price_in_range n e c) (λ i l. same_price_range (table x) e c i (λ j m. at i j l m))
            ∙ rw (← stepped.range, good);
        price = λ t i l. given.prices.price i l ∙ same_price (table x) e c i (λ j m. at i j l m);
        long = given.prices.long;
      }
