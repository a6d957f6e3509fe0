-- Prices of a sheet and of a larger one: the larger sheet has the smaller entries, so the smaller prices.
use Prim.Native.Nat.{ℕ, ◌<◌}
use native.Mathlib.Omega.{arith}
use mathlib.Core.List.{List}
use mathlib.Core.Logic.{◌⊎◌, inl, inr}
use mathlib.Core.Path.{◌≡◌}
use lib.Dec.{T}
use lib.Ieee.{Float}
use lib.Ieee.Fits.{and_l, and_r}
use Rattle.definitions.specs.Numbers.{◌⊗◌, 0·0, is_zero, mul_in_range, sum_in_range, all}
use Rattle.definitions.specs.Table.{entry}
use Rattle.definitions.specs.Prices.{unit_price, question19, request_price, price_in_range, prices_in_range}
use Rattle.definitions.specs.Questions.{pass, question1}
use Rattle.definitions.specs.Accuracy.{Binary64}
use Rattle.rounding.specs.Good.{Good}
use Rattle.rounding.specs.Scaling.{Scaled}
use Rattle.rounding.proofs.AnyNumbers.{plus_zero_of_sign, times-zero_of_sign}
use Rattle.rounding.proofs.Laws.{good-finite}
use Rattle.steps.proofs.All.{each_below}
use Rattle.accuracy.proofs.PriceRule.{price_kind, price_fine, price_steps}
use Rattle.scaling.proofs.ScaledNumbers.{Adds, zero-scaled, product-scaled, adds_scaled, sum_adds}
use Rattle.commuting.proofs.LargerSheet.{Larger}
use Rattle.commuting.proofs.LargerTable.{table_scales}

-- Entries x', which times 2^c are x, and prices p; a product with a price of minus zero is minus zero, and leaves a sum as it was.
module _ {c : ℕ} (n : ℕ) (x x' : ℕ → ℕ → Float) (p : ℕ → Float) (i : ℕ) (smaller : (j : ℕ) → j < n → Scaled c (x' i j) (x i j))
    (kind : (j : ℕ) → j < n → Good (p j) ⊎ T (is_zero (p j))) (t : T (price_in_range n x p i)) (t' : T (price_in_range n x' p i)) where
  module _ (y : ℕ → ℕ → Float) (u : T (price_in_range n y p i)) where
    product : (j : ℕ) → j < n → T (mul_in_range (y i j) (p j))
    unfolding price_in_range
    product = each_below n (λ j. mul_in_range (y i j) (p j)) (and_l (all (λ j. mul_in_range (y i j) (p j)) 0 n) (sum_in_range 0·0 (λ j. y i j ⊗ p j) 0 n) u)

    additions : T (sum_in_range 0·0 (λ j. y i j ⊗ p j) 0 n)
    unfolding price_in_range
    additions = and_r (all (λ j. mul_in_range (y i j) (p j)) 0 n) (sum_in_range 0·0 (λ j. y i j ⊗ p j) 0 n) u

  term_adds : (j : ℕ) → j < n → Good (p j) ⊎ T (is_zero (p j)) → Adds c (x' i j ⊗ p j) (x i j ⊗ p j)
  term_adds j l (inl g) = adds_scaled (product-scaled (smaller j l) g (product x' t' j l) (product x t j l))
  term_adds j l (inr z) =
      let lost = times-zero_of_sign (x' i j) (p j) (good-finite (smaller j l).from) z in
      let lost' = times-zero_of_sign (x i j) (p j) (good-finite (smaller j l).to) z in
      record { to = λ s h. rw (plus_zero_of_sign (x' i j ⊗ p j) s.from lost, plus_zero_of_sign (x i j ⊗ p j) s.to lost') s }

  price_scaled : Scaled c (request_price n x' p i) (request_price n x p i)
  unfolding request_price
  price_scaled = sum_adds 0 n zero-scaled (λ j l h. term_adds j (omega arith) (kind j (omega arith))) (additions x t)

module _ (reading n : ℕ) (q : question1 reading ≡ pass) (prices : List Float) (held : Binary64 prices) (fine : question19 n prices ≡ pass) where
  pub prices_scale : {c : ℕ} {sheet big : List Float} → Larger c reading n sheet big → T (prices_in_range reading n sheet prices) → T (prices_in_range reading n big prices)
      → (i : ℕ) → i < n → Scaled c (request_price n (entry reading n big) (unit_price prices) i) (request_price n (entry reading n sheet) (unit_price prices) i)
  prices_scale {c} {sheet} {big} l t t' i hi =
      let own = price_steps reading n sheet prices t in
      let its = price_steps reading n big prices t' in
      price_scaled n (entry reading n sheet) (entry reading n big) (unit_price prices) i (λ j hj. table_scales q l own.0 its.0 i j hi hj)
      (λ j hj. let f = price_fine n prices held fine j hj in price_kind (unit_price prices j) f.0 f.1) (own.1 i hi) (its.1 i hi)
