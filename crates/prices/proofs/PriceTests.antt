-- The tests of a price: its products in range and a finite sum are all of its steps in range.
use mathlib.Core.Path.{◌≡◌, ap, ap₂, ◌∙◌}
use Prim.Native.Nat.{ℕ}
use mathlib.Core.Bool.{Bool, ◌&&◌}
use lib.Ieee.{Float}
use Rattle.exact.proofs.Bools.{same_truth}
use Rattle.definitions.specs.Numbers.{◌⊗◌, 0·0, finite, mul_in_range, sum, sum_in_range, all}
use Rattle.definitions.specs.Prices.{request_price, price_in_range}
use Rattle.rounding.proofs.Laws.{good-finite, zero_is_good}
use Rattle.rounding.proofs.RoundedSums.{total_in_range, total-finite}

pub price_test : (n : ℕ) (x : ℕ → ℕ → Float) (c : ℕ → Float) (i : ℕ) {products ended : Bool} {value : Float}
    → products ≡ all (λ j. mul_in_range (x i j) (c j)) 0 n → ended ≡ finite value → value ≡ request_price n x c i
    → (products && ended) ≡ price_in_range n x c i
unfolding request_price price_in_range
price_test n x c i a b v =
    let f : ℕ → Float = λ j. x i j ⊗ c j in
    ap₂ ◌&&◌ a
    (b ∙ ap finite v ∙ same_truth (finite (sum 0·0 f 0 n)) (sum_in_range 0·0 f 0 n) (total_in_range 0·0 f 0 n) (total-finite 0·0 f 0 (good-finite zero_is_good) n))
