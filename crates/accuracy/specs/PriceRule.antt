-- The accuracy rule of prices (document 02, U7).
use Rattle.std.specs.Prelude.{ℕ, ◌+◌, ◌<◌, List, ◌≡◌, T, ℤ, Float}
use Rattle.std.specs.Float.{binary64}
use Rattle.std.specs.Float.Ieee.{fits}
use Rattle.definitions.specs.Fractions.{Fraction}
use Rattle.definitions.specs.Sheet.{takes_part}
use Rattle.definitions.specs.Matrix.{matrix}
use Rattle.definitions.specs.Table.{entry}
use Rattle.definitions.specs.Questions.{pass}
use Rattle.definitions.specs.Accuracy.{exact_price, AccuratePrices, Binary64}
use Rattle.definitions.specs.Prices.{unit_price, good_price, request_price, price_in_range, price_questions, price_allowance}
use Rattle.inverse.specs.Reduction.{NearFraction}

-- Theorem: for prices that pass question 19, a price of a request has n roundings more than the entries of its row. Of each term the
-- product is one; of the n additions the first, to plus zero, is exact.
unfoldable pub PriceSum : Type 0
PriceSum =
    (n E : ℕ) (x : ℕ → ℕ → Float) (y : ℕ → ℕ → Fraction) (c : ℕ → Float) (i : ℕ)
    → ((j : ℕ) → j < n → NearFraction E (x i j) (y i j))
    → ((j : ℕ) → j < n → T (fits binary64 (c j)) × T (good_price (c j)))
    → T (price_in_range n x c i)
    → NearFraction (E + n) (request_price n x c i) (exact_price n y c i)

-- Theorem: "The accuracy rule covers prices with n added to the exponent."
unfoldable pub PriceRule : Type 0
PriceRule =
    (reading n : ℕ) (e : ℤ) (sheet prices : List Float) (room : ℕ)
    → Binary64 sheet
    → Binary64 prices
    → price_questions reading n e sheet prices room ≡ pass
    → AccuratePrices n (takes_part reading n sheet) (price_allowance reading n) (matrix reading n sheet) (unit_price prices)
    (request_price n (entry reading n sheet) (unit_price prices))
