-- What the service for prices promises of every call, refused calls too.
use Rattle.std.specs.Prelude.{Result, ◌≡◌, ℕ, ◌<◌, Bool, List, T, ℤ, length, get_or, Float}
use Rattle.std.specs.Float.{nan}
use Rattle.definitions.specs.Sheet.{takes_part}
use Rattle.definitions.specs.Table.{entry}
use Rattle.definitions.specs.Matrix.{matrix}
use Rattle.definitions.specs.Questions.{pass}
use Rattle.definitions.specs.Accuracy.{AccuratePrices}
use Rattle.definitions.specs.Prices.{unit_price, request_price, prices_in_range, price_questions, price_allowance, price_answer, price_area}
use Rattle.tables.specs.Vectors.{IsVector, vector}
use Rattle.answers.specs.declared.Refusal.{Refusal}
use Rattle.answers.specs.Answers.{told}

-- The answer r, the prices area afterwards ("left as it was"), each place of the answer area before and after, and for an accepted
-- call demand 3 of the prices in it.
pub record PricesDone (reading n : ℕ) (e : ℤ) (sheet prices left before after : List Float) (r : Result ℕ Refusal) : Type 0 where
  pub kept : left ≡ prices
  pub answered : told r ≡ price_answer reading n e sheet prices (length before)
  pub area : after ≡ price_area reading n e sheet prices before
  pub accurate : price_questions reading n e sheet prices (length before) ≡ pass
      → AccuratePrices n (takes_part reading n sheet) (price_allowance reading n) (matrix reading n sheet) (unit_price prices) (λ i. get_or after i nan)

-- The steps: whether those of the table and of the prices are in range; where they are, the n prices.
pub record PriceStepped (reading n : ℕ) (sheet prices : List Float) (ok : Bool) (ps : List Float) : Type 0 where
  pub range : ok ≡ prices_in_range reading n sheet prices
  pub price : T ok → (i : ℕ) → i < n → vector ps i ≡ request_price n (entry reading n sheet) (unit_price prices) i
  pub long : IsVector ps
