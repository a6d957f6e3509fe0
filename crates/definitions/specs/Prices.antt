-- Price of a request (document 02, U7): from n prices per unit of time, one for each stage, the price of a request by the stage at
-- which it enters; what the call is asked, answers and leaves in the lent area.
use Rattle.std.specs.Prelude.{ℕ, ◌+◌, Bool, ◌&&◌, List, eqb, ℤ, length, get_or, Float}
use Rattle.std.specs.Float.{nan}
use Rattle.std.specs.Float.Ieee.{le}
use Rattle.definitions.specs.Numbers.{◌⊗◌, 0·0, finite, mul_in_range, sum, sum_in_range, all}
use Rattle.definitions.specs.Tables.{list}
use Rattle.definitions.specs.Sheet.{allowance}
use Rattle.definitions.specs.Table.{entry, every_step_in_range}
use Rattle.definitions.specs.Questions.{Asked, ask, ◌then◌, ask_stages, question4, large_enough, shape_questions, number_questions}
use Rattle.definitions.specs.Services.{Answer, answer, filled}

-- Price j, per unit of time at stage j.
unfoldable pub unit_price : List Float → ℕ → Float
unit_price prices j = get_or prices j nan

-- 18: "prices not n in number"; `given` is their count.
unfoldable pub question18 : ℕ → ℕ → Asked
question18 n given = ask (eqb given n) 18 0 0

-- 19: "a price NaN, infinite, negative or nonzero below 2^-1022: 19, the first such price's index as row".
unfoldable pub good_price : Float → Bool
good_price price = finite price && le 0·0 price && large_enough price

unfoldable pub question19 : ℕ → List Float → Asked
question19 n prices = ask_stages (λ j. good_price (unit_price prices j)) 19 0 n

-- "Question 4 asks for n numbers; after it" 18: `held` and `room` are the lengths of the sheet and of the answer area.
unfoldable pub price_shape : ℕ → ℕ → ℤ → ℕ → ℕ → ℕ → Asked
price_shape reading n e held given room = shape_questions reading n e held then question4 n room then question18 n given

unfoldable pub price_input : ℕ → ℕ → ℤ → List Float → ℕ → ℕ → Asked
price_input reading n e sheet given room = price_shape reading n e (length sheet) given room then number_questions reading n sheet

-- Over the entries x of a table and the prices c:
module _ (n : ℕ) (x : ℕ → ℕ → Float) (c : ℕ → Float) where
  -- "The price at stage i starts at plus zero and adds entry (i, j) times price j, j rising, each operation rounded once."
  unfoldable pub request_price : ℕ → Float
  request_price i = sum 0·0 (λ j. x i j ⊗ c j) 0 n

  -- These steps in range.
  unfoldable pub price_in_range : ℕ → Bool
  price_in_range i = all (λ j. mul_in_range (x i j) (c j)) 0 n && sum_in_range 0·0 (λ j. x i j ⊗ c j) 0 n

-- "10 includes these steps": it is asked of the whole table's steps and of those of every price.
unfoldable pub prices_in_range : ℕ → ℕ → List Float → List Float → Bool
prices_in_range reading n sheet prices =
    let x = entry reading n sheet in
    every_step_in_range reading n sheet && all (price_in_range n x (unit_price prices)) 0 n

-- "After 9" comes 19, and then 10.
unfoldable pub price_questions : ℕ → ℕ → ℤ → List Float → List Float → ℕ → Asked
price_questions reading n e sheet prices room =
    price_input reading n e sheet (length prices) room then question19 n prices then ask (prices_in_range reading n sheet prices) 10 0 0

-- The allowance that is handed over: "The accuracy rule covers prices with n added to the exponent."
unfoldable pub price_allowance : ℕ → ℕ → ℕ
price_allowance reading n = allowance reading n + n

unfoldable pub price_answer : ℕ → ℕ → ℤ → List Float → List Float → ℕ → Answer ℕ
price_answer reading n e sheet prices room = answer (price_questions reading n e sheet prices room) (price_allowance reading n)

-- "n numbers of a lent area are filled and later ones keep their contents": the prices from the first stage to the last.
unfoldable pub request_prices : ℕ → ℕ → List Float → List Float → List Float
request_prices reading n sheet prices = let x = entry reading n sheet in list (request_price n x (unit_price prices)) n

unfoldable pub price_area : ℕ → ℕ → ℤ → List Float → List Float → List Float → List Float
price_area reading n e sheet prices area =
    let new = request_prices reading n sheet prices in
    filled (price_questions reading n e sheet prices (length area)) new area
