-- Prices to try (document 02, U7): calls with what they answer and leave, and one claim about all of them.
use Rattle.std.specs.Prelude.{ℕ, ◌^◌, List, [], ◌∷◌, pos, negsuc, Float, false, true}
use Rattle.std.specs.Float.{nan, inf}
use Rattle.definitions.specs.Prices.{price_answer, price_area}
use Rattle.definitions.specs.Starred.{num, quo, minus, word, sheet_w}
use Rattle.definitions.specs.Calls.{Outcome, Line, Service, Claim, line, in_unit, gives, refuses, one, three, single, P, edge, most}

-- What stands beside the sheet are the prices.
abbrev of_prices : Service (List Float) ℕ
of_prices = record { answers = price_answer; leaves = price_area }

unfoldable pub PriceClaim : List (Line (List Float) ℕ) → Type 0
PriceClaim lines = Claim of_prices lines

-- One stage and its price.
abbrev priced : ℕ → Float → Float → Outcome ℕ → Line (List Float) ℕ
priced reading number price expected = single reading number (price ∷ []) expected

-- P, in an area of three places, and four numbers that are none.
abbrev of_p : Float → Float → Outcome ℕ → Line (List Float) ℕ
of_p first second expected = line 1 2 P (first ∷ second ∷ []) three expected

abbrev none : List Float
none = nan ∷ nan ∷ nan ∷ nan ∷ []

unfoldable pub price_lines : List (Line (List Float) ℕ)
price_lines =
    of_p (num 1) (num 2) (gives 34 (num 3 ∷ num 5 ∷ num 9 ∷ []))
    -- margins, whose table is [1, 0, 0 | 0, 1, 0 | 1, 1, 1]: a price adds a row, and j rises
    ∷ line 2 3 (num 1 ∷ num 0 ∷ num 0 ∷ num 0 ∷ num 1 ∷ num 0 ∷ minus (num 1) ∷ minus (num 1) ∷ num 1 ∷ []) (num (2 ^ 53) ∷ num 1 ∷ num 1 ∷ []) three
    (gives 327 (num (2 ^ 53) ∷ num 1 ∷ word 0x4340000000000000 ∷ []))
    -- weights (document 02, U10): W's table is [0.3125, 0.25 | 0.25, 1]
    ∷ line 3 2 sheet_w (num 16 ∷ num 4 ∷ []) three (gives 50 (num 6 ∷ num 8 ∷ num 9 ∷ []))
    -- minus zero is a price, and gives plus zero
    ∷ priced 1 (num 1) (minus (num 0)) (gives 5 (num 0 ∷ []))
    -- idle stages
    ∷ line 1 2 (num 1 ∷ num 0 ∷ num 0 ∷ num 0 ∷ []) (num 5 ∷ num 3 ∷ []) three (gives 34 (num 5 ∷ num 0 ∷ num 9 ∷ []))
    ∷ priced 1 (num 0) (num 7) (gives 5 (num 0 ∷ []))
    -- a product with a price and a sum of them in range; 10 is asked of every step of the table too
    ∷ priced 1 (num 1) (quo 1 (2 ^ 1021)) (gives 5 (quo 1 (2 ^ 1021) ∷ []))
    ∷ priced 1 (num 1) (quo 1 (2 ^ 1022)) (refuses 10 0 0 one)
    ∷ priced 2 (quo 1 (2 ^ 600)) (num (2 ^ 600)) (refuses 10 0 0 one)
    ∷ of_p most most (refuses 10 0 0 three)
    ∷ line 1 2 edge (num 1 ∷ num 0 ∷ []) three (refuses 10 0 0 three)
    -- 19: one search for all four faults, before 10
    ∷ of_p (num 1) (inf false) (refuses 19 2 0 three)
    ∷ of_p (minus (num 1)) nan (refuses 19 1 0 three)
    ∷ of_p (quo 1 (2 ^ 1074)) (inf true) (refuses 19 1 0 three)
    ∷ of_p nan (minus (num 1)) (refuses 19 1 0 three)
    ∷ line 1 2 edge (num 0 ∷ minus (num 1) ∷ []) three (refuses 19 2 0 three)
    -- the questions before it, in order
    ∷ line 4 0 [] [] [] (refuses 1 0 0 [])
    ∷ in_unit (pos 513) (line 1 33 [] [] [] (refuses 2 0 0 []))
    ∷ in_unit (negsuc 512) (line 1 2 (nan ∷ []) [] [] (refuses 12 0 0 []))
    ∷ line 1 2 (nan ∷ []) [] [] (refuses 3 0 0 [])
    ∷ line 1 2 none [] one (refuses 4 0 0 one)
    ∷ line 1 2 none (nan ∷ []) three (refuses 18 0 0 three)
    ∷ line 1 2 none (nan ∷ nan ∷ nan ∷ []) three (refuses 18 0 0 three)
    ∷ line 1 1 (nan ∷ []) [] one (refuses 18 0 0 one)
    ∷ line 1 2 (num 1 ∷ num 1 ∷ nan ∷ num 1 ∷ []) (nan ∷ nan ∷ []) three (refuses 6 2 1 three)
    ∷ line 2 2 (num 1 ∷ num 0 ∷ num 0 ∷ num 0 ∷ []) (nan ∷ nan ∷ []) three (refuses 7 2 2 three)
    ∷ line 1 2 (num 0 ∷ minus (quo 1 (2 ^ 1074)) ∷ num 0 ∷ num 0 ∷ []) (nan ∷ nan ∷ []) three (refuses 8 1 2 three)
    ∷ line 1 2 (num 1 ∷ minus (num 1) ∷ num 0 ∷ num 0 ∷ []) (nan ∷ nan ∷ []) three (refuses 9 2 0 three)
    ∷ []
