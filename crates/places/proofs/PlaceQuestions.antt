-- The search for the first bad place, by the rows and places that are left, for any test of a number at its place.
use mathlib.Core.Path.{◌≡◌, refl, sym, ap, ◌∙◌}
use mathlib.Core.List.{List}
use mathlib.Core.Bool.{Bool}
use Prim.Native.Nat.{ℕ}
use borrow.Author.Tests.{ne_eqb}
use lib.Ieee.{Float}
use Rattle.definitions.specs.Sheet.{sheet_rows, place}
use Rattle.definitions.specs.Questions.{◌then◌, large_enough, question6, question7, question8, right_sign, place_questions}
use Rattle.definitions.specs.Numbers.{finite}
use Rattle.places.specs.PlaceQuestions.{sign_at, passes, search_places, ask_places}
use Rattle.steps.proofs.Searches.{from_row, all-rows}

module _ (reading n : ℕ) (sheet : List Float) where
  -- The three questions are asked so,
  pub finite_places : ask_places 6 reading n sheet ≡ question6 reading n sheet
  unfolding ask_places passes question6
  finite_places = refl

  pub signed_places : ask_places 7 reading n sheet ≡ question7 reading n sheet
  unfolding ask_places passes question7 sign_at right_sign
  signed_places = refl

  pub large_places : ask_places 8 reading n sheet ≡ question8 reading n sheet
  unfolding ask_places passes question8
  large_places = refl

  -- one after another.
  pub in_order_lem : (ask_places 6 reading n sheet then ask_places 7 reading n sheet then ask_places 8 reading n sheet) ≡ place_questions reading n sheet
  unfolding ask_places passes place_questions question6 question7 question8 sign_at right_sign
  in_order_lem = refl

  -- What each search of the code comes to, by the question's number.
  module _ {question : ℕ} where
    pub finite_search : question ≡ 6 → ask_places question reading n sheet ≡ search_places (λ i j x. finite x) question reading n sheet
    unfolding ask_places search_places passes
    finite_search is = rw is

    pub signs_search : question ≡ 7 → ask_places question reading n sheet ≡ search_places (sign_at reading n) question reading n sheet
    unfolding ask_places search_places passes
    signs_search is = rw is

    pub sizes_search : (question ≡ 6 → ⊥) → (question ≡ 7 → ⊥) → ask_places question reading n sheet ≡ search_places (λ i j x. large_enough x) question reading n sheet
    unfolding ask_places search_places passes
    sizes_search six seven = rw (ne_eqb question 6 six, ne_eqb question 7 seven)

  module _ (good : ℕ → ℕ → Float → Bool) where
    -- The test of each place.
    pub place_passes : ℕ → ℕ → Bool
    place_passes i j = good i j (place n sheet i j)

    pub search_rows : (question : ℕ) → search_places good question reading n sheet ≡ from_row place_passes question (sheet_rows reading n) n 0
    unfolding search_places place_passes
    search_rows question = all-rows place_passes question (sheet_rows reading n) n

    -- The code's test b of the number x.
    pub place_tested : (i j : ℕ) {x : Float} {b : Bool} → x ≡ place n sheet i j → b ≡ good i j x → place_passes i j ≡ b
    unfolding place_passes
    place_tested i j e t = ap (λ y. good i j y) (sym e) ∙ sym t
