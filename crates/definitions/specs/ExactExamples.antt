-- The exact side on the sheets of document 01, "Sheets to try": H's matrix as printed there, that of W, tables that are exact inverses,
-- and the rule's y where a stage is idle; and exact prices.
use Rattle.std.specs.Prelude.{ℕ, ◌+◌, ◌*◌, List, [], ◌∷◌, true, cond, ◌≡◌, eqb, Float}
use Rattle.definitions.specs.Fractions.{Fraction, ◌≈◌, whole, -ᶠ◌, ◌*ᶠ◌, ◌/ᶠ◌, value, total}
use Rattle.definitions.specs.Sheet.{takes_part}
use Rattle.definitions.specs.Matrix.{matrix}
use Rattle.definitions.specs.Accuracy.{extended, exact_price}
use Rattle.definitions.specs.Prices.{unit_price}
use Rattle.definitions.specs.Table.{entry}
use Rattle.definitions.specs.Questions.{pass, question9}
use Rattle.definitions.specs.Starred.{num, minus, sheet_w}

-- H: "A is [4, −1 | −4, 2]".
unfoldable pub sheet_h : List Float
sheet_h = num 3 ∷ minus (num 1) ∷ minus (num 4) ∷ num 1 ∷ []

unfoldable pub MatrixOfH : Type 0
MatrixOfH =
    (matrix 2 2 sheet_h 0 0 ≈ whole 4)
    × (matrix 2 2 sheet_h 0 1 ≈ -ᶠ whole 1)
    × (matrix 2 2 sheet_h 1 0 ≈ -ᶠ whole 4)
    × (matrix 2 2 sheet_h 1 1 ≈ whole 2)

-- W, of reading 3: A is [4, −1 | −1, 1.25] (document 02, U10).
unfoldable pub MatrixOfW : Type 0
MatrixOfW =
    (matrix 3 2 sheet_w 0 0 ≈ whole 4)
    × (matrix 3 2 sheet_w 0 1 ≈ -ᶠ whole 1)
    × (matrix 3 2 sheet_w 1 0 ≈ -ᶠ whole 1)
    × (matrix 3 2 sheet_w 1 1 ≈ whole 5 /ᶠ whole 4)

-- A times the printed table is the identity, over the stages that take part: place (i, j) of two stages.
unfoldable pub Product : ℕ → List Float → ℕ → ℕ → Type 0
Product reading sheet i j =
    total (takes_part reading 2 sheet) (λ k. matrix reading 2 sheet i k *ᶠ value (entry reading 2 sheet k j)) 2 ≈ cond (eqb i j) (whole 1) (whole 0)

unfoldable pub ExactTable : ℕ → List Float → Type 0
ExactTable reading sheet = Product reading sheet 0 0 × Product reading sheet 0 1 × Product reading sheet 1 0 × Product reading sheet 1 1

-- D, whose second stage is idle (document 02, U3).
unfoldable pub sheet_d : List Float
sheet_d = num 1 ∷ num 0 ∷ num 0 ∷ num 0 ∷ []

-- P, H, I and W; and of D the one stage that is not idle.
unfoldable pub ExactTables : Type 0
ExactTables =
    ExactTable 1 (num 1 ∷ minus (num 1) ∷ minus (num 1) ∷ num 0 ∷ [])
    × ExactTable 2 sheet_h
    × ExactTable 2 (num 2 ∷ num 0 ∷ minus (num 1) ∷ num 4 ∷ [])
    × ExactTable 3 sheet_w
    × Product 1 sheet_d 0 0

-- The rule's y on D, whatever X is: X's entry at the first stage, and zero in the row and column of the second, which is idle.
unfoldable pub RuleOfD : Type 0
RuleOfD =
    (X : ℕ → ℕ → Fraction)
    → (extended (takes_part 1 2 sheet_d) X 0 0 ≡ X 0 0)
    × (extended (takes_part 1 2 sheet_d) X 0 1 ≡ whole 0)
    × (extended (takes_part 1 2 sheet_d) X 1 0 ≡ whole 0)
    × (extended (takes_part 1 2 sheet_d) X 1 1 ≡ whole 0)

-- Idle stages and question 9 are of reading 1 alone: in the others stage 1 of [0] takes part, and 9 passes on C.
unfoldable pub ReadingOneAlone : ℕ → Type 0
ReadingOneAlone reading =
    (takes_part reading 1 (num 0 ∷ num 1 ∷ []) 0 ≡ true)
    × (question9 reading 2 (num 0 ∷ minus (num 1) ∷ minus (num 1) ∷ num 0 ∷ num 1 ∷ num 1 ∷ []) ≡ pass)

-- Exact prices (document 02, U7), of the y [0, 1 | 2, 3] and prices 5 and 7: 0·5 + 1·7 and 2·5 + 3·7.
unfoldable pub ExactPrices : Type 0
ExactPrices =
    let price = exact_price 2 (λ i j. whole (2 * i + j)) (unit_price (num 5 ∷ num 7 ∷ [])) in
    (price 0 ≈ whole 7) × (price 1 ≈ whole 31)
