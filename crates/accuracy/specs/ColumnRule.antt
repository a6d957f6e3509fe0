-- The accuracy rule of one column, in two parts (document 02, U2).
use Rattle.std.specs.Prelude.{ℕ, ◌-◌, List, ◌≡◌, ℤ, Float}
use Rattle.definitions.specs.Fractions.{Fraction}
use Rattle.definitions.specs.Sheet.{takes_part, allowance}
use Rattle.definitions.specs.Matrix.{matrix}
use Rattle.definitions.specs.Table.{entry}
use Rattle.definitions.specs.Questions.{pass, number_questions}
use Rattle.definitions.specs.Accuracy.{Binary64, OnlyInverse, AccurateColumn}
use Rattle.definitions.specs.Column.{column_questions}

-- Theorem: of reading 1, "there is such an X, and only one" follows from the questions before 10 alone.
unfoldable pub InverseRule : Type 0
InverseRule =
    (n : ℕ) (sheet : List Float)
    → Binary64 sheet
    → number_questions 1 n sheet ≡ pass
    → (X : ℕ → ℕ → Fraction) × OnlyInverse n (takes_part 1 n sheet) (matrix 1 n sheet) X

-- Theorem: "The accuracy rule covers this column whenever it is accepted."
unfoldable pub ColumnRule : Type 0
ColumnRule =
    (reading n : ℕ) (e : ℤ) (sheet : List Float) (room stage : ℕ)
    → Binary64 sheet
    → column_questions reading n e sheet room stage ≡ pass
    → AccurateColumn n (takes_part 1 n sheet) (allowance 1 n) (matrix 1 n sheet) (stage - 1) (λ i. entry 1 n sheet i (stage - 1))
