-- "Moving units must commute with the table", and two moves are one (document 02, U9 and U10), said of what the services answer and write.
use Rattle.std.specs.Prelude.{ℕ, ◌*◌, ◌≤◌, List, map, ◌≡◌, T, ℤ, neg_ℤ, ◌+ℤ◌, length, take, Float}
use Rattle.definitions.specs.Sheet.{sheet_numbers}
use Rattle.definitions.specs.Questions.{exponent_in_range}
use Rattle.definitions.specs.Accuracy.{Binary64}
use Rattle.definitions.specs.Services.{Answer, given, table_answer, table_area, entry_answer}
use Rattle.definitions.specs.Column.{column_answer, column_area}
use Rattle.definitions.specs.Prices.{price_answer, price_area}
use Rattle.definitions.specs.Moving.{times_power, move_answer, moved_area}

-- An accepted move by k: what the call answers, and the sheet that it leaves in its area's first places, as many as the sheet has
-- numbers.
pub record Moved (reading n : ℕ) (e : ℤ) (sheet : List Float) (k e' : ℤ) (sheet' : List Float) : Type 0 where
  pub area : List Float
  pub answered : move_answer reading n e sheet k (length area) ≡ given e'
  pub written : sheet' ≡ take (sheet_numbers reading n) (moved_area reading n e sheet k area)

-- Two calls that fill m places, each by its answer and its area after it: if both are accepted, both hand over the same allowance,
-- and the second's m numbers are the first's, each times 2^-k.
unfoldable pub TimesBack : ℕ → ℤ → Answer ℕ → List Float → Answer ℕ → List Float → Type 0
TimesBack m k answer area answer' area' =
    (E E' : ℕ) → answer ≡ given E → answer' ≡ given E' → (E' ≡ E) × (take m area' ≡ map (λ number. times_power (neg_ℤ k) number) (take m area))

-- The services on a sheet, and on the same sheet moved by k.
pub record Commutes (reading n : ℕ) (e : ℤ) (sheet : List Float) (k e' : ℤ) (sheet' : List Float) : Type 0 where
  pub table :
      (area area' : List Float)
      → TimesBack (n * n) k
      (table_answer reading n e sheet (length area)) (table_area reading n e sheet area)
      (table_answer reading n e' sheet' (length area')) (table_area reading n e' sheet' area')
  pub entry :
      (i j : ℕ) (x x' : Float) → entry_answer reading n e sheet i j ≡ given x → entry_answer reading n e' sheet' i j ≡ given x'
      → x' ≡ times_power (neg_ℤ k) x
  pub column :
      (stage : ℕ) (area area' : List Float)
      → TimesBack n k
      (column_answer reading n e sheet (length area) stage) (column_area reading n e sheet stage area)
      (column_answer reading n e' sheet' (length area') stage) (column_area reading n e' sheet' stage area')
  pub prices :
      (unit_prices area area' : List Float) → Binary64 unit_prices
      → TimesBack n k
      (price_answer reading n e sheet unit_prices (length area)) (price_area reading n e sheet unit_prices area)
      (price_answer reading n e' sheet' unit_prices (length area')) (price_area reading n e' sheet' unit_prices area')

-- Theorem: "If a sheet and the same sheet moved by k are both accepted, the second table is the first with each entry times 2^-k,
-- bit for bit", for every reading, and so one entry, one column and prices.
unfoldable pub MovingCommutes : Type 0
MovingCommutes =
    (reading n : ℕ) (e : ℤ) (sheet : List Float) (k e' : ℤ) (sheet' : List Float)
    → Binary64 sheet → Moved reading n e sheet k e' sheet' → Commutes reading n e sheet k e' sheet'

-- Theorem: "Moving by a and then by b equals moving by a + b, if both moves are accepted, the single one has room too, and a + b lies
-- in −512 to 512": the single move is accepted and hands over the same e, and its area and that of the second move, lent with the same
-- contents, end equal in every place.
unfoldable pub TwoMovesAreOne : Type 0
TwoMovesAreOne =
    (reading n : ℕ) (e : ℤ) (sheet : List Float) (a e' : ℤ) (sheet' : List Float) (b e'' : ℤ) (sheet'' area : List Float)
    → Moved reading n e sheet a e' sheet' → Moved reading n e' sheet' b e'' sheet''
    → sheet_numbers reading n ≤ length area → T (exponent_in_range (a +ℤ b))
    → (move_answer reading n e sheet (a +ℤ b) (length area) ≡ given e'')
    × (moved_area reading n e sheet (a +ℤ b) area ≡ moved_area reading n e' sheet' b area)
