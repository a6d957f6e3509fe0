-- An answer of document 01 as numbers: what a call returns, and what it leaves in its out places.
use Rattle.std.specs.Prelude.{◌≡◌, ℕ, ℤ}
use Rattle.definitions.specs.File.{Head}
use Rattle.definitions.specs.Services.{Answer, given, refused}

module _ {A : Type 0} where
  -- The number, the row and the column of the refusal, and 0 where the call is accepted.
  unfoldable pub number_of : Answer A → ℕ
  number_of (given value) = 0
  number_of (refused number row column) = number

  unfoldable pub row_of : Answer A → ℕ
  row_of (given value) = 0
  row_of (refused number row column) = row

  unfoldable pub column_of : Answer A → ℕ
  column_of (given value) = 0
  column_of (refused number row column) = column

  -- "No lent place has changed by then": the part of what is handed over, or what the place held before.
  unfoldable pub handed : {B : Type 0} → (A → B) → Answer A → B → B
  handed part (given value) before = part value
  handed part (refused number row column) before = before

-- What every call that can be refused tells: the number returned, and its places for a row and a column.
pub record Refusal {A : Type 0} (answer : Answer A) (returned at_row at_column : ℕ) : Type 0 where
  pub number : returned ≡ number_of answer
  pub row : at_row ≡ row_of answer
  pub column : at_column ≡ column_of answer

-- What a call that hands over one value leaves: what it tells, and the value's place before and after.
pub record ValueHanded {A : Type 0} (answer : Answer A) (before after : A) (at_row at_column returned : ℕ) : Type 0 where
  pub told : Refusal answer returned at_row at_column
  pub gives : after ≡ handed (λ value. value) answer before

-- The same for a head, with the places for the reading, for the number of stages and for e.
pub record HeadHanded (answer : Answer Head) (reading reading' n n' : ℕ) (e e' : ℤ) (at_row at_column returned : ℕ) : Type 0 where
  pub told : Refusal answer returned at_row at_column
  pub reads : reading' ≡ handed (λ head. head.reading) answer reading
  pub stages : n' ≡ handed (λ head. head.n) answer n
  pub unit : e' ≡ handed (λ head. head.e) answer e
