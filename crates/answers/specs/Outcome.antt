-- What the questions of a call come to (document 01, "The questions, in order").
use Rattle.std.specs.Prelude.{Result, Ok, Err, ◌≡◌}
use Rattle.definitions.specs.Questions.{Asked}
use Rattle.answers.specs.declared.Question.{Question}
use Rattle.answers.specs.declared.Refusal.{Refusal}
use Rattle.answers.specs.Answers.{of_call, asked}

-- A pass where every question passes, and else the refusal with its number, row and column.
pub record ComesTo {A : Type 0} (questions : Asked) (answer : Result A Refusal) : Type 0 where
  pub is : questions ≡ asked answer

-- The same for questions of the whole call alone, which have no row and no column.
abbrev pub at_call : {A : Type 0} → Result A Question → Result A Refusal
at_call (Ok value) = Ok value
at_call (Err question) = Err (of_call question)

abbrev pub CallComesTo : {A : Type 0} → Asked → Result A Question → Type 0
CallComesTo questions answer = ComesTo questions (at_call answer)
