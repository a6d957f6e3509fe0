-- The declared answers as document 01's: what was asked for, or a number, a row and a column.
use Rattle.std.specs.Prelude.{ℕ, Result, Ok, Err}
use Rattle.definitions.specs.File as file
use Rattle.definitions.specs.Questions.{Asked, pass, refuse}
use Rattle.definitions.specs.Services.{Answer, given, refused}
use Rattle.answers.specs.declared.Question.{Question}
use Rattle.answers.specs.declared.Question.TheVariants as question
use Rattle.answers.specs.declared.Refusal.{Refusal}
use Rattle.answers.specs.declared.Head.{Head}

-- The number of a question (document 01, "The questions, in order"; document 02, U4, U5 and U7).
abbrev pub number : Question → ℕ
number question.Reading = 1
number question.Stages = 2
number question.Length = 3
number question.Room = 4
number question.StageAsked = 5
number question.Finite = 6
number question.Sign = 7
number question.Size = 8
number question.WayOut = 9
number question.InRange = 10
number question.WholeRecord = 11
number question.Head = 12
number question.RecordDue = 13
number question.FileEnds = 14
number question.Exponent = 15
number question.RoomToMove = 16
number question.MovedUnit = 17
number question.PriceCount = 18
number question.Price = 19

-- The refusal of a question of the whole call, which has no row and no column.
abbrev pub of_call : Question → Refusal
of_call asked = record { question = asked; row = 0; column = 0 }

-- What questions come to: a pass, or a refusal.
abbrev pub asked : {A : Type 0} → Result A Refusal → Asked
asked (Ok value) = pass
asked (Err refusal) = refuse (number refusal.question) refusal.row refusal.column

-- What a service answers (document 01, "Which form goes where").
abbrev pub told : {A : Type 0} → Result A Refusal → Answer A
told (Ok value) = given value
told (Err refusal) = refused (number refusal.question) refusal.row refusal.column

-- The same of a sheet file: what its head says (document 01, "The sheet file"; document 02, U5).
abbrev pub head_of : Head → file.Head
head_of head = record { reading = head.reading; n = head.n; e = head.e }

abbrev pub head_told : Result Head Refusal → Answer file.Head
head_told (Ok head) = given (head_of head)
head_told (Err refusal) = refused (number refusal.question) refusal.row refusal.column
