-- A refusal ends the questions, and a pass goes on to the next.
use mathlib.Core.Path.{◌≡◌, ap}
use mathlib.Core.Bool.{Bool, true, false, not}
use Prim.Native.Nat.{ℕ}
use borrow.Author.Tests.{not-true, not-false}
use Rattle.std.specs.Prelude.{Result, Ok, Err, IsErrAnd}
use Rattle.definitions.specs.Questions.{Asked, pass, refuse, ◌then◌, ask}
use Rattle.answers.specs.declared.Question.{Question}
use Rattle.answers.specs.declared.Refusal.{Refusal}
use Rattle.answers.specs.Answers.{number, of_call}
use Rattle.answers.specs.Outcome.{ComesTo}

-- What questions without a value come to: a pass, or the refusal of the whole call.
abbrev pub Passes : Asked → Type 0
Passes q = ComesTo {A = Unit {0}} q (Ok (tt {0}))

abbrev pub Refuses : Asked → Question → Type 0
Refuses q question = ComesTo {A = Unit {0}} q (Err (of_call question))

pub all_pass : {q : Asked} → q ≡ pass → Passes q
all_pass e = record { is = e }

pub no : {A : Type 0} {q : Asked} {refusal : Refusal} → q ≡ refuse (number refusal.question) refusal.row refusal.column → ComesTo {A = A} q (Err refusal)
no e = record { is = e }

pub refused : {A : Type 0} {q : Asked} {refusal : Refusal} → ComesTo {A = A} q (Err refusal) → q ≡ refuse (number refusal.question) refusal.row refusal.column
refused answer = answer.is

pub passed : {A : Type 0} {q : Asked} {value : A} → ComesTo q (Ok value) → q ≡ pass
passed answer = answer.is

-- The questions with others after them.
pub ends : {A B : Type 0} {q : Asked} {refusal : Refusal} (next : Asked) → ComesTo {A = A} q (Err refusal) → ComesTo {A = B} (q then next) (Err refusal)
ends next answer = record { is = rw answer.is }

-- What `?` hands on is the refusal that it met.
pub is_refusal : {A : Type 0} {answer : Result A Refusal} {refusal : Refusal} → IsErrAnd answer (λ e. e ≡ refusal) → answer ≡ Err refusal
is_refusal {answer = Ok value} e = absurd e
is_refusal {answer = Err refusal} e = ap (λ r. Err r) e

pub handed : {A B : Type 0} {q : Asked} {answer : Result B Refusal} {refusal : Refusal} → IsErrAnd answer (λ e. e ≡ refusal) → ComesTo {A = A} q (Err refusal) → ComesTo q answer
handed e h = record { is = rw (is_refusal e) h.is }

pub handed_on : {A B : Type 0} {q : Asked} {answer : Result B Refusal} {refusal : Refusal} (next : Asked)
    → IsErrAnd answer (λ e. e ≡ refusal) → ComesTo {A = A} q (Err refusal) → ComesTo (q then next) answer
handed_on next e h = handed e (ends {B = Unit {0}} next h)

pub goes_on : {A B : Type 0} {q next : Asked} {value : A} {other : Result B Refusal} → ComesTo q (Ok value) → ComesTo next other → ComesTo (q then next) other
goes_on answer other = record { is = rw answer.is other.is }

-- The same questions in other words.
pub in_other_words : {A : Type 0} {q q' : Asked} {answer : Result A Refusal} → q ≡ q' → ComesTo q answer → ComesTo q' answer
in_other_words e answer = rw e at answer

-- One question, by its test.
pub asked_no : (b : Bool) (number row column : ℕ) → not b ≡ true → ask b number row column ≡ refuse number row column
asked_no b number row column e = rw (not-true b e)

pub asked_yes : (b : Bool) (number row column : ℕ) → not b ≡ false → ask b number row column ≡ pass
asked_yes b number row column e = rw (not-false b e)
