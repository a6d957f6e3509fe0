-- `sheet::ask_numbers` meets its contract. Assumes nothing.
use borrow.Author.Tests.{not-true, not-false}
use Rattle.definitions.specs.Questions.{place_questions, number_questions}
use Rattle.answers.specs.Outcome.{ComesTo}
use Rattle.answers.proofs.Outcome.{goes_on, handed, handed_on}
use mathlib.Core.Path.{ap}
use mathlib.Core.Bool.{true, false, not, cond}
use Rattle.sheet.proofs.ask_numbers.Goals as goal

pub returns-then-not-nine : goal.returns-then-not-nine
returns-then-not-nine c = rw (not-true c.args.nine (ap not c.if-not-nine.true)) c.in_ok-ask_all_places.ensures

pub returns : goal.returns
unfolding number_questions
returns c = rw (not-false c.args.nine (ap not c.if-not-nine.false)) (goes_on c.in_ok-ask_all_places.ensures c.ask_trapped.ensures)

pub returns-in_err-ask_all_places : goal.returns-in_err-ask_all_places
unfolding number_questions
returns-in_err-ask_all_places c =
    let reading = c.args.whole.reading in
    let n = c.args.whole.sheet.n in
    let sheet = c.args.whole.sheet.numbers.now in
    elim c.args.nine as (λ b. ComesTo (cond b (number_questions reading n sheet) (place_questions reading n sheet)) c.from_residual.result) [
      | true ↦ handed_on _ c.from_residual.ensures.1 c.in_err-ask_all_places.ensures
      | false ↦ handed c.from_residual.ensures.1 c.in_err-ask_all_places.ensures
    ]
