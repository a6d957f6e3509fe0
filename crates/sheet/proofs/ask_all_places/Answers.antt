-- `sheet::ask_all_places` meets its contract. Assumes nothing.
use Rattle.std.proofs.Common.{rules}
use Rattle.exact.proofs.Bools.{holds}
use Rattle.definitions.specs.Questions.{place_questions}
use Rattle.answers.proofs.Outcome.{all_pass, goes_on}
use Rattle.sheet.proofs.ask_all_places.Goals as goal

pub returns : goal.returns
unfolding place_questions
returns c = goes_on c.in_ok-ask_finite.ensures (goes_on c.in_ok-ask_signs.ensures c.ask_sizes.ensures)

pub returns-then-sheet_passes : goal.returns-then-sheet_passes
returns-then-sheet_passes c = all_pass (c.sheet_passes.ensures (holds c.if-sheet_passes.true))

pub returns-in_err-ask_finite : goal.returns-in_err-ask_finite
unfolding place_questions
returns-in_err-ask_finite c = search rules

pub returns-in_err-ask_signs : goal.returns-in_err-ask_signs
unfolding place_questions
returns-in_err-ask_signs c = search rules
