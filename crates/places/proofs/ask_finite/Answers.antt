-- `places::ask_finite` meets its contract. Assumes nothing.
use Rattle.answers.proofs.Outcome.{in_other_words}
use Rattle.places.proofs.PlaceQuestions.{finite_places}
use Rattle.places.proofs.ask_finite.Goals as goal

pub returns : goal.returns
returns c = in_other_words (finite_places _ _ _) c.ask_places.ensures
