-- `places::ask_signs` meets its contract. Assumes nothing.
use Rattle.answers.proofs.Outcome.{in_other_words}
use Rattle.places.proofs.PlaceQuestions.{signed_places}
use Rattle.places.proofs.ask_signs.Goals as goal

pub returns : goal.returns
returns c = in_other_words (signed_places _ _ _) c.ask_places.ensures
