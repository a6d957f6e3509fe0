-- `places::ask_sizes` meets its contract. Assumes nothing.
use Rattle.answers.proofs.Outcome.{in_other_words}
use Rattle.places.proofs.PlaceQuestions.{large_places}
use Rattle.places.proofs.ask_sizes.Goals as goal

pub returns : goal.returns
returns c = in_other_words (large_places _ _ _) c.ask_places.ensures
