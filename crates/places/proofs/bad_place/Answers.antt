-- `places::bad_place` meets its contract. Assumes nothing.
use mathlib.Core.Path.{◌∙◌}
use Rattle.std.proofs.Common.{rules}
use Rattle.definitions.specs.Numbers.{finite}
use Rattle.definitions.specs.Questions.{large_enough}
use Rattle.places.specs.PlaceQuestions.{sign_at}
use Rattle.places.proofs.PlaceQuestions.{finite_search, signs_search, sizes_search}
use Rattle.places.proofs.bad_place.Goals as goal

pub returns-then-question-eq6 : goal.returns-then-question-eq6
returns-then-question-eq6 c = finite_search _ _ _ c.if-question-eq6.true ∙ c.search.ensures _ (λ i j x. finite x) (search rules)

pub returns-then-question-eq7 : goal.returns-then-question-eq7
returns-then-question-eq7 c =
    signs_search _ _ _ c.if-question-eq7.true ∙ c.search-then-question-eq7.ensures _ (sign_at c.args.whole.reading c.args.whole.sheet.n) (search rules)

pub returns : goal.returns
returns c = sizes_search _ _ _ c.if-question-eq6.false c.if-question-eq7.false ∙ c.search-2.ensures _ (λ i j x. large_enough x) (search rules)
