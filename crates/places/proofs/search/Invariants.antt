-- `places::search` meets its contract: no bad place so far. Assumes nothing.
use mathlib.Core.Path.{◌≡◌}
use mathlib.Core.Bool.{Bool}
use Prim.Native.Nat.{ℕ}
use lib.Ieee.{Float}
use Rattle.definitions.specs.Sheet.{sheet_rows}
use Rattle.steps.proofs.Searches.{from_row, from_place}
use Rattle.places.specs.PlaceQuestions.{search_places, Computes}
use Rattle.places.proofs.PlaceQuestions.{place_passes}
use Rattle.places.proofs.search.Given as goal

abbrev pub invariant-loop-j : goal.invariant-loop-j
invariant-loop-j g l =
    (question : ℕ) (good : ℕ → ℕ → Float → Bool) → Computes (goal.F-post g l.passes) good →
    search_places good question l.whole.reading l.whole.sheet.n l.whole.sheet.numbers.now ≡ from_place (place_passes l.whole.reading l.whole.sheet.n l.whole.sheet.numbers.now good) question (sheet_rows l.whole.reading l.whole.sheet.n) l.whole.sheet.n l.i l.j

abbrev pub invariant-loop-i : goal.invariant-loop-i
invariant-loop-i g l =
    (question : ℕ) (good : ℕ → ℕ → Float → Bool) → Computes (goal.F-post g l.passes) good →
    search_places good question l.whole.reading l.whole.sheet.n l.whole.sheet.numbers.now ≡ from_row (place_passes l.whole.reading l.whole.sheet.n l.whole.sheet.numbers.now good) question (sheet_rows l.whole.reading l.whole.sheet.n) l.whole.sheet.n l.i
