-- `readings::steps` meets its contract. Assumes nothing.
use Prim.Native.Nat.{ℕ, ◌*◌}
use mathlib.Core.List.{List}
use mathlib.Core.Path.{◌≡◌, sym, ◌∙◌}
use lib.Ieee.{Float}
use lib.ListN.{drop}
use borrow.Author.Rules.{rules}
use Rattle.passes.specs.Weights.{Enough}
use borrow.Author.Tests.{not-false}
use Rattle.loading.proofs.LoadedSheet.{enough_weights}
use Rattle.readings.proofs.SheetSteps.{every_part, every_stepped}
use Rattle.readings.proofs.steps.Goals as goal
use Rattle.readings.proofs.steps.Goals.{else-whole-eq1-via-then-whole-eq1+else-some_idle, else-whole-eq1-via-else-whole-eq1}

-- Weights that are the sheet's tail are enough.
enough_of : (n : ℕ) (weights tail : List Float) → Enough n tail → weights ≡ tail → Enough n weights
enough_of n weights tail h e = rw e h

pub every_stage-requires : goal.every_stage-requires
every_stage-requires c =
    let sheet = c.args.whole.sheet in
    (enough_of sheet.n _ (drop (sheet.n * sheet.n) sheet.numbers.now) (enough_weights c.args.whole.whole) (search rules), c.requires)

pub returns : goal.returns
returns c =
    every_stepped c.args.whole.whole c.if-whole-eq2.false
    (elim c.else-whole-eq1.branch [
      | else-whole-eq1-via-then-whole-eq1+else-some_idle w ↦ rw w.if-whole-eq1.true (not-false _ (sym w.some_idle.ensures ∙ w.if-some_idle.false))
      | else-whole-eq1-via-else-whole-eq1 w ↦ every_part _ _ _ w.if-whole-eq1.false
    ])
    (rw c.weights.ensures at c.every_stage.ensures)
