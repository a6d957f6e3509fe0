-- `quick::diagonal_passes` meets its contract. Assumes nothing.
use mathlib.Core.Path.{subst}
use Rattle.definitions.specs.Sheet.{place}
use Rattle.quick.specs.QuickPass.{PassesOn}
use Rattle.quick.proofs.QuickNumbers.{parameter_passes}
use Rattle.quick.proofs.QuickSheets.{flag_more}
use Rattle.quick.proofs.diagonal_passes.Goals as goal

pub loop-i-preserved : goal.loop-i-preserved
loop-i-preserved c =
    let at = c.loop-i in
    flag_more (λ k. PassesOn c.args.reading (place c.args.sheet.n c.args.sheet.numbers.now k k)) _ at.good _ at.invariant (λ t. subst (PassesOn c.args.reading) c.number_at-x.ensures (parameter_passes _ _ t))
