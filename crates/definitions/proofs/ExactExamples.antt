-- The exact side on H, P, I, W and D, and exact prices, by computation from the definitions.
use mathlib.Core.Path.{refl}
use Rattle.definitions.proofs.Computing.{computing}
use Rattle.definitions.specs.ExactExamples.{MatrixOfH, MatrixOfW, ExactTables, RuleOfD, ReadingOneAlone, ExactPrices}

pub matrix_of_H : MatrixOfH
unfolding computing
matrix_of_H = (refl, refl, refl, refl)

pub matrix_of_W : MatrixOfW
unfolding computing
matrix_of_W = (refl, refl, refl, refl)

pub exact_tables : ExactTables
unfolding computing
exact_tables = ((refl, refl, refl, refl), (refl, refl, refl, refl), (refl, refl, refl, refl), (refl, refl, refl, refl), refl)

pub rule_of_D : RuleOfD
unfolding computing
rule_of_D X = (refl, refl, refl, refl)

pub reading-one_alone : ReadingOneAlone 2 × ReadingOneAlone 3
unfolding computing
reading-one_alone = ((refl, refl), (refl, refl))

pub exact_prices : ExactPrices
unfolding computing
exact_prices = (refl, refl)
