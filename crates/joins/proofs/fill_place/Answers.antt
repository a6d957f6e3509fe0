-- `joins::fill_place` meets its contract. Assumes nothing.
use mathlib.Core.Path.{refl, sym, ◌∙◌}
use Rattle.tables.specs.RowMajor.{table}
use Rattle.tables.specs.Vectors.{vector}
use Rattle.compact.specs.Listing.{marked}
use Rattle.joins.specs.StageJoin.{knows}
use Rattle.joins.proofs.ColumnSteps.{place-filled, place-left}
use Rattle.joins.proofs.fill_place.Goals as goal

pub returns-then-is_known : goal.returns-then-is_known
returns-then-is_known c =
    place-filled c.args.n c.args.c (knows c.args.c (marked c.args.kept.now)) (vector c.args.w.now) c.args.i (table c.args.x.now) (sym c.is_known.ensures ∙ c.if-is_known.true) c.column_sum-sum.ensures c.put.ensures c.is_finite-finite.ensures

pub returns : goal.returns
returns c =
    place-left c.args.n c.args.c (knows c.args.c (marked c.args.kept.now)) (vector c.args.w.now) c.args.i (table c.args.x.now) (sym c.is_known.ensures ∙ c.if-is_known.false) c.told-x refl
