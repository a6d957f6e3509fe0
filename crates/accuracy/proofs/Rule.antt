-- The accuracy rule of document 01, for every reading, and of one column.
use Prim.Native.Nat.{ℕ, zero, ◌-◌, ◌*◌, ◌^◌, ◌≤◌, ◌<◌}
use native.Mathlib.Nat.{mul-le-mul}
use native.Mathlib.Omega.{arith}
use mathlib.Core.Bool.{Bool, true, false, ◌&&◌, true≢false}
use mathlib.Core.List.{List}
use mathlib.Core.Path.{◌≡◌, refl, sym, ap, ◌∙◌, subst}
use lib.Dec.{T, eqb}
use lib.Ieee.{Float}
use lib.Ieee.Bits.{is_true, is_false}
use lib.Ieee.Fits.{and_l, and_r}
use borrow.Author.Tests.{eq-eqb, ne_eqb}
use Rattle.exact.specs.Systems.{Solves}
use Rattle.exact.specs.Elimination.{Existence}
use Rattle.exact.proofs.Elimination.{existence}
use Rattle.exact.proofs.Near.{near_grow}
use Rattle.exact.proofs.Bools.{and_first, and_second}
use Rattle.exact.proofs.Cases.{by_bool, by_equal}
use Rattle.definitions.specs.LeavingRates.{Weights, none, some, System, quotient, shared, column}
use Rattle.definitions.specs.Margins as Margins
use Rattle.definitions.specs.Numbers.{units}
use Rattle.definitions.specs.Compact.{rank}
use Rattle.definitions.specs.Sheet.{by_reading, size, diagonal, weights, takes_part, allowance}
use Rattle.definitions.specs.Matrix.{matrix, every_stage}
use Rattle.definitions.specs.Table.{live_count, live_system, live_begun, entry, every_step_in_range}
use Rattle.definitions.specs.Fractions.{Fraction}
use Rattle.definitions.specs.Accuracy.{Binary64, OnlyInverse, extended, Accurate, AccurateColumn, AccuracyRule}
use Rattle.definitions.specs.Column.{column_of, column_in_range}
use Rattle.accuracy.specs.ColumnRule.{InverseRule, ColumnRule}
use Rattle.definitions.specs.Questions.{pass, number_questions, Accepted}
use Rattle.rounding.specs.Good.{one·units}
use Rattle.rates_accuracy.specs.LeavingRatesAccuracy.{weight_units, exit_units, GoodWeights, identity_column, EngineWithin, cubes, EngineAccuracy}
use Rattle.inverse.specs.Reduction.{delta, Apart, fraction, NearFraction, EntryReduction, NearInverse, TableReduction}
use Rattle.inverse.specs.ExactRatios.{RatiosExist}
use Rattle.inverse.specs.RowForms.{InUnits, WeightedForm, LeavingRatesRows, WeightedRows}
use Rattle.inverse.specs.ReducedReadings.{LeavingRatesInverse, MarginsReduced}
use Rattle.margins_accuracy.specs.MarginsAccuracy.{GoodMargins, sizes_in_units, margins_in_units, MarginsAccuracy}
use Rattle.steps.proofs.QuestionLaws.{Reading, leaving_rates, margins, with_weights, reading_is}
use Rattle.rates_accuracy.proofs.Input.{size_is, diagonal_is, input_positive, input-weights}
use Rattle.rates_accuracy.proofs.PivotErrors.{weight-pos}
use Rattle.steps.proofs.AcceptedCalls.{AcceptedSheet, table_accepted, column_accepted, accepted_stage}
use Rattle.rates_accuracy.proofs.CompactEquations.{stage}
use Rattle.rates_accuracy.proofs.LiveSystem.{sheet_equations, size_to_idle, exit_live, sheet_out, live-weights-good, live-good, live-weight, live_out, live_solves}
use Rattle.steps.proofs.CompactOrder.{rank_below, rank-within, stage_of_rank, listed}
use Rattle.steps.proofs.LiveStages.{entry-live, entry-idle, steps_in_range, column_of-live}
use Rattle.rates_accuracy.proofs.LeavingRatesRange.{table-shared, table-column}
use Rattle.rates_accuracy.proofs.LeavingRatesAccuracy.{engine_accuracy}
use Rattle.inverse.proofs.ExactRatios.{ratios_exist}
use Rattle.inverse.proofs.Reduction.{near_fraction, zero_near, entry_reduction, table_reduction}
use Rattle.inverse.proofs.RowForms.{leaving_rates_rows, weighted_rows}
use Rattle.inverse.proofs.ReducedReadings.{leaving_rates_inverse, margins_reduced}
use Rattle.margins_accuracy.proofs.MarginsAccuracy.{margins_accuracy}
use Rattle.exact.proofs.Run.{cube}

-- The matrix of a reading whose steps are those for leaving rates, in its weights.
rows_of : (reading n : ℕ) (sheet : List Float) → Reading reading → eqb reading 2 ≡ false → InUnits n sheet (λ i j. units (size n sheet i j)) (λ i. units (diagonal n sheet i))
    → GoodWeights n (weights reading n sheet)
    → WeightedForm n (matrix reading n sheet) (λ i j. units (size n sheet i j)) (λ i. units (diagonal n sheet i)) (weight_units (weights reading n sheet)) (exit_units (weights reading n sheet))
unfolding LeavingRatesRows WeightedRows weights
rows_of reading n sheet (leaving_rates e) o h g = rw e (leaving_rates_rows n sheet (λ i j. units (size n sheet i j)) (λ i. units (diagonal n sheet i)) h)
rows_of reading n sheet (margins e) o h g = absurd (true≢false (sym (ap (λ r. eqb r 2) e) ∙ o))
rows_of reading n sheet (with_weights e) o h g =
    let good : GoodWeights n (weights 3 n sheet) = rw e at g in
    rw e (weighted_rows n sheet (λ i j. units (size n sheet i j)) (λ i. units (diagonal n sheet i)) h (λ j l. (good j l).good) (λ j l. (good j l).positive))

-- Readings 1 and 3: the exact solution of each column exists.
module _ (reading n : ℕ) (sheet : List Float) (known : Reading reading) (other : eqb reading 2 ≡ false) (fit : Binary64 sheet) (e : number_questions reading n sheet ≡ pass) where
  abbrev on : ℕ → Bool
  on = takes_part reading n sheet

  abbrev w : Weights
  w = weights reading n sheet

  right : ℕ → ℕ → ℕ
  right j i = delta i j one·units

  solution : (j : ℕ) → (d : ℕ) × (z : ℕ → ℕ) × (0 < d) × Solves 0 n (sheet_equations reading n sheet (right j)) d z
  unfolding Existence
  solution j = existence 0 n (sheet_equations reading n sheet (right j)) (sheet_out reading n sheet fit e (right j))

  X : ℕ → ℕ → Fraction
  X i j = fraction ((solution j).1 i * weight_units w i) (solution j).0

  -- Questions 6 to 9 alone: these solutions, times the weights, are the one inverse over the stages that take part.
  only_inverse : OnlyInverse n on (matrix reading n sheet) X
  unfolding LeavingRatesInverse Apart X right
  only_inverse =
      leaving_rates_inverse n on (matrix reading n sheet) (sheet_equations reading n sheet (λ i. zero)) (λ i j. units (size n sheet i j)) (λ i. units (diagonal n sheet i)) (weight_units w) (exit_units w) (λ j. (solution j).0) (λ j. (solution j).1)
      (weight-pos n w good-weights)
      (λ i j. refl)
      (rows_of reading n sheet known other units_of good-weights)
      (λ i s. exit_live reading n sheet fit e i (is_true (on i) s.part))
      (λ i j s l o. size_to_idle reading n sheet fit e i j s.below l (is_false (on j) o))
      (sheet_out reading n sheet fit e (λ i. zero))
      (record { positive = λ j h. (solution j).2; solves = λ j h. (solution j).3 })
    where
      good-weights : GoodWeights n w
      good-weights = input-weights reading n sheet fit e

      units_of : InUnits n sheet (λ i j. units (size n sheet i j)) (λ i. units (diagonal n sheet i))
      units_of = record { size-good = λ i j hi hj o. (size_is reading n sheet fit e i j hi hj o).good; size-units = λ i j hi hj o. refl; diagonal-good = λ i h. (diagonal_is reading n sheet fit e i h).good; diagonal-units = λ i h. refl }

  abbrev r : ℕ
  r = live_count reading n sheet

  abbrev at : ℕ → System
  at = live_begun reading n sheet

  -- The allowance covers the engine's roundings.
  allowed : (r : ℕ) → r ≤ n → cubes (live_system reading n sheet).z * (r * r * r) ≤ allowance reading n
  unfolding allowance
  allowed r few =
      let all = mul-le-mul (mul-le-mul few few) few in
      go known (live_system reading n sheet).z (omega (arith, cube n))
    where
      go : Reading reading → (w : Weights) → r * r * r ≤ n ^ 3 → cubes w * (r * r * r) ≤ by_reading reading 4 12 6 * n ^ 3
      go (leaving_rates e) none h = rw e (omega arith)
      go (leaving_rates e) (some z) h = rw e (omega arith)
      go (margins e) none h = rw e (omega arith)
      go (margins e) (some z) h = rw e (omega arith)
      go (with_weights e) none h = rw e (omega arith)
      go (with_weights e) (some z) h = rw e (omega arith)

  -- The range of the shared steps and of a stage's column: the engine's quotients of that column are near it.
  module _ (j : ℕ) (hj : j < n) (oj : on j ≡ true) (t : T (shared r at)) (u : T (column r at (rank on j))) where
    -- The right side in compact order.
    right_side_lem : (p : ℕ) → p < rank on n → right j (stage on n p) ≡ identity_column (rank on j) p
    unfolding right identity_column
    right_side_lem p l =
        by_equal p (rank on j)
        (λ s. rw (eq-eqb p (rank on j) s, eq-eqb (stage on n p) j (ap (stage on n) s ∙ stage_of_rank on n j hj oj)))
        (λ o. rw (ne_eqb p (rank on j) o, ne_eqb (stage on n p) j (λ s. o (sym (listed on n p l).place ∙ ap (rank on) s))))

    quotient_near : (i : ℕ) → i < n → on i ≡ true → NearFraction (allowance reading n) (quotient r at (rank on i) (rank on j)) (X i j)
    unfolding EngineAccuracy EngineWithin X live_count live_begun
    quotient_near i hi oi =
        let live = live_system reading n sheet in
        let engine =
        engine_accuracy live.z (rank on n) (rank on j) live (live-weights-good reading n sheet fit e) (live-good reading n sheet fit e) (live_out reading n sheet fit e) t u (solution j).0 (λ p. (solution j).1 (stage on n p))
        (live_solves reading n sheet fit e (right j) (identity_column (rank on j)) (solution j).0 (solution j).1 right_side_lem (solution j).3) (rank on i) (rank_below on n i hi oi) in
        let computed = rw (live-weight reading n sheet fit e (rank on i), stage_of_rank on n i hi oi) at engine.near in
        near_fraction (solution j).2 engine.good (near_grow (allowed (rank on n) (rank-within on n)) computed)

    -- Under its own number in the sheet.
    live_near : (i : ℕ) → i < n → on i ≡ true → NearFraction (allowance reading n) (entry reading n sheet i j) (X i j)
    live_near i hi oi = rw (entry-live reading n sheet other i j oi oj) (quotient_near i hi oi)

  -- "Zero in an idle row or column."
  idle_near : (i j : ℕ) → (on i && on j) ≡ false → NearFraction (allowance reading n) (entry reading n sheet i j) (extended on X i j)
  unfolding extended
  idle_near i j f = rw (entry-idle reading n sheet other i j f, f) (zero_near (allowance reading n))

  column_near : (j : ℕ) → j < n → T (shared r at) → (on j ≡ true → T (column r at (rank on j)))
      → (i : ℕ) → i < n → NearFraction (allowance reading n) (entry reading n sheet i j) (extended on X i j)
  unfolding extended
  column_near j hj t u i hi =
      by_bool (on i && on j)
      (λ both.
      let oj = and_second (on i) (on j) both in
      rw both (live_near j hj oj t (u oj) i hi (and_first (on i) (on j) both)))
      (λ f. idle_near i j f)

  -- The whole table: every column.
  live_table : T (every_step_in_range reading n sheet) → NearInverse n on (allowance reading n) (matrix reading n sheet) (entry reading n sheet)
  unfolding live_count live_begun
  live_table range =
      let t = rw (steps_in_range reading n sheet other) at range in
      record {
        X = X;
        exact = only_inverse;
        entry = λ i j hi hj.
            column_near j hj (table-shared (rank on n) at t)
            (λ o. table-column (rank on n) at t (rank on j) (rank_below on n j hj o)) i hi;
      }

-- One column, of reading 1.
module _ (n : ℕ) (sheet : List Float) (fit : Binary64 sheet) (e : number_questions 1 n sheet ≡ pass) where
  pub accurate_column : (j : ℕ) → j < n → T (column_in_range n sheet j) → AccurateColumn n (takes_part 1 n sheet) (allowance 1 n) (matrix 1 n sheet) j (λ i. entry 1 n sheet i j)
  unfolding column_in_range EntryReduction
  accurate_column j hj t =
      let r = live_count 1 n sheet in
      let at = live_begun 1 n sheet in
      let c = column_of n sheet j in
      let first = leaving_rates refl in
      record {
        X = X 1 n sheet first refl fit e;
        exact = only_inverse 1 n sheet first refl fit e;
        within = λ i hi.
            entry_reduction (allowance 1 n) (entry 1 n sheet i j) (extended (takes_part 1 n sheet) (X 1 n sheet first refl fit e) i j)
            (column_near 1 n sheet first refl fit e j hj (and_l (shared r at) (column r at c) t) (λ o. rw (column_of-live n sheet j o) at (and_r (shared r at) (column r at c) t)) i hi);
      }

pub inverse_rule : InverseRule
unfolding InverseRule
inverse_rule n sheet fit e = (X 1 n sheet (leaving_rates refl) refl fit e, only_inverse 1 n sheet (leaving_rates refl) refl fit e)

-- Reading 2: the ratios exist, and the margins' entries are near the solutions that they give.
pub second-reading :
    (n : ℕ) (sheet : List Float) → Binary64 sheet → number_questions 2 n sheet ≡ pass
    → T (Margins.margins_in_range n (size n sheet) (diagonal n sheet))
    → NearInverse n every_stage (12 * (n * n * n)) (matrix 2 n sheet) (Margins.entry n (size n sheet) (diagonal n sheet))
unfolding MarginsAccuracy MarginsReduced RatiosExist
second-reading n sheet fit e r =
    let t = size n sheet in
    let d = diagonal n sheet in
    let good : GoodMargins n t d =
    record { size = λ i j hi hj o. (size_is 2 n sheet fit e i j hi hj o).good; margin = λ i h. (diagonal_is 2 n sheet fit e i h).good } in
    let units_of : InUnits n sheet (sizes_in_units t) (margins_in_units d) =
    record { size-good = good.size; size-units = λ i j hi hj o. refl; diagonal-good = good.margin; diagonal-units = λ i h. refl } in
    let (D, K, ratios) = ratios_exist n (sizes_in_units t) (margins_in_units d) (input_positive 2 n sheet refl fit e) in
    let v = margins_accuracy n t d D K good r ratios in
    margins_reduced n (12 * (n * n * n)) sheet (Margins.entry n t d) (sizes_in_units t) (margins_in_units d) D K v.Z v.z units_of ratios v.columns v.table

-- The table of reading 2 under the table's own names.
second-table :
    (n : ℕ) (sheet : List Float) → Binary64 sheet → number_questions 2 n sheet ≡ pass → T (every_step_in_range 2 n sheet)
    → NearInverse n (takes_part 2 n sheet) (allowance 2 n) (matrix 2 n sheet) (entry 2 n sheet)
unfolding every_step_in_range entry allowance takes_part
second-table n sheet fit e r =
    subst (λ E. NearInverse n every_stage (12 * E) (matrix 2 n sheet) (entry 2 n sheet)) (sym (cube n)) (second-reading n sheet fit e r)

-- All readings at once.
module _ (reading n : ℕ) (sheet : List Float) (fit : Binary64 sheet) (a : AcceptedSheet reading n sheet (every_step_in_range reading n sheet)) where
  pub near_table : NearInverse n (takes_part reading n sheet) (allowance reading n) (matrix reading n sheet) (entry reading n sheet)
  near_table = go (reading_is reading a.known.first)
    where
      numbers : number_questions reading n sheet ≡ pass
      numbers = a.known.numbers

      go : Reading reading → NearInverse n (takes_part reading n sheet) (allowance reading n) (matrix reading n sheet) (entry reading n sheet)
      go (leaving_rates one) = live_table reading n sheet (leaving_rates one) (rw one refl) fit numbers a.in_range_lem
      go (margins two) = rw two (second-table n sheet fit (rw two at numbers) (rw two at a.in_range_lem))
      go (with_weights three) = live_table reading n sheet (with_weights three) (rw three refl) fit numbers a.in_range_lem

  pub accurate_table : Accurate n (takes_part reading n sheet) (allowance reading n) (matrix reading n sheet) (entry reading n sheet)
  unfolding TableReduction
  accurate_table = table_reduction n (takes_part reading n sheet) (allowance reading n) (matrix reading n sheet) (entry reading n sheet) near_table

pub accuracy_rule : AccuracyRule
unfolding AccuracyRule Accepted
accuracy_rule reading n e sheet fit asked = accurate_table reading n sheet fit (table_accepted reading n e sheet (n * n) asked)

pub column_rule : ColumnRule
unfolding ColumnRule
column_rule reading n e sheet room stage fit asked =
    let a = column_accepted reading n e sheet room stage asked in
    accurate_column n sheet fit a.known.numbers (stage - 1) (accepted_stage reading n e sheet room stage asked) a.in_range_lem
