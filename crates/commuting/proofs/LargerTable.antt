-- The table of a sheet and of a larger one: the larger sheet has the smaller entries.
use Prim.Native.Nat.{ℕ, ◌<◌}
use native.Mathlib.Omega.{arith}
use mathlib.Core.Bool.{Bool, true, false, ◌&&◌}
use mathlib.Core.List.{List}
use mathlib.Core.Path.{◌≡◌, refl, sym, ap₂, ◌∙◌}
use lib.Dec.{T, eqb}
use lib.Ieee.{Float}
use lib.Ieee.Fits.{and_l, and_r}
use Rattle.exact.proofs.Bools.{and_first, and_second}
use Rattle.exact.proofs.Cases.{by_bool}
use Rattle.definitions.specs.LeavingRates.{System, downward, shared, column}
use Rattle.definitions.specs.Compact.{stages_with, rank, weights_of}
use Rattle.definitions.specs.Sheet.{size, diagonal, takes_part}
use Rattle.definitions.specs.Table.{live_count, live_system, live_begun, entry, every_step_in_range}
use Rattle.definitions.specs.Column.{column_of, column_in_range}
use Rattle.definitions.specs.Questions.{pass, question1}
use Rattle.rounding.specs.Scaling.{Scaled}
use Rattle.steps.proofs.CompactOrder.{rank_below, listed}
use Rattle.steps.proofs.LiveStages.{live-size, live_exit, live-weights, entry-live, entry-idle, column_of-live}
use Rattle.steps.proofs.QuestionLaws.{Reading, leaving_rates, margins, with_weights, reading_is}
use Rattle.rates_accuracy.proofs.CompactEquations.{stage, stage_apart}
use Rattle.rates_accuracy.proofs.LiveSystem.{live-weights-good}
use Rattle.rates_accuracy.proofs.LeavingRatesRange.{table-shared, table-column}
use Rattle.scaling.specs.Scaling.{ScaledSystem, QuotientsScale, MarginEntriesScale}
use Rattle.scaling.proofs.ScaledNumbers.{zero-scaled}
use Rattle.scaling.proofs.LeavingRates.{quotients_scale}
use Rattle.scaling.proofs.Margins.{margin_entries_scale}
use Rattle.commuting.proofs.LargerSheet.{Larger, larger_size, larger_diagonal, same_weights, same_parts}

-- The readings whose steps are those for leaving rates.
module _ {c reading n : ℕ} {sheet big : List Float} (other : eqb reading 2 ≡ false) (l : Larger c reading n sheet big) where
  abbrev on : ℕ → Bool
  on = takes_part reading n sheet

  abbrev r : ℕ
  r = rank on n

  -- The systems of the stages that take part.
  larger_system : ScaledSystem c 0 r (live_system reading n sheet) (live_system reading n big)
  larger_system =
      record {
        size = λ p q hp hq o.
            (let bp : p < r = omega arith in
            let bq : q < r = omega arith in
            rw (live-size reading n sheet p q bp bq, live-size reading n big p q (rw (same_parts l) bp) (rw (same_parts l) bq), same_parts l)
            (larger_size l (stage on n p) (stage on n q) (listed on n p bp).below (listed on n q bq).below (stage_apart on n p q bp bq o)));
        exit = λ p hp.
            (let bp : p < r = omega arith in
            rw (live_exit reading n sheet p bp, live_exit reading n big p (rw (same_parts l) bp), same_parts l)
            (larger_diagonal l (stage on n p) (listed on n p bp).below));
        weights = live-weights reading n big ∙ ap₂ (λ on w. weights_of (stages_with on n) w) (same_parts l) (same_weights l) ∙ sym (live-weights reading n sheet);
      }

  -- As the stages begin, both by the one count of stages.
  abbrev at : ℕ → System
  at = downward r (live_system reading n sheet)

  abbrev at' : ℕ → System
  at' = downward r (live_system reading n big)

  module _ (j : ℕ) (hj : j < n) (t : T (shared r at)) (t' : T (shared r at'))
      (u : on j ≡ true → T (column r at (rank on j))) (u' : on j ≡ true → T (column r at' (rank on j))) where
    live-scaled : (i : ℕ) → i < n → on i ≡ true → on j ≡ true → Scaled c (entry reading n big i j) (entry reading n sheet i j)
    unfolding QuotientsScale live_count live_begun
    live-scaled i hi oi oj =
        rw (entry-live reading n sheet other i j oi oj, entry-live reading n big other i j (rw (same_parts l) oi) (rw (same_parts l) oj), same_parts l)
        (quotients_scale c r (rank on j) (live_system reading n sheet) (live_system reading n big) (live-weights-good reading n sheet l.held l.asked) larger_system t (u oj) t' (u' oj) (rank on i) (rank_below on n i hi oi))

    column-scaled : (i : ℕ) → i < n → Scaled c (entry reading n big i j) (entry reading n sheet i j)
    column-scaled i hi =
        by_bool (on i && on j)
        (λ both. live-scaled i hi (and_first (on i) (on j) both) (and_second (on i) (on j) both))
        (λ none. rw (entry-idle reading n sheet other i j none, entry-idle reading n big other i j (rw (same_parts l) none)) zero-scaled)

  live_table : T (every_step_in_range reading n sheet) → T (every_step_in_range reading n big) → (i j : ℕ) → i < n → j < n → Scaled c (entry reading n big i j) (entry reading n sheet i j)
  unfolding every_step_in_range live_count live_begun
  live_table s s' i j hi hj =
      let t = rw other at s in
      let all' = rw (other, same_parts l) at s' in
      column-scaled j hj (table-shared r at t) (table-shared r at' all')
      (λ o. table-column r at t (rank on j) (rank_below on n j hj o)) (λ o. table-column r at' all' (rank on j) (rank_below on n j hj o)) i hi

-- One column, of reading 1.
module _ {c n : ℕ} {sheet big : List Float} (l : Larger c 1 n sheet big) where
  pub column_scales : (j : ℕ) → j < n → T (column_in_range n sheet j) → T (column_in_range n big j) → (i : ℕ) → i < n → Scaled c (entry 1 n big i j) (entry 1 n sheet i j)
  unfolding column_in_range live_count live_begun column_of
  column_scales j hj t t' =
      let q = column_of n sheet j in
      let r = rank (takes_part 1 n sheet) n in
      let at = downward r (live_system 1 n sheet) in
      let at' = downward r (live_system 1 n big) in
      let both : T (shared r at' && column r at' q) = rw (same_parts l) at t' in
      column-scaled refl l j hj (and_l (shared r at) (column r at q) t) (and_l (shared r at') (column r at' q) both)
      (λ o. rw (column_of-live n sheet j o) at (and_r (shared r at) (column r at q) t))
      (λ o. rw (column_of-live n sheet j o) at (and_r (shared r at') (column r at' q) both))

-- Reading 2.
second-table : {c n : ℕ} {sheet big : List Float} → Larger c 2 n sheet big → T (every_step_in_range 2 n sheet) → T (every_step_in_range 2 n big)
    → (i j : ℕ) → i < n → j < n → Scaled c (entry 2 n big i j) (entry 2 n sheet i j)
unfolding every_step_in_range entry MarginEntriesScale
second-table {c} {n} {sheet} {big} l t t' =
    margin_entries_scale c n (size n sheet) (size n big) (diagonal n sheet) (diagonal n big)
    (record { size = larger_size l; margin = larger_diagonal l }) t t'

pub table_scales : {c reading n : ℕ} {sheet big : List Float} → question1 reading ≡ pass → Larger c reading n sheet big
    → T (every_step_in_range reading n sheet) → T (every_step_in_range reading n big)
    → (i j : ℕ) → i < n → j < n → Scaled c (entry reading n big i j) (entry reading n sheet i j)
table_scales {c} {reading} {n} {sheet} {big} q l t t' i j hi hj =
    go (reading_is reading q)
  where
    go : Reading reading → Scaled c (entry reading n big i j) (entry reading n sheet i j)
    go (leaving_rates e) = live_table (rw e) l t t' i j hi hj
    go (margins e) = rw e (second-table (rw e at l) (rw e at t) (rw e at t') i j hi hj)
    go (with_weights e) = live_table (rw e) l t t' i j hi hj
