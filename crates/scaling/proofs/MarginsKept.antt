-- The kept systems of two sets of margins, one of which is the other times 2^c, and their answers y.
use Prim.Native.Nat.{ℕ, suc, ◌-◌, ◌≤◌, ◌<◌}
use native.Mathlib.Omega.{arith}
use mathlib.Core.Bool.{Bool, true}
use mathlib.Core.Logic.{◌≢◌}
use mathlib.Core.Path.{◌≡◌, sym, ◌∙◌, subst}
use lib.Dec.{T}
use lib.Ieee.{Float}
use Rattle.definitions.specs.Numbers.{◌⊗◌, ◌⊘◌, 0·0, sum}
use Rattle.definitions.specs.LeavingRates.{downward, in_range}
use Rattle.definitions.specs.Compact.{stages_with, rank}
use Rattle.definitions.specs.Margins.{k_before, a, kept, kept_system, y, x_after}
use Rattle.rounding.specs.Scaling.{Scaled}
use Rattle.rounding.proofs.Laws.{quotient-good}
use Rattle.steps.proofs.CompactOrder.{list_alike, rank_alike, rank_below, listed}
use Rattle.steps.proofs.MarginsSteps.{kept-size, kept_exit, kept-weights, y_is, x-start}
use Rattle.rates_accuracy.proofs.CompactEquations.{stage, stage_apart}
use Rattle.rates_accuracy.proofs.LeavingRatesRange.{table-shared, table-column}
use Rattle.rates_accuracy.specs.LeavingRatesAccuracy.{GoodWeights}
use Rattle.scaling.specs.Scaling.{ScaledSystem, QuotientsScale}
use Rattle.scaling.proofs.ScaledNumbers.{zero-scaled, same_ratio, product-scaled, factor_scaled, sum-scaled}
use Rattle.scaling.proofs.LeavingRates.{quotients_scale}
use Rattle.scaling.proofs.MarginsRatios.{BothInRange, ratios, kept_same}

module _ {c n : ℕ} {t t' : ℕ → ℕ → Float} {d d' : ℕ → Float} (both : BothInRange c n t t' d d') where
  abbrev k : ℕ → Float
  k = k_before n t d n

  abbrev k' : ℕ → Float
  k' = k_before n t' d' n

  abbrev on : ℕ → Bool
  on = kept n t d (k_before n t d n)

  abbrev on' : ℕ → Bool
  on' = kept n t' d' (k_before n t' d' n)

  on_same : (i : ℕ) → i < n → on' i ≡ on i
  on_same = kept_same both

  lists : stages_with on' n ≡ stages_with on n
  lists = list_alike on' on n on_same

  ranks : (m : ℕ) → m ≤ n → rank on' m ≡ rank on m
  ranks m l = rank_alike on' on m (λ i h. on_same i (omega arith))

  module _ (i : ℕ) (bi : i < n) (ki : on i ≡ true) where
    also : on' i ≡ true
    also = on_same i bi ∙ ki

    new_size : (j : ℕ) → j < n → on j ≡ true → i ≢ j → Scaled c (t i j ⊗ k j) (t' i j ⊗ k' j)
    new_size j bj kj o =
        let ratio = ratios both j bj in
        rw ratio.k_same
        (product-scaled (both.numbers.size i j bi bj o) ratio.k-good
        ((both.range.scaled i bi ki).size j bj kj o) (rw ratio.k_same at ((both.range'.scaled i bi also).size j bj (on_same j bj ∙ kj) o)))

    -- A term of the new leaving rate.
    new_term : (j : ℕ) → i < j → j < n → Scaled c (t i j ⊗ (d j ⊘ a n t d k j)) (t' i j ⊗ (d' j ⊘ a n t' d' k' j))
    new_term j l bj =
        let a-scaled = (ratios both j bj).a-scaled in
        let division = (both.range.scaled i bi ki).division j l bj in
        let same : d' j ⊘ a n t' d' k' j ≡ d j ⊘ a n t d k j = same_ratio (both.numbers.margin j bj) a-scaled division in
        rw same
        (product-scaled (both.numbers.size i j bi bj (λ e. omega arith)) (quotient-good (both.numbers.margin j bj).from a-scaled.from division)
        ((both.range.scaled i bi ki).product j l bj) (rw same at ((both.range'.scaled i bi also).product j l bj)))

    new_exit : Scaled c (sum 0·0 (λ j. t i j ⊗ (d j ⊘ a n t d k j)) (suc i) (n - suc i)) (sum 0·0 (λ j. t' i j ⊗ (d' j ⊘ a n t' d' k' j)) (suc i) (n - suc i))
    new_exit = sum-scaled (suc i) (n - suc i) zero-scaled (λ j l u. new_term j l (omega arith)) (both.range'.scaled i bi also).exit

  -- In compact order.
  system-scaled : ScaledSystem c 0 (rank on n) (kept_system n t d k) (kept_system n t' d' k')
  system-scaled =
      let same = ranks n (omega arith) in
      record {
        size = λ p q hp hq o.
            (let bp : p < rank on n = omega arith in
            let bq : q < rank on n = omega arith in
            let lp = listed on n p bp in
            let lq = listed on n q bq in
            rw (kept-size n t d k p q bp bq, kept-size n t' d' k' p q (omega arith) (omega arith), lists)
            (new_size (stage on n p) lp.below lp.passes (stage on n q) lq.below lq.passes (stage_apart on n p q bp bq o)));
        exit = λ p hp.
            (let bp : p < rank on n = omega arith in
            let lp = listed on n p bp in
            rw (kept_exit n t d k p bp, kept_exit n t' d' k' p (omega arith), lists) (new_exit (stage on n p) lp.below lp.passes));
        weights = kept-weights n t' d' k' ∙ sym (kept-weights n t d k);
      }

  y-scaled : (i j : ℕ) → i < n → j < n → on i ≡ true → on j ≡ true → Scaled c (y n t' d' k' i j) (y n t d k i j)
  unfolding QuotientsScale
  y-scaled i j bi bj ki kj =
      let r = rank on n in
      let start = kept_system n t d k in
      let start' = kept_system n t' d' k' in
      let at = downward r start in
      let at' = downward r start' in
      let engine' : T (in_range r at') = rw (ranks n (omega arith)) at both.range'.engine in
      let q = rank on j in
      let h = rank_below on n j bj kj in
      rw (y_is n t d k i j, y_is n t' d' k' i j, ranks n (omega arith), ranks i (omega arith), ranks j (omega arith))
      (quotients_scale c r q start start' (subst (GoodWeights r) (sym (kept-weights n t d k)) tt) system-scaled
      (table-shared r at both.range.engine) (table-column r at both.range.engine q h)
      (table-shared r at' engine') (table-column r at' engine' q h)
      (rank on i) (rank_below on n i bi ki))

  -- The way back.
  pub start-scaled : (i j : ℕ) → i < n → j < n → on i ≡ true → on j ≡ true → Scaled c (x_after n t' d' k' 0 i j) (x_after n t d k 0 i j)
  start-scaled i j bi bj ki kj =
      let ratio = ratios both i bi in
      let same = ratio.k_same in
      rw (x-start n t d k i j bi bj, x-start n t' d' k' i j bi bj, same)
      (factor_scaled ratio.k-good (y-scaled i j bi bj ki kj)
      (rw same at (both.range'.back i j bi bj (also i bi ki) (also j bj kj))) (both.range.back i j bi bj ki kj))
