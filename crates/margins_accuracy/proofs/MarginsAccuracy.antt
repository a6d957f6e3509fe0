-- The theorem on the steps for margins.
use Prim.Native.Nat.{ℕ, ◌*◌, ◌≤◌, ◌<◌}
use native.Mathlib.Omega.{arith}
use mathlib.Core.Bool.{Bool}
use mathlib.Core.Path.{◌≡◌, ap, ◌∙◌}
use Rattle.exact.specs.Sums.{sum}
use Rattle.exact.proofs.Near.{near_grow}
use Rattle.definitions.specs.Compact.{rank}
use Rattle.definitions.specs.Margins.{k_before, kept, entry}
use Rattle.steps.proofs.MarginsSteps.{k_is, entry_is}
use Rattle.steps.proofs.CompactOrder.{rank-none, rank_leave, rank-within}
use Rattle.rates_accuracy.specs.LeavingRatesAccuracy.{Computed, EngineAccuracy}
use Rattle.inverse.specs.ExactRatios.{H, ExactRatios}
use Rattle.margins_accuracy.specs.MarginsAccuracy.{MarginsAccuracy}
use Rattle.rates_accuracy.proofs.LeavingRatesAccuracy.{engine_accuracy}
use Rattle.margins_accuracy.proofs.MarginsRange.{margins_range}
use Rattle.margins_accuracy.proofs.MarginsStart.{KeptTest}
use Rattle.margins_accuracy.proofs.MarginsCounts.{entry_count, entry_count_lem}
use Rattle.margins_accuracy.proofs.MarginsRatios.{Setting, kept_tells}
use Rattle.margins_accuracy.proofs.MarginsEntries.{all-joined, all_known}
use Rattle.exact.proofs.Cases.{by_bool}

-- At n = 1 nothing is kept.
single-h : (t : ℕ → ℕ → ℕ) (D : ℕ) (K : ℕ → ℕ) → H 1 t D K 0 ≡ 0
unfolding H sum
single-h t D K = omega arith

single-rank :
    {n : ℕ} {t : ℕ → ℕ → ℕ} {d : ℕ → ℕ} {D : ℕ} {K : ℕ → ℕ} (x : ExactRatios n t d D K) (test : ℕ → Bool)
    → KeptTest x test → n ≡ 1 → rank test n ≡ 0
single-rank {n} {t} {d} {D} {K} x test tells e =
    let none : H n t D K 0 ≡ 0 = ap (λ m. H m t D K 0) e ∙ single-h t D K in
    let left = by_bool (test 0) (λ f. absurd (omega (arith, tells.yes_kept 0 (omega arith) f, none))) (λ f. f) in
    ap (rank test) e ∙ rank_leave test 0 left ∙ rank-none test

-- From the accuracy of the engine.
margins_from_engine : EngineAccuracy → MarginsAccuracy
unfolding MarginsAccuracy
margins_from_engine engine n t d D K good in_range_lem ratios =
    let k = k_before n t d n in
    let s : Setting n t d D K k =
    record { good = good; exact = ratios; k_is = k_is n t d; range = margins_range n t d in_range_lem } in
    let r = rank (kept n t d k) n in
    let whole = all-joined s engine in
    let known = all_known s engine in
    let enough : 0 < n → entry_count n r ≤ 12 * (n * n * n) =
    λ p. entry_count_lem n r p (rank-within (kept n t d k) n) (single-rank ratios (kept n t d k) (kept_tells s)) in
    let near : (i j : ℕ) → i < n → j < n → Computed (entry_count n r) (entry n t d i j) (whole.X i j) whole.Z =
    λ i j bi bj. rw (entry_is n t d) (whole.near i j bi bj (known i) (known j)) in
    record {
      Z = λ j. whole.Z;
      z = λ j i. whole.X i j;
      columns =
          record {
            positive = λ j sj. whole.part.positive;
            row = λ i j si sj. whole.part.row i j si.below sj.below (known i);
          };
      table =
          record {
            good = λ i j bi bj. (near i j bi bj).good;
            near =
                λ i j bi bj.
                near_grow (omega (arith, enough (omega arith))) (near i j bi bj).near;
          };
    }

pub margins_accuracy : MarginsAccuracy
margins_accuracy = margins_from_engine engine_accuracy
