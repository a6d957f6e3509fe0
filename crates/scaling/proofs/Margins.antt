-- The joins of two sets of margins, one of which is the other times 2^c, and so every entry.
use Prim.Native.Nat.{ℕ, zero, suc, ◌-◌, ◌≤◌, ◌<◌}
use native.Mathlib.Nat.{le_refl}
use native.Mathlib.Decide.{ℕ_discrete}
use native.Mathlib.Omega.{arith}
use mathlib.Core.Bool.{true, false, true≢false, ◌||◌}
use mathlib.Core.Logic.{◌≢◌}
use mathlib.Core.Path.{◌≡◌, refl, sym, ap, ◌∙◌}
use lib.Dec.{leb}
use lib.Ieee.{Float}
use Rattle.exact.proofs.Cases.{by_bool}
use Rattle.definitions.specs.Numbers.{◌⊗◌, ◌⊘◌, 1·0}
use Rattle.definitions.specs.Margins.{sum_with, k_before, a, kept, known, x_after}
use Rattle.rounding.specs.Scaling.{Scaled}
use Rattle.rounding.proofs.Laws.{one_is_good, quotient-good}
use Rattle.steps.proofs.FloatSums.{sum_with_same}
use Rattle.steps.proofs.MarginsSteps.{x-kept, join_corner, join_row, join_column, join_other, known_is, known_from, known-below, known_next, entry_is}
use Rattle.margins_accuracy.proofs.MarginsRange.{margins_range}
use Rattle.scaling.specs.Scaling.{MarginEntriesScale}
use Rattle.scaling.proofs.ScaledNumbers.{zero-scaled, same_ratio, smaller_quotient, product-scaled, sum_with-scaled}
use Rattle.scaling.proofs.MarginsRatios.{BothInRange, ratios, kept_same}
use Rattle.scaling.proofs.MarginsKept.{start-scaled}

module _ {c n : ℕ} {t t' : ℕ → ℕ → Float} {d d' : ℕ → Float} (both : BothInRange c n t t' d d') where
  abbrev k : ℕ → Float
  k = k_before n t d n

  abbrev k' : ℕ → Float
  k' = k_before n t' d' n

  abbrev x : ℕ → ℕ → ℕ → Float
  x = x_after n t d (k_before n t d n)

  abbrev x' : ℕ → ℕ → ℕ → Float
  x' = x_after n t' d' (k_before n t' d' n)

  on_same : (i : ℕ) → i < n → kept n t' d' k' i ≡ kept n t d k i
  on_same = kept_same both

  known_same : (q i : ℕ) → i < n → known n t' d' k' q i ≡ known n t d k q i
  known_same q i b = known_is n t' d' k' q i ∙ ap (λ yes. yes || leb (n - q) i) (on_same i b) ∙ sym (known_is n t d k q i)

  -- After q joins, of the known stages.
  record Joined (q : ℕ) : Type 0 where
    entry : (i j : ℕ) → i < n → j < n → known n t d k q i ≡ true → known n t d k q j ≡ true → Scaled c (x' q i j) (x q i j)

  -- Stage s = n - 1 - q joins, which is not kept.
  module _ (q : ℕ) (bq : q < n) (left : kept n t d k (n - suc q) ≡ false) (before : Joined q) where
    abbrev s : ℕ
    s = n - suc q

    bs : s < n
    bs = omega arith

    left' : kept n t' d' k' s ≡ false
    left' = on_same s bs ∙ left

    apart : (l : ℕ) → known n t d k q l ≡ true → l ≢ s
    apart l e f = true≢false (sym e ∙ ap (known n t d k q) f ∙ known-below n t d k q s (omega arith) ∙ left)

    a-scaled : Scaled c (a n t d k s) (a n t' d' k' s)
    a-scaled = (ratios both s bs).a-scaled

    corner-scaled : Scaled c (1·0 ⊘ a n t' d' k' s) (1·0 ⊘ a n t d k s)
    corner-scaled = smaller_quotient one_is_good a-scaled (both.range.join q bq left).corner (both.range'.join q bq left').corner

    -- Σ_l x_il (t_ls / a_s), over the known l.
    module _ (i : ℕ) (bi : i < n) (ki : known n t d k q i ≡ true) where
      term-scaled : (l : ℕ) → l < n → known n t d k q l ≡ true
          → Scaled c (x' q i l ⊗ (t' l s ⊘ a n t' d' k' s)) (x q i l ⊗ (t l s ⊘ a n t d k s))
      term-scaled l bl kl =
          let size = both.numbers.size l s bl bs (apart l kl) in
          let row = (both.range.join q bq left).row i bi ki in
          let row' = (both.range'.join q bq left').row i bi (known_same q i bi ∙ ki) in
          let same : t' l s ⊘ a n t' d' k' s ≡ t l s ⊘ a n t d k s = same_ratio size a-scaled (row.division l bl kl) in
          rw same
          (product-scaled (before.entry i l bi bl ki kl) (quotient-good size.from a-scaled.from (row.division l bl kl))
          (rw same at (row'.product l bl (known_same q l bl ∙ kl))) (row.product l bl kl))

      column-scaled : Scaled c (sum_with (known n t' d' k' q) (λ l. x' q i l ⊗ (t' l s ⊘ a n t' d' k' s)) n) (sum_with (known n t d k q) (λ l. x q i l ⊗ (t l s ⊘ a n t d k s)) n)
      column-scaled =
          rw (sum_with_same {f = λ l. x' q i l ⊗ (t' l s ⊘ a n t' d' k' s)} n (known_same q) (λ l b e. refl))
          (sum_with-scaled (known n t d k q) n term-scaled ((both.range.join q bq left).row i bi ki).sum)

    earlier : (i : ℕ) → i ≢ s → known n t d k (suc q) i ≡ true → known n t d k q i ≡ true
    earlier i e f = sym (known_next n t d k q i bq e) ∙ f

    -- The four places of an entry.
    entry-scaled : (i j : ℕ) → i < n → j < n → known n t d k (suc q) i ≡ true → known n t d k (suc q) j ≡ true → Dec (i ≡ s) → Dec (j ≡ s)
        → Scaled c (x' (suc q) i j) (x (suc q) i j)
    entry-scaled i j bi bj ki kj (yes e) (yes f) =
        rw (f ∙ sym e, join_corner n t d k q left i e bi, join_corner n t' d' k' q left' i e bi, e) corner-scaled
    entry-scaled i j bi bj ki kj (yes e) (no f) = rw (join_row n t d k q left i j e f bi bj, join_row n t' d' k' q left' i j e f bi bj) zero-scaled
    entry-scaled i j bi bj ki kj (no e) (yes f) =
        rw (join_column n t d k q left i j e f bi bj, join_column n t' d' k' q left' i j e f bi bj) (column-scaled i bi (earlier i e ki))
    entry-scaled i j bi bj ki kj (no e) (no f) =
        rw (join_other n t d k q left i j e f bi bj, join_other n t' d' k' q left' i j e f bi bj)
        (before.entry i j bi bj (earlier i e ki) (earlier j f kj))

    join_step : Joined (suc q)
    join_step = record { entry = λ i j bi bj ki kj. entry-scaled i j bi bj ki kj (ℕ_discrete i s) (ℕ_discrete j s) }

  -- A kept stage is known already.
  kept_step : (q : ℕ) → q < n → kept n t d k (n - suc q) ≡ true → Joined q → Joined (suc q)
  kept_step q bq e before =
      record {
        entry = λ i j bi bj ki kj.
            rw (x-kept n t d k q e, x-kept n t' d' k' q (on_same (n - suc q) (omega arith) ∙ e)) (before.entry i j bi bj (same i ki) (same j kj));
      }
    where
      same : (i : ℕ) → known n t d k (suc q) i ≡ true → known n t d k q i ≡ true
      same i h =
          elim (ℕ_discrete i (n - suc q)) [
            | yes f ↦ ap (known n t d k q) f ∙ known-below n t d k q (n - suc q) (omega arith) ∙ e
            | no f ↦ sym (known_next n t d k q i bq f) ∙ h
          ]

  joins_to : (q : ℕ) → q ≤ n → Joined q
  joins_to zero l =
      let start : (i : ℕ) → i < n → known n t d k 0 i ≡ kept n t d k i = λ i b. known-below n t d k 0 i (omega arith) in
      record { entry = λ i j bi bj ki kj. start-scaled both i j bi bj (sym (start i bi) ∙ ki) (sym (start j bj) ∙ kj) }
  joins_to (suc q) l =
      let before = joins_to q (omega arith) in
      by_bool (kept n t d k (n - suc q)) (λ e. kept_step q l e before) (λ e. join_step q l e before)

-- After n joins every stage is known.
pub margin_entries_scale : MarginEntriesScale
unfolding MarginEntriesScale
margin_entries_scale c n t t' d d' g r r' i j bi bj =
    let all_known : (i : ℕ) → known n t d (k_before n t d n) n i ≡ true = λ i. known_from n t d (k_before n t d n) n i (omega arith) in
    rw (entry_is n t d, entry_is n t' d')
    ((joins_to {t = t} {t' = t'} {d = d} {d' = d'} (record { numbers = g; range = margins_range n t d r; range' = margins_range n t' d' r' }) n (le_refl n)).entry i j bi bj (all_known i) (all_known j))
