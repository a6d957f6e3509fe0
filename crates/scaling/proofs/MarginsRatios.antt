-- The numbers h, a and k of two sets of margins, one of which is the other times 2^c: h and a are so too, and k is the same.
use Prim.Native.Nat.{ℕ, zero, suc, ◌-◌, ◌≤◌, ◌<◌}
use native.Mathlib.Nat.{le_refl}
use native.Mathlib.Omega.{arith}
use mathlib.Core.Bool.{not}
use mathlib.Core.Path.{◌≡◌, sym, ap, ◌∙◌}
use lib.Ieee.{Float}
use Rattle.exact.proofs.Cases.{by_equal}
use Rattle.definitions.specs.Numbers.{◌⊗◌}
use Rattle.definitions.specs.Margins.{k_before, h, a, kept}
use Rattle.rounding.specs.Good.{Good}
use Rattle.rounding.specs.Scaling.{Scaled}
use Rattle.rounding.proofs.Laws.{quotient-good}
use Rattle.rounding.proofs.Scaling.{sum_scales}
use Rattle.steps.proofs.MarginsSteps.{k_is, h_is, a_is, kept_is}
use Rattle.margins_accuracy.proofs.MarginsRange.{EveryStep}
use Rattle.scaling.specs.Scaling.{ScaledMargins}
use Rattle.scaling.proofs.ScaledNumbers.{zero-scaled, zero_test, same_ratio, product-scaled, sum-scaled}

-- Two sets of margins, with every step in range.
pub record BothInRange (c n : ℕ) (t t' : ℕ → ℕ → Float) (d d' : ℕ → Float) : Type 0 where
  pub numbers : ScaledMargins c n t t' d d'
  pub range : EveryStep n t d (k_before n t d n)
  pub range' : EveryStep n t' d' (k_before n t' d' n)

module _ {c n : ℕ} {t t' : ℕ → ℕ → Float} {d d' : ℕ → Float} (both : BothInRange c n t t' d d') where
  abbrev k : ℕ → Float
  k = k_before n t d n

  abbrev k' : ℕ → Float
  k' = k_before n t' d' n

  pub record RatioScaled (i : ℕ) : Type 0 where
    pub h-scaled : Scaled c (h n t d k i) (h n t' d' k' i)
    pub a-scaled : Scaled c (a n t d k i) (a n t' d' k' i)
    pub k_same : k' i ≡ k i
    pub k-good : Good (k i)

  -- Stage i, from those before it.
  module _ (i : ℕ) (b : i < n) (before : (j : ℕ) → j < i → RatioScaled j) where
    term-scaled : (j : ℕ) → j < i → Scaled c (t i j ⊗ k j) (t' i j ⊗ k' j)
    term-scaled j l =
        let same = (before j l).k_same in
        rw same
        (product-scaled (both.numbers.size i j b (omega arith) (λ e. omega arith)) (before j l).k-good
        ((both.range.ratio i b).product j l) (rw same at ((both.range'.ratio i b).product j l)))

    here_h : Scaled c (h n t d k i) (h n t' d' k' i)
    here_h =
        rw (h_is n t d k i, h_is n t' d' k' i)
        (sum-scaled (suc i) (n - suc i)
        (sum-scaled 0 i zero-scaled (λ j l u. term-scaled j (omega arith)) (both.range'.ratio i b).earlier)
        (λ j l u. both.numbers.size i j b (omega arith) (λ e. omega arith)) (both.range'.ratio i b).later)

    here_a : Scaled c (a n t d k i) (a n t' d' k' i)
    here_a =
        rw (a_is n t d k i, a_is n t' d' k' i)
        (sum_scales c (d i) (d' i) (h n t d k i) (h n t' d' k' i) (both.numbers.margin i b) here_h (both.range'.ratio i b).addition)

    here : RatioScaled i
    here =
        let division = (both.range.ratio i b).division in
        record {
          h-scaled = here_h;
          a-scaled = here_a;
          k_same = k_is n t' d' i b ∙ same_ratio here_h here_a division ∙ sym (k_is n t d i b);
          k-good = rw (k_is n t d i b) (quotient-good here_h.from here_a.from division);
        }

  ratios_below : (m : ℕ) → m ≤ n → (i : ℕ) → i < m → RatioScaled i
  ratios_below zero l i h = absurd (omega arith)
  ratios_below (suc m) l i h =
      let before = ratios_below m (omega arith) in
      by_equal i m (λ e. rw e (here m l before)) (λ o. before i (omega arith))

  pub ratios : (i : ℕ) → i < n → RatioScaled i
  ratios = ratios_below n (le_refl n)

  pub kept_same : (i : ℕ) → i < n → kept n t' d' k' i ≡ kept n t d k i
  kept_same i b = kept_is n t' d' k' i ∙ ap not (zero_test (ratios i b).h-scaled) ∙ sym (kept_is n t d k i)
