-- The numbers h, a and k against the exact ones. The key is that h / (d + h) is within c where h is within c.
use Prim.Native.Nat.{ℕ, zero, suc, ◌+◌, ◌*◌, ◌-◌, ◌<◌}
use native.Mathlib.Nat.{mul-pos, zero-add, zero-mul}
use native.Mathlib.Omega.{arith}
use mathlib.Core.Bool.{true, false}
use mathlib.Core.Logic.{◌≢◌}
use mathlib.Core.Path.{◌≡◌, refl, sym, ap, ◌∙◌, subst, subst₂}
use lib.Dec.{eqb}
use lib.Ieee.{Float}
use borrow.Author.Tests.{eqb-true, eqb-false, not-true, not-false}
use Rattle.exact.specs.Chains.{In}
use Rattle.exact.specs.Near.{Near}
use Rattle.exact.specs.Sums.{sum as total}
use Rattle.exact.proofs.Sums.{sum_scale}
use Rattle.exact.proofs.Near.{near_refl, near_eq, near_sym, near_trans, near_grow, near_scale, near_scale_left, near_cancel, near_add, near_pos, near_zero}
use Rattle.definitions.specs.Numbers.{◌⊗◌, ◌⊘◌, 0·0, sum, is_zero, units}
use Rattle.definitions.specs.Margins.{h, a, kept}
use Rattle.rounding.specs.Good.{Good, one·units}
use Rattle.steps.proofs.MarginsSteps.{h_is, a_is, kept_is}
use Rattle.margins_accuracy.specs.MarginsAccuracy.{GoodMargins, sizes_in_units, margins_in_units}
use Rattle.rounding.proofs.Laws.{one-pos, sum-good, sum_rounds, product-good, product_rounds, quotient-good, quotient_rounds, quotient_cases, divisor_above_zero, zero_is_good, units-zero, is_zero_lem}
use Rattle.inverse.specs.ExactRatios.{H, ExactRatios}
use Rattle.margins_accuracy.proofs.MarginsExact.{exact_h, exact_a, a-pos}
use Rattle.margins_accuracy.proofs.MarginsStart.{KeptTest}
use Rattle.margins_accuracy.proofs.MarginsSums.{near_sum_over}
use Rattle.margins_accuracy.proofs.MarginsRange.{EveryStep}
use Rattle.margins_accuracy.proofs.MarginsCounts.{h_count, product_count, h_count_lem}
use Rattle.rounding.proofs.RoundedSums.{sum_is_good}

-- Over plain numbers: p is x·y over w, and y is near v over D.
pub near_product :
    {e w : ℕ} (p x y D v : ℕ) → 0 < w → Near 1 (p * w) (x * y) → Near e (y * D) (v * w) → Near (1 + e) (p * D) (x * v)
near_product {e} {w} p x y D v pos h g =
    let b : Near 1 (p * D * w) (x * (y * D)) = subst₂ (Near 1) (omega arith) (omega arith) (near_scale D h) in
    let c : Near e (x * (y * D)) (x * v * w) = subst (Near e (x * (y * D))) (omega arith) (near_scale_left x g) in
    near_cancel pos (near_trans b c)

-- k = h / a, a = m + h, and h is near H over D.
near_ratio :
    {e : ℕ} (h a k H A K D m w : ℕ) → 0 < a → 0 < A → A ≡ m * D + H → K * A ≡ D * H
    → Near e (h * D) H → Near 1 a (m + h) → Near 1 (k * a) (h * w) → Near (e + 2) (k * D) (K * w)
near_ratio {e} h a k H A K D m w pa p_a e_a e_k hn an kn =
    let quotient : Near 1 (k * D * (a * A)) (h * A * (w * D)) =
    subst₂ (Near 1) (omega arith) (omega arith) (near_scale (D * A) kn) in
    let parts = near_add (near_scale_left m hn) (near_refl {x = h * H}) in
    let whole : Near e (h * A) ((m + h) * H) =
    subst₂ (Near e) (omega (arith, ap (λ t. h * t) e_a)) (omega arith) parts in
    let both = near_scale (w * D) (near_trans whole (near_scale H (near_sym an))) in
    let exact : a * H * (w * D) ≡ K * w * (a * A) = omega (arith, ap (λ t. t * (w * a)) e_k) in
    let all = near_trans quotient (subst (Near (e + 1) (h * A * (w * D))) exact both) in
    near_cancel (mul-pos pa p_a) (near_grow {e = 1 + (e + 1)} (omega arith) all)

-- Good numbers t and d, the exact side over D, and the steps with their k_j, all in range.
pub record Setting (n : ℕ) (t : ℕ → ℕ → Float) (d : ℕ → Float) (D : ℕ) (K : ℕ → ℕ) (k : ℕ → Float) : Type 0 where
  pub good : GoodMargins n t d
  pub exact : ExactRatios n (sizes_in_units t) (margins_in_units d) D K
  pub k_is : (i : ℕ) → i < n → k i ≡ h n t d k i ⊘ a n t d k i
  pub range : EveryStep n t d k

module _ {n : ℕ} {t : ℕ → ℕ → Float} {d : ℕ → Float} {D : ℕ} {K : ℕ → ℕ} {k : ℕ → Float} (s : Setting n t d D K k) where
  pub record RatioNear (i : ℕ) : Type 0 where
    pub h-good : Good (h n t d k i)
    pub h_near : Near (h_count n i) (units (h n t d k i) * D) (exact_h s.exact i)
    pub a-good : Good (a n t d k i)
    pub a-round : Near 1 (units (a n t d k i)) (units (d i) + units (h n t d k i))
    pub k-good : Good (k i)
    pub k_near : Near (h_count n i + 2) (units (k i) * D) (K i * one·units)

  -- Stage i, where the stages before it are near.
  module _ (i : ℕ) (b : i < n) (before : (j : ℕ) → j < i → RatioNear j) where
    abbrev term : ℕ → Float
    term j = t i j ⊗ k j

    abbrev earlier : Float
    earlier = sum 0·0 (λ j. t i j ⊗ k j) 0 i

    size-good : (j : ℕ) → j < n → i ≢ j → Good (t i j)
    size-good j l e = s.good.size i j b l e

    term-good : (j : ℕ) → In 0 i j → Good (term j)
    term-good j l =
        product-good (size-good j (omega arith) (λ e. omega arith)) (before j (omega arith)).k-good
        ((s.range.ratio i b).product j (omega arith))

    term_near : (j : ℕ) → In 0 i j → Near (i * (n + 3)) (units (term j) * D) (units (t i j) * K j)
    term_near j l =
        let m : j < i = omega arith in
        let gt = size-good j (omega arith) (λ e. omega arith) in
        let p = (product_rounds (t i j) (k j) gt (before j m).k-good ((s.range.ratio i b).product j m)).near in
        let near = near_product (units (term j)) (units (t i j)) (units (k j)) D (K j) one-pos p (before j m).k_near in
        near_grow (product_count n i j m) near

    earlier-good : Good earlier
    earlier-good = sum_is_good 0·0 term 0 zero_is_good i (λ j l u. term-good j (omega arith)) (s.range.ratio i b).earlier

    earlier_near : Near (i + i * (n + 3)) (units earlier * D) (total (λ j. units (t i j) * K j) 0 i)
    earlier_near =
        let none : units 0·0 * D ≡ 0 = ap (λ t. t * D) units-zero ∙ zero-mul D in
        let test = (s.range.ratio i b).earlier in
        let near = near_sum_over 0·0 term 0 zero_is_good i D (λ j. units (t i j) * K j) term-good test (near_eq none) term_near in
        rw (zero-add (total (λ j. units (t i j) * K j) 0 i)) at near

    later_good : (j : ℕ) → In (suc i) (n - suc i) j → Good (t i j)
    later_good j l = size-good j (omega arith) (λ e. omega arith)

    later_near : (j : ℕ) → In (suc i) (n - suc i) j → Near (i + i * (n + 3)) (units (t i j) * D) (units (t i j) * D)
    later_near j l = near_refl

    here_h_good : Good (h n t d k i)
    here_h_good =
        rw (h_is n t d k i)
        (sum_is_good earlier (t i) (suc i) earlier-good (n - suc i) (λ j l u. later_good j (omega arith)) (s.range.ratio i b).later)

    here_h_near : Near (h_count n i) (units (h n t d k i) * D) (exact_h s.exact i)
    unfolding H
    here_h_near =
        let near =
        near_sum_over earlier (t i) (suc i) earlier-good (n - suc i) D (λ j. units (t i j) * D) later_good
        (s.range.ratio i b).later earlier_near later_near in
        rw (h_is n t d k i, ← (sum_scale (λ j. units (t i j)) D (suc i) (n - suc i)))
        (near_grow (h_count_lem n i b) near)

    here : RatioNear i
    here =
        let hi = h n t d k i in
        let ai = a n t d k i in
        let gd = s.good.margin i b in
        let gh = here_h_good in
        let addition = (s.range.ratio i b).addition in
        let division = (s.range.ratio i b).division in
        let ga : Good ai = rw (a_is n t d k i) (sum-good gd gh addition) in
        let an : Near 1 (units ai) (units (d i) + units hi) = rw (a_is n t d k i) (sum_rounds (d i) hi gd gh addition).near in
        let above = divisor_above_zero gh ga (quotient_cases hi ai division).0 in
        let kn : Near 1 (units (k i) * units ai) (units hi * one·units) =
        rw (s.k_is i b) (quotient_rounds hi ai gh ga division).near in
        record {
          h-good = gh;
          h_near = here_h_near;
          a-good = ga;
          a-round = an;
          k-good = rw (s.k_is i b) (quotient-good gh ga division);
          k_near =
              near_ratio (units hi) (units ai) (units (k i)) (exact_h s.exact i) (exact_a s.exact i) (K i) D (units (d i))
              one·units above (a-pos s.exact i b) refl (s.exact.each i b) here_h_near an kn;
        }

  ratios_up_to : (q i : ℕ) → i < q → i < n → RatioNear i
  ratios_up_to zero i l b = absurd (omega arith)
  ratios_up_to (suc q) i l b = here i b (λ j m. ratios_up_to q j (omega arith) (omega arith))

  pub ratio_near : (i : ℕ) → i < n → RatioNear i
  ratio_near i b = ratios_up_to (suc i) i (omega arith) b

  -- a_i over D; where h_i is zero it has one rounding alone.
  a-over :
      (i e : ℕ) → i < n → Near e (units (h n t d k i) * D) (exact_h s.exact i)
      → Near (1 + e) (units (a n t d k i) * D) (exact_a s.exact i)
  a-over i e b near =
      let r = near_scale D (ratio_near i b).a-round in
      let whole = near_add (near_refl {x = units (d i) * D}) near in
      near_trans r (subst (λ v. Near e v (exact_a s.exact i)) (omega arith) whole)

  pub a_near : (i : ℕ) → i < n → Near (1 + h_count n i) (units (a n t d k i) * D) (exact_a s.exact i)
  a_near i b = a-over i (h_count n i) b (ratio_near i b).h_near

  pub a_near_unkept : (i : ℕ) → i < n → exact_h s.exact i ≡ 0 → Near 1 (units (a n t d k i) * D) (exact_a s.exact i)
  a_near_unkept i b e = a-over i 0 b (near_eq (near_zero (ratio_near i b).h_near e ∙ sym e))

  -- The kept stages are those whose exact h_i is not zero.
  zero_test : (i : ℕ) → i < n → is_zero (h n t d k i) ≡ eqb (units (h n t d k i)) 0
  zero_test i b = is_zero_lem (ratio_near i b).h-good

  pub kept_tells : KeptTest s.exact (kept n t d k)
  kept_tells = record { yes_kept = yes_kept; not-kept = not-kept }
    where
      yes_kept : (i : ℕ) → i < n → kept n t d k i ≡ true → 0 < exact_h s.exact i
      yes_kept i b e =
          let f = sym (zero_test i b) ∙ not-true (is_zero (h n t d k i)) (sym (kept_is n t d k i) ∙ e) in
          let g = eqb-false (units (h n t d k i)) 0 f in
          near_pos (ratio_near i b).h_near (mul-pos (omega arith) s.exact.positive)

      not-kept : (i : ℕ) → i < n → kept n t d k i ≡ false → exact_h s.exact i ≡ 0
      not-kept i b e =
          let f = sym (zero_test i b) ∙ not-false (is_zero (h n t d k i)) (sym (kept_is n t d k i) ∙ e) in
          let g = eqb-true (units (h n t d k i)) 0 f in
          near_zero (near_sym (ratio_near i b).h_near) (ap (λ t. t * D) g ∙ zero-mul D)
