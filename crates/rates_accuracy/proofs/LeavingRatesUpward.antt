-- The upward stages of one column, and its exact quotients b_i / p_i, divided by the weights, over one denominator, the product of the
-- pivots and the weights.
use Prim.Native.Nat.{ℕ, zero, suc, ◌+◌, ◌-◌, ◌*◌, ◌/◌, ◌<◌}
use mathlib.Core.Path.{◌≡◌, sym, ap, ◌∙◌, subst, subst₂}
use native.Mathlib.Nat.{mul_assoc, mul_left_comm, add-mul}
use native.Mathlib.Omega.{arith}
use lib.Dec.{T}
use lib.Ieee.{Float}
use Rattle.exact.specs.Near.{Near}
use Rattle.exact.specs.Sums.{sum}
use Rattle.exact.specs.Systems.{mix}
use Rattle.exact.specs.Elimination.{pivot}
use Rattle.exact.proofs.Near.{near_refl, near_sym, near_trans, near_grow, near_scale, near_add, near_sum_down}
use Rattle.exact.proofs.Sums.{first, sum_scale}
use Rattle.exact.proofs.CommonDenominator.{product, over-product}
use Rattle.definitions.specs.Numbers.{◌⊕◌, ◌⊗◌, ◌⊘◌, add_product_in_range, units}
use Rattle.definitions.specs.LeavingRates.{Weights, System, p, m↑, b↓, b↑, solved, quotient, column}
use Rattle.rounding.specs.Good.{Good, one·units}
use Rattle.rounding.proofs.Laws.{quotient-good, quotient_rounds}
use Rattle.steps.proofs.LeavingRatesSteps.{upward_multiplier_is, upward_start, upward_step, solved_is, quotient_is}
use Rattle.rates_accuracy.specs.LeavingRatesAccuracy.{weight_units, in_units, GoodWeights, Computed, row_roundings}
use Rattle.rates_accuracy.proofs.LeavingRatesRange.{upward_column, column-up, last-division}
use Rattle.rates_accuracy.proofs.OperationErrors.{AddsProduct, adds_product, term_roundings, near_terms}
use Rattle.rates_accuracy.proofs.LeavingRatesStages.{Shared}
use Rattle.rates_accuracy.proofs.PivotErrors.{pivot-good, pivot_near, row_count_lem}
use Rattle.rates_accuracy.proofs.LeavingRatesColumn.{column-good}

-- A factor c that makes one denominator d of another, q.
pub near_over : {e d : ℕ} (q c x a b : ℕ) → q * c ≡ d → Near e (x * q) (a * b) → Near e (x * d) (a * (b * c))
near_over q c x a b e n = rw (← e, ← (mul_assoc x q c), ← (mul_assoc a b c)) (near_scale c n)

-- One denominator for the exact quotients over the weights: the product of the pivots and the weights.
module _ (w : Weights) (r : ℕ) (at : ℕ → System) where
  -- A pivot times its weight.
  abbrev pub divisor : ℕ → ℕ
  divisor l = units (p r at l) * weight_units w l

  unfoldable pub denominator : ℕ
  denominator = product divisor zero r

  pub cofactor : (l : ℕ) → l < r → divisor l * (denominator / divisor l) ≡ denominator
  unfolding denominator
  cofactor l h = over-product divisor zero r l (omega arith)

module _ (w : Weights) (r : ℕ) (at : ℕ → System) (j : ℕ) where
  -- Stage l comes after q upward stages, where l + q + 1 = r.
  upward_next :
      (q l i : ℕ) → suc (l + q) ≡ r → i < r
      → b↑ r at j (suc q) i ≡ b↑ r at j q i ⊕ (at i).t i l ⊘ p r at l ⊗ b↑ r at j q l
  upward_next q l i e h =
      let step : b↑ r at j (suc q) i ≡ b↑ r at j q i ⊕ m↑ r at l i ⊗ b↑ r at j q l =
      subst (λ x. b↑ r at j (suc q) i ≡ b↑ r at j q i ⊕ m↑ r at x i ⊗ b↑ r at j q x) (omega arith) (upward_step r at j q i h) in
      rw (← (upward_multiplier_is r at l i)) step

  -- What stage l adds to row k, and row k's number with the stages from l on added.
  term : ℕ → ℕ → Float
  term k l = (at k).t k l ⊘ p r at l ⊗ solved r at j l

  running : ℕ → ℕ → Float
  running k l = b↑ r at j (r - l) k

  running_solved : (k : ℕ) → running k (suc k) ≡ solved r at j k
  unfolding running
  running_solved k = sym (solved_is r at j k)

  running_start : (k : ℕ) → k < r → running k r ≡ b↓ r at j k k
  unfolding running
  running_start k h = ap (λ q. b↑ r at j q k) (omega arith) ∙ upward_start r at j k h

  -- The exact quotient of row l, divided by its weight, is `answer l` over the denominator.
  abbrev q : ℕ → ℕ
  q = divisor w r at

  abbrev D : ℕ
  D = denominator w r at

  unfoldable pub answer : ℕ → ℕ
  answer l = units (solved r at j l) * (D / q l)

  answer_is : (l : ℕ) → l < r → q l * answer l ≡ units (solved r at j l) * D
  unfolding answer
  answer_is l h = mul_left_comm (q l) (units (solved r at j l)) (D / q l) ∙ ap (λ x. units (solved r at j l) * x) (cofactor w r at l h)

  module _ (gw : GoodWeights r w) (s : Shared w r at) (t : T (column r at j)) where
    pub pivots-good : (l : ℕ) → l < r → Good (p r at l)
    pivots-good l h =
        let e : suc (l + (r - suc l)) ≡ r = omega arith in
        pivot-good w r gw at l (r - suc l) e (s.good l (r - suc l) e) (s.range l (r - suc l) e).pivot

    upward_adds :
        (q l i : ℕ) → suc (l + q) ≡ r → i < l → Good (b↑ r at j q i) → Good (b↑ r at j q l)
        → AddsProduct (b↑ r at j q i) ((at i).t i l) (p r at l) (b↑ r at j q l)
    upward_adds q l i e h gi gl =
        let gt = (s.good i (r - suc i) (omega arith)).size i l first (omega arith) (omega arith) in
        let here : T (add_product_in_range (b↑ r at j q i) (m↑ r at l i) (b↑ r at j q l)) =
        subst (λ x. T (add_product_in_range (b↑ r at j q i) (m↑ r at x i) (b↑ r at j q x))) (omega arith)
        (column-up r at j r q i (upward_column r at j t) (omega arith) (omega arith)) in
        adds_product (b↑ r at j q i) ((at i).t i l) (p r at l) (b↑ r at j q l) gi gt (pivots-good l (omega arith)) gl
        (s.upward i l h (omega arith)) (rw (upward_multiplier_is r at l i) at here)

    upward_good : (q i : ℕ) → i + q < r → Good (b↑ r at j q i)
    upward_good zero i h =
        rw (upward_start r at j i (omega arith)) (column-good r at j w gw s t i (r - suc i) (omega arith) i first)
    upward_good (suc q) i h =
        let l = r - suc q in
        let e : suc (l + q) ≡ r = omega arith in
        rw (upward_next q l i e (omega arith))
        (upward_adds q l i e (omega arith) (upward_good q i (omega arith)) (upward_good q l (omega arith))).good

    pub solved-good : (i : ℕ) → i < r → Good (solved r at j i)
    solved-good i h = rw (solved_is r at j i) (upward_good (r - suc i) i (omega arith))

    module _ (k l : ℕ) (h : k < l) (n : l < r) where
      adds : AddsProduct (running k (suc l)) ((at k).t k l) (p r at l) (solved r at j l)
      unfolding running
      adds =
          rw (solved_is r at j l)
          (upward_adds (r - suc l) l k (omega arith) h (upward_good (r - suc l) k (omega arith)) (upward_good (r - suc l) l (omega arith)))

      running_next : running k l ≡ running k (suc l) ⊕ term k l
      unfolding running term
      running_next =
          ap (λ q. b↑ r at j q k) (omega arith)
          ∙ upward_next (r - suc l) l k (omega arith) (omega arith)
          ∙ ap (λ b. b↑ r at j (r - suc l) k ⊕ (at k).t k l ⊘ p r at l ⊗ b) (sym (solved_is r at j l))

      addition_near : Near 1 (units (running k l)) (units (running k (suc l)) + units (term k l))
      unfolding term
      addition_near = rw running_next adds.addition

      product_near : Near 2 (units (term k l) * units (p r at l)) (units ((at k).t k l) * units (solved r at j l))
      unfolding term
      product_near = adds.product

    -- Row k, with m stages after it: a rounding for each addition.
    solved_near :
        (k m : ℕ) → suc (k + m) ≡ r
        → Near m (units (solved r at j k)) (units (b↓ r at j k k) + sum (λ l. units (term k l)) (suc k) m)
    solved_near k m e =
        let near =
        near_sum_down (λ l. units (running k l)) (λ l. units (term k l)) (suc k) m
        (λ l h. addition_near k l (omega arith) (omega arith)) in
        let last : running k (suc k + m) ≡ b↓ r at j k k = ap (running k) (omega arith) ∙ running_start k (omega arith) in
        rw (running_solved k, last) at near

    -- Row k of the exact quotients: each product has two roundings more, and the pivot its own.
    term-over : (k l : ℕ) → k < l → l < r → Near 2 (units (term k l) * D) (units ((at k).t k l) * weight_units w l * answer l)
    unfolding answer
    term-over k l h n =
        near_over (q l) (D / q l) (units (term k l)) (units ((at k).t k l) * weight_units w l) (units (solved r at j l))
        (cofactor w r at l n) (subst₂ (Near 2) (omega arith) (omega arith) (near_scale (weight_units w l) (product_near k l h n)))

    sum_over :
        (k m : ℕ) → suc (k + m) ≡ r
        → Near (term_roundings 2 m) (sum (λ l. units (term k l)) (suc k) m * D) (sum (λ l. units ((at k).t k l) * weight_units w l * answer l) (suc k) m)
    sum_over k m e =
        rw (← (sum_scale (λ l. units (term k l)) D (suc k) m))
        (near_terms 2 (λ l. units (term k l) * D) (λ l. units ((at k).t k l) * weight_units w l * answer l) (suc k) m
        (λ l h. term-over k l (omega arith) (omega arith)))

    pub row_near :
        (b : ℕ → ℕ) (k m : ℕ) → suc (k + m) ≡ r
        → Near (row_roundings w (suc m)) (pivot k m (in_units w (at k) b) * answer k)
        (units (b↓ r at j k k) * D + mix (suc k) m (in_units w (at k) b k) answer)
    unfolding mix
    row_near b k m e =
        let own = near_scale (answer k) (near_sym (pivot_near r at k m e (s.range k m e).pivot b w gw (s.good k m e))) in
        let added = near_scale D (solved_near k m e) in
        let terms = near_add (near_refl {x = units (b↓ r at j k k) * D}) (sum_over k m e) in
        near_grow (row_count_lem w m)
        (near_trans (rw (answer_is k (omega arith)) at own) (near_trans (rw add-mul at added) terms))

    -- The last division has one rounding.
    pub last-quotient : (i : ℕ) → i < r → Computed 1 (quotient r at i j) (answer i * weight_units w i) D
    unfolding answer
    last-quotient i h =
        let x = solved r at j i in
        let gx = solved-good i h in
        let gp = pivots-good i h in
        let d = last-division r at j t i h in
        let W = weight_units w i in
        let over : Near 1 (units (x ⊘ p r at i) * D) (one·units * W * (units x * (D / q i))) =
        near_over (q i) (D / q i) (units (x ⊘ p r at i)) (one·units * W) (units x) (cofactor w r at i h)
        (subst₂ (Near 1) (omega arith) (omega arith) (near_scale W (quotient_rounds x (p r at i) gx gp d).near)) in
        rw (quotient_is r at i j)
        (record { good = quotient-good gx gp d; near = subst (Near 1 (units (x ⊘ p r at i) * D)) (omega arith) over })
