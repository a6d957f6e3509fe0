-- The kept system: its computed numbers against the exact ones, and its answers by the accuracy of the engine.
use Prim.Native.Nat.{ℕ, zero, suc, ◌+◌, ◌*◌, ◌-◌, ◌≤◌, ◌<◌}
use native.Mathlib.Nat.{zero-add, zero-mul, mul-zero, mul-one}
use native.Mathlib.Decide.{ℕ_discrete}
use native.Mathlib.Omega.{arith}
use mathlib.Core.Bool.{true, false}
use mathlib.Core.Logic.{◌≢◌}
use mathlib.Core.Path.{◌≡◌, refl, ap, ◌∙◌, subst, subst₂}
use lib.Ieee.{Float}
use borrow.Author.Tests.{eq-eqb, ne_eqb}
use Rattle.exact.specs.Chains.{In}
use Rattle.exact.specs.Near.{Near}
use Rattle.exact.specs.Systems.{Equations, Solves, AllOut}
use Rattle.exact.specs.Perturbation.{NearRow, AllRows}
use Rattle.exact.specs.Elimination.{Existence}
use Rattle.exact.proofs.Near.{near_eq, near_sym, near_trans, near_grow, near_scale, near_scale_left, near_cancel, near_mul, near_through, pos-left}
use Rattle.exact.proofs.Systems.{multiplied, solves_multiplied, all_out_mono}
use Rattle.exact.proofs.Elimination.{existence}
use Rattle.exact.proofs.Perturbation.{all-rows, near_out, near_row_sym}
use Rattle.definitions.specs.Numbers.{◌⊗◌, ◌⊘◌, 0·0, sum, units}
use Rattle.definitions.specs.LeavingRates.{none, downward, quotient}
use Rattle.definitions.specs.Compact.{rank}
use Rattle.definitions.specs.Margins.{a, kept, kept_system, y, x_after}
use Rattle.rounding.specs.Good.{Good, one·units}
use Rattle.steps.proofs.MarginsSteps.{kept-size, kept_exit, kept-weights, y_is, x-start}
use Rattle.steps.proofs.CompactOrder.{rank_below, stage_of_rank, Listed, listed}
use Rattle.rates_accuracy.specs.LeavingRatesAccuracy.{in_units, identity_column, GoodSystem, Computed, EngineWithin, EngineAccuracy}
use Rattle.inverse.specs.Reduction.{delta}
use Rattle.inverse.proofs.PartialSums.{delta_other}
use Rattle.rounding.proofs.Laws.{one-pos, product-good, product_rounds, quotient-good, quotient_rounds, zero_is_good, units-zero}
use Rattle.margins_accuracy.proofs.MarginsCounts.{h_count, system_count, answer_count, product_count, size_count, exit_count}
use Rattle.margins_accuracy.proofs.MarginsExact.{exact_a, exit_sum, kept_rows, a-pos, k-rest, k-zero, h-zero, kept_out}
use Rattle.margins_accuracy.proofs.MarginsStart.{right_side, over, answer, answer_solves, share, start_over, start-over, start_table, start-kept}
use Rattle.rates_accuracy.proofs.CompactEquations.{stage, packed, packed_solves, packed_out, stage_apart}
use Rattle.margins_accuracy.proofs.MarginsSums.{near_sum_over}
use Rattle.margins_accuracy.proofs.MarginsRange.{ScaledRange}
use Rattle.rates_accuracy.proofs.LeavingRatesRange.{table-shared, table-column}
use Rattle.margins_accuracy.proofs.MarginsRatios.{Setting, ratio_near, a_near, kept_tells, near_product}
use Rattle.rounding.proofs.RoundedSums.{sum_is_good}

-- q = m / a, and a is near A over D, where r·A = D·m·D: q is near r.
near_rest :
    {e : ℕ} (q a A m D r w : ℕ) → 0 < A → r * A ≡ D * (m * D) → Near 1 (q * a) (m * w) → Near e (a * D) A
    → Near (e + 1) (q * D) (r * w)
near_rest {e} q a A m D r w pos f h g =
    let b : Near e (q * D * A) (q * a * (D * D)) =
    subst₂ (Near e) (omega arith) (omega arith) (near_scale_left (q * D) (near_sym g)) in
    let c : Near 1 (q * a * (D * D)) (r * w * A) =
    subst (Near 1 (q * a * (D * D))) (omega (arith, ap (λ t. t * w) f)) (near_scale (D * D) h) in
    near_cancel pos (near_trans b c)

-- p is x·y over w, x is near u over D, and y is near v over c.
pub near_both :
    {e f w : ℕ} (p x y D c u v : ℕ) → 0 < w → Near 1 (p * w) (x * y) → Near e (x * D) (u * w) → Near f (y * c) (v * w)
    → Near (1 + (e + f)) (p * (c * D)) (u * v * w)
near_both {e} {f} {w} p x y D c u v pos h g i =
    let b : Near 1 (p * (c * D) * w) (x * D * (y * c)) =
    subst₂ (Near 1) (omega arith) (omega arith) (near_scale (c * D) h) in
    let d : Near (e + f) (x * D * (y * c)) (u * v * w * w) =
    subst (Near (e + f) (x * D * (y * c))) (omega arith) (near_mul g i) in
    near_cancel pos (near_trans b d)

module _ {n : ℕ} {t : ℕ → ℕ → Float} {d : ℕ → Float} {D : ℕ} {K : ℕ → ℕ} {k : ℕ → Float} (s : Setting n t d D K k) where
  -- The kept stages in compact order.
  abbrev r : ℕ
  r = rank (kept n t d k) n

  abbrev at : ℕ → ℕ
  at p = stage (kept n t d k) n p

  at_is : (p : ℕ) → p < r → Listed (kept n t d k) n p (at p)
  at_is p l = listed (kept n t d k) n p l

  at_apart : (p q : ℕ) → p < r → q < r → p ≢ q → at p ≢ at q
  at_apart p q bp bq e = stage_apart (kept n t d k) n p q bp bq e

  -- New sizes.
  module _ (i j : ℕ) (bi : i < n) (bj : j < n) (ki : kept n t d k i ≡ true) (kj : kept n t d k j ≡ true) (apart : i ≢ j) where
    new_size_good : Good (t i j ⊗ k j)
    new_size_good =
        product-good (s.good.size i j bi bj apart) (ratio_near s j bj).k-good ((s.range.scaled i bi ki).size j bj kj apart)

    new_size_near : Near (system_count n) (units (t i j ⊗ k j) * D) (units (t i j) * K j)
    new_size_near =
        let gt = s.good.size i j bi bj apart in
        let kn = ratio_near s j bj in
        let p = (product_rounds (t i j) (k j) gt kn.k-good ((s.range.scaled i bi ki).size j bj kj apart)).near in
        let near = near_product (units (t i j ⊗ k j)) (units (t i j)) (units (k j)) D (K j) one-pos p kn.k_near in
        near_grow (size_count n) (near_grow (product_count n n j bj) near)

  -- The new exit of a kept stage i.
  module _ (i : ℕ) (bi : i < n) (ki : kept n t d k i ≡ true) where
    abbrev part : ℕ → Float
    part j = d j ⊘ a n t d k j

    abbrev term : ℕ → Float
    term j = t i j ⊗ (d j ⊘ a n t d k j)

    tests : ScaledRange n t d k i
    tests = s.range.scaled i bi ki

    module _ (j : ℕ) (l : In (suc i) (n - suc i) j) where
      bj : j < n
      bj = omega arith

      size-good : Good (t i j)
      size-good = s.good.size i j bi bj (λ e. omega arith)

      part-good : Good (part j)
      part-good = quotient-good (s.good.margin j bj) (ratio_near s j bj).a-good (tests.division j (omega arith) bj)

      term-good : Good (term j)
      term-good = product-good size-good part-good (tests.product j (omega arith) bj)

      part_near : Near (1 + h_count n j + 1) (units (part j) * D) ((D - K j) * one·units)
      part_near =
          let gd = s.good.margin j bj in
          let ga = (ratio_near s j bj).a-good in
          let q = (quotient_rounds (d j) (a n t d k j) gd ga (tests.division j (omega arith) bj)).near in
          near_rest (units (part j)) (units (a n t d k j)) (exact_a s.exact j) (units (d j)) D (D - K j) one·units
          (a-pos s.exact j bj) (k-rest s.exact j bj) q (a_near s j bj)

      term_near : Near (n * (n + 3)) (units (term j) * D) (units (t i j) * (D - K j))
      term_near =
          let p = (product_rounds (t i j) (part j) size-good part-good (tests.product j (omega arith) bj)).near in
          let near = near_product (units (term j)) (units (t i j)) (units (part j)) D (D - K j) one-pos p part_near in
          near_grow (omega (arith, product_count n n j bj)) near

    new_exit_good : Good (sum 0·0 term (suc i) (n - suc i))
    new_exit_good = sum_is_good 0·0 term (suc i) zero_is_good (n - suc i) (λ j l u. term-good j (omega arith)) tests.exit

    new_exit_near : Near (system_count n) (units (sum 0·0 term (suc i) (n - suc i)) * D) (exit_sum s.exact i)
    new_exit_near =
        let none : units 0·0 * D ≡ 0 = ap (λ t. t * D) units-zero ∙ zero-mul D in
        let near =
        near_sum_over 0·0 term (suc i) zero_is_good (n - suc i) D (λ j. units (t i j) * (D - K j)) term-good tests.exit
        (near_eq none) term_near in
        near_grow (exit_count n i bi) (rw (zero-add (exit_sum s.exact i)) at near)

  system-good : GoodSystem none 0 r (kept_system n t d k)
  system-good = record { size = size-good; exit = exit_good; weights = kept-weights n t d k }
    where
      size-good : (p q : ℕ) → In 0 r p → In 0 r q → p ≢ q → Good ((kept_system n t d k).t p q)
      size-good p q lp lq e =
          let bp : p < r = omega arith in
          let bq : q < r = omega arith in
          let ip = at_is p bp in
          let iq = at_is q bq in
          rw (kept-size n t d k p q bp bq)
          (new_size_good (at p) (at q) ip.below iq.below ip.passes iq.passes (at_apart p q bp bq e))

      exit_good : (p : ℕ) → In 0 r p → Good ((kept_system n t d k).s p)
      exit_good p lp =
          let bp : p < r = omega arith in
          rw (kept_exit n t d k p bp) (new_exit_good (at p) (at_is p bp).below (at_is p bp).passes)

  -- Column j of the kept system: the exact rows in compact order, and the computed ones, multiplied by D.
  abbrev exact_all : ℕ → Equations
  exact_all j = kept_rows s.exact (right_side s.exact j)

  abbrev exact_rows : ℕ → Equations
  exact_rows j = packed (kept n t d k) n (exact_all j)

  abbrev unit_rows : ℕ → Equations
  unit_rows q = in_units none (kept_system n t d k) (identity_column q)

  others_empty : (j i l : ℕ) → i < n → l < n → kept n t d k l ≡ false → (exact_all j i).size l ≡ 0
  others_empty j i l bi bl e =
      ap (λ v. units (t i l) * v) (k-zero s.exact l bl ((kept_tells s).not-kept l bl e)) ∙ mul-zero (units (t i l))

  exact_solves : (j : ℕ) → Solves 0 r (exact_rows j) (over s.exact j) (λ p. answer s.exact j (at p))
  exact_solves j =
      packed_solves (kept n t d k) n (exact_all j) (others_empty j) (over s.exact j) (answer s.exact j)
      (answer_solves s.exact j)

  exact_out : (j : ℕ) → AllOut 0 r (exact_rows j)
  exact_out j =
      packed_out (kept n t d k) n (exact_all j) (others_empty j) (kept_out s.exact (right_side s.exact j))

  right_same : (q p : ℕ) → q < r → p < r → identity_column q p * D ≡ right_side s.exact (at q) (at p)
  unfolding identity_column
  right_same q p bq bp =
      elim (ℕ_discrete p q) [
        | yes e ↦ rw (eq-eqb p q e, eq-eqb (at p) (at q) (ap at e)) refl
        | no e ↦ rw (ne_eqb p q e, ne_eqb (at p) (at q) (at_apart p q bp bq e)) (zero-mul D)
      ]

  rows_near : (q : ℕ) → q < r → (p : ℕ) → In 0 r p → NearRow (system_count n) 0 r p (multiplied D (unit_rows q p)) (exact_rows (at q) p)
  rows_near q bq p lp = record { moves = record { size = sizes; exit = exits }; right = near_eq (right_same q p bq bp) }
    where
      bp : p < r
      bp = omega arith

      sizes :
          (l : ℕ) → In 0 r l → p ≢ l
          → Near (system_count n) (units ((kept_system n t d k).t p l) * 1 * D) (units (t (at p) (at l)) * K (at l))
      sizes l ll e =
          let bl : l < r = omega arith in
          let ip = at_is p bp in
          let il = at_is l bl in
          rw (mul-one (units ((kept_system n t d k).t p l)), kept-size n t d k p l bp bl)
          (new_size_near (at p) (at l) ip.below il.below ip.passes il.passes (at_apart p l bp bl e))

      exits :
          Near (system_count n) (units ((kept_system n t d k).s p) * 1 * D) (exit_sum s.exact (at p) + delta (K (at p)) 0 1)
      exits =
          let ip = at_is p bp in
          let above = (kept_tells s).yes_kept (at p) ip.below ip.passes in
          let apart : K (at p) ≢ 0 = λ z. absurd (omega (arith, h-zero s.exact (at p) ip.below z)) in
          let e : exit_sum s.exact (at p) + delta (K (at p)) 0 1 ≡ exit_sum s.exact (at p) =
          omega (arith, delta_other (K (at p)) 0 1 apart) in
          rw (mul-one (units ((kept_system n t d k).s p)), kept_exit n t d k p bp, e) (new_exit_near (at p) ip.below ip.passes)

  multiplied_out : (q : ℕ) → q < r → AllOut 0 r (λ p. multiplied D (unit_rows q p))
  multiplied_out q bq = near_out (exact_out (at q)) (λ p lp. (near_row_sym (rows_near q bq p lp)).moves)

  -- The system gets out, whatever its right side is.
  units_out : (b : ℕ → ℕ) (q : ℕ) → q < r → AllOut 0 r (in_units none (kept_system n t d k) b)
  units_out b q bq =
      all_out_mono (multiplied_out q bq)
      (λ i j li lj e p. pos-left (units ((kept_system n t d k).t i j) * 1) D p)
      (λ i li p. pos-left (units ((kept_system n t d k).s i) * 1) D p)

  module _ (engine : EngineAccuracy) where
    -- The answers of the engine, near those of the computed system, which are near those of the exact one.
    engine_near :
        (p q : ℕ) → p < r → q < r
        → Computed (answer_count n r) (quotient r (downward r (kept_system n t d k)) p q)
        (answer s.exact (at q) (at p)) (over s.exact (at q))
    unfolding EngineAccuracy EngineWithin Existence AllRows answer_count
    engine_near p q bp bq =
        let at₀ = downward r (kept_system n t d k) in
        let j = at q in
        let (c, z, pos, solves) = existence 0 r (unit_rows q) (units_out (identity_column q) q bq) in
        let shared = table-shared r at₀ s.range.engine in
        let column = table-column r at₀ s.range.engine q bq in
        let computed = engine none r q (kept_system n t d k) tt system-good (units_out (λ i. zero) q bq) shared column c z solves p bp in
        let moved =
        all-rows 0 r (λ p. multiplied D (unit_rows q p)) (exact_rows j) (system_count n) c (over s.exact j) z
        (λ p. answer s.exact j (at p)) (multiplied_out q bq) (rows_near q bq) (solves_multiplied D solves) (exact_solves j) p
        (omega arith) in
        record {
          good = computed.good;
          near =
              near_through one·units (over s.exact j) (units (quotient r at₀ p q)) (z p) (answer s.exact j (at p)) pos
              (rw (mul-one (z p)) at computed.near) moved;
        }

    module _ (i j : ℕ) (bi : i < n) (bj : j < n) (ki : kept n t d k i ≡ true) (kj : kept n t d k j ≡ true) where
      y_near : Computed (answer_count n r) (y n t d k i j) (answer s.exact j i) (over s.exact j)
      y_near =
          let test = kept n t d k in
          let near = engine_near (rank test i) (rank test j) (rank_below test n i bi ki) (rank_below test n j bj kj) in
          rw (y_is n t d k i j) (rw (stage_of_rank test n i bi ki, stage_of_rank test n j bj kj) at near)

      -- The way back: x_ij = k_i·y_ij.
      pub start_near :
          Computed (answer_count n r + n * (n + 3)) (x_after n t d k 0 i j)
          (start_table s.exact (kept n t d k) i j) (start_over s.exact)
      start_near =
          let yij = y n t d k i j in
          let kn = ratio_near s i bi in
          let test = s.range.back i j bi bj ki kj in
          let p = (product_rounds (k i) yij kn.k-good y_near.good test).near in
          let v = answer s.exact j i in
          let c = over s.exact j in
          let u = share s.exact j in
          let X = start_table s.exact (kept n t d k) i j in
          let near = near_both (units (k i ⊗ yij)) (units (k i)) (units yij) D c (K i) v one-pos p kn.k_near y_near.near in
          let enough = count (h_count n i) (answer_count n r) (n * (n + 3)) (product_count n n i bi) in
          rw (x-start n t d k i j bi bj)
          (record {
            good = product-good kn.k-good y_near.good test;
            near =
                subst₂ (Near (answer_count n r + n * (n + 3)))
                (left (units (k i ⊗ yij)) (c * D) u (start_over s.exact) (start-over s.exact j bj))
                (right (K i * v) one·units u X (start-kept s.exact (kept n t d k) i j kj))
                (near_scale u (near_grow enough near));
          })
        where
          left : (p c s z : ℕ) → c * s ≡ z → p * c * s ≡ p * z
          left p c s z e = omega (arith, ap (λ t. p * t) e)

          right : (u w s v : ℕ) → v ≡ u * s → u * w * s ≡ v * w
          right u w s v e = omega (arith, ap (λ t. t * w) e)

          count : (h e m : ℕ) → 1 + (h + 2) ≤ m → 1 + (h + 2 + e) ≤ e + m
          count h e m l = omega arith
