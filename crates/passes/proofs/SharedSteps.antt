-- The table after all stages and the upward multipliers: document 01's pivots, multipliers and tests.
use mathlib.Core.Path.{◌≡◌, refl, ap, ap₂, ◌∙◌}
use mathlib.Core.Logic.{◌⊎◌, inl, inr}
use Prim.Native.Nat.{ℕ, zero, suc, ◌+◌, ◌-◌, ◌≤◌, ◌<◌}
use native.Mathlib.Nat.{add-zero, add-suc}
use native.Mathlib.Omega.{arith}
use mathlib.Core.Bool.{Bool, ◌&&◌}
use lib.Ieee.{Float}
use Rattle.exact.proofs.Cases.{by_order, by_equal}
use Rattle.exact.proofs.Bools.{same_truth}
use Rattle.definitions.specs.Numbers.{◌⊘◌, div_in_range, all}
use Rattle.definitions.specs.LeavingRates.{Weights, System, multiplier, eliminate, begun, downward, p, u, m↓, m↑, row_in_range, stage_in_range, shared_before, shared}
use Rattle.steps.proofs.All.{each, every, all_same}
use Rattle.steps.proofs.LeavingRatesSteps.{begun-at}
use Rattle.steps.proofs.Weights.{weights-refl}
use Rattle.steps.proofs.Same.{Same, same_same, eliminate_same, p_same, m↓_same, u_same, stage_test_same}
use Rattle.tables.specs.Operators.{between}
use Rattle.tables.proofs.Operators.{between_in, between_out}
use Rattle.passes.specs.Multipliers.{system_in, Multipliers}
use Rattle.passes.specs.Stages.{stage_done, stages_done, stages_in_range, over_pivot, upward_rows, upward_row_in_range}
use Rattle.passes.proofs.StagePlaces.{pivot-place, pivot-row_keeps, earlier-row_keeps, earlier-place_keeps, multiplier-place, stage_is_step}

-- A stage keeps the rows and the columns before it.
stage_keeps : (w : Weights) (r k : ℕ) (f : ℕ → ℕ → Float) (i j : ℕ) → i < r → (i < k) ⊎ (j < k) → stage_done w r k f i j ≡ f i j
stage_keeps w r k f i j h (inl l) = ap (λ (row : ℕ → Float). row j) (earlier-row_keeps w r k f i l)
stage_keeps w r k f i j h (inr l) =
    by_order k i
    (λ m. by_equal i k (λ e. rw e (pivot-row_keeps w r k f j (λ o. omega arith))) (λ n. earlier-place_keeps w r k f i (omega arith) h j l))
    (λ m. ap (λ (row : ℕ → Float). row j) (earlier-row_keeps w r k f i m))

module _ (w : Weights) (r : ℕ) (f : ℕ → ℕ → Float) where
  at : ℕ → System
  at = downward r (system_in w f)

  stages_are_begun : (k : ℕ) → k ≤ r → Same r k (system_in w (stages_done w r f k)) (begun r (system_in w f) k)
  unfolding stages_done begun
  stages_are_begun zero l = record { sizes = λ i j p₁ p₂ p₃ p₄ n. refl; exits = λ i p₁ p₂. refl; weights = weights-refl r w }
  stages_are_begun (suc k) l =
      same_same r (suc k) (system_in w (stage_done w r k (stages_done w r f k))) (eliminate r (system_in w (stages_done w r f k)) k) (eliminate r (begun r (system_in w f) k) k)
      (stage_is_step w r k (stages_done w r f k) l)
      (eliminate_same r k (system_in w (stages_done w r f k)) (begun r (system_in w f) k) (stages_are_begun k (omega arith)) l)

  held : ℕ → System
  held k = system_in w (stages_done w r f k)

  held_is : (k : ℕ) → k < r → Same r k (held k) (at k)
  unfolding held at
  held_is k l = rw (begun-at r (system_in w f) k l) (stages_are_begun k (omega arith))

  -- A place that the stages from n on keep.
  stages_keep : (i j n d : ℕ) → i < r → ((k : ℕ) → n ≤ k → (i < k) ⊎ (j < k)) → stages_done w r f (n + d) i j ≡ stages_done w r f n i j
  unfolding stages_done
  stages_keep i j n zero l o = rw (add-zero n)
  stages_keep i j n (suc d) l o = rw (add-suc n d) (stage_keeps w r (n + d) (stages_done w r f (n + d)) i j l (o (n + d) (omega arith)) ∙ stages_keep i j n d l o)

  at_end : (i j n : ℕ) → n ≤ r → i < r → ((k : ℕ) → n ≤ k → (i < k) ⊎ (j < k)) → stages_done w r f r i j ≡ stages_done w r f n i j
  at_end i j n l m o = let e : n + (r - n) ≡ r = omega arith in rw e at (stages_keep i j n (r - n) m o)

  end_pivot : (i : ℕ) → i < r → stages_done w r f r i i ≡ p r at i
  unfolding stages_done held p
  end_pivot i l = at_end i i (suc i) l l (λ k a. inl a) ∙ pivot-place w r i (stages_done w r f i) ∙ p_same r held at held_is i l

  end_size : (k i : ℕ) → i < k → k < r → stages_done w r f r i k ≡ u r at i k
  unfolding stages_done held u
  end_size k i l m =
      at_end i k (suc i) (omega arith) (omega arith) (λ k a. inl a)
      ∙ pivot-row_keeps w r i (stages_done w r f i) k (λ e. omega arith)
      ∙ u_same r held at held_is i k l m

  end_multiplier : (k i : ℕ) → k < i → i < r → stages_done w r f r i k ≡ m↓ r at k i
  unfolding stages_done held m↓ multiplier
  end_multiplier k i l m =
      at_end i k (suc k) (omega arith) m (λ k a. inr a) ∙ multiplier-place w r k (stages_done w r f k) i l m ∙ m↓_same r held at held_is k i l m

  -- The tests.
  one-stage : (k : ℕ) → stage_in_range r (λ _. system_in w (stages_done w r f k)) k ≡ stage_in_range r held k
  unfolding stage_in_range row_in_range p m↓ held
  one-stage k = refl

  stages_test_lem : stages_in_range w r f r ≡ shared_before r at r
  unfolding stages_in_range shared_before
  stages_test_lem =
      all_same (λ l. stage_in_range r (λ _. system_in w (stages_done w r f l)) l) (stage_in_range r at) 0 r
      (λ k l m. one-stage k ∙ stage_test_same r held at held_is k (omega arith))

  upward_test : all (upward_row_in_range r (stages_done w r f r)) 0 r ≡ all (λ k. all (λ i. div_in_range (u r at i k) (p r at k)) 0 k) 0 r
  unfolding upward_row_in_range
  upward_test =
      all_same (upward_row_in_range r (stages_done w r f r)) (λ i. all (λ k. divided k i) (suc i) (r - suc i)) 0 r
      (λ i _ a. all_same (λ k. div_in_range (stages_done w r f r i k) (stages_done w r f r k k)) (λ k. divided k i) (suc i) (r - suc i)
      (λ k l b. ap₂ div_in_range (end_size k i l (omega arith)) (end_pivot k (omega arith))))
      ∙ same_truth (all (λ i. all (λ k. divided k i) (suc i) (r - suc i)) 0 r) (all (λ k. all (divided k) 0 k) 0 r)
      (λ t. every (λ k. all (divided k) 0 k) 0 r (λ k a b. every (divided k) 0 k (λ i c d. each (λ k. divided k i) (suc i) (r - suc i) k (each (λ i. all (λ k. divided k i) (suc i) (r - suc i)) 0 r i t c (omega arith)) (omega arith) (omega arith))))
      (λ t. every (λ i. all (λ k. divided k i) (suc i) (r - suc i)) 0 r (λ i c d. every (λ k. divided k i) (suc i) (r - suc i) (λ k a b. each (divided k) 0 k i (each (λ k. all (divided k) 0 k) 0 r k t (omega arith) (omega arith)) c (omega arith))))
    where
      divided : ℕ → ℕ → Bool
      divided k i = div_in_range (u r at i k) (p r at k)

  pub shared_test : (stages_in_range w r f r && all (upward_row_in_range r (stages_done w r f r)) 0 r) ≡ shared r (downward r (system_in w f))
  unfolding shared at
  shared_test = ap₂ ◌&&◌ stages_test_lem upward_test

  -- With the upward multipliers in place.
  not_above : (i j : ℕ) → i < r → j ≤ i → upward_rows r r (stages_done w r f r) i j ≡ stages_done w r f r i j
  unfolding upward_rows
  not_above i j l o =
      let g = stages_done w r f r in
      ap (λ (row : ℕ → Float). row j) (between_in 0 r (λ i. between (suc i) r (over_pivot g i) (g i)) g i (omega arith) l)
      ∙ between_out (suc i) r (over_pivot g i) (g i) j (λ a b. omega arith)

  pub multipliers : Multipliers r (downward r (system_in w f)) (upward_rows r r (stages_done w r f r))
  unfolding upward_rows over_pivot m↑ at
  multipliers =
      let g = stages_done w r f r in
      record {
        pivots = λ i l. not_above i i l (omega arith) ∙ end_pivot i l;
        below = λ k i l m. not_above i k m (omega arith) ∙ end_multiplier k i l m;
        above = λ k i l m.
            ap (λ (row : ℕ → Float). row k) (between_in 0 r (λ i. between (suc i) r (over_pivot g i) (g i)) g i (omega arith) (omega arith))
            ∙ between_in (suc i) r (over_pivot g i) (g i) k l m
            ∙ ap₂ (λ x y. x ⊘ y) (end_size k i l m) (end_pivot k m);
      }
