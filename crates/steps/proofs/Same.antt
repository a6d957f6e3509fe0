-- Systems that agree off the diagonal, in their leaving rates and in their weights have the same pivots, multipliers, quotients and tests.
use mathlib.Core.Path.{◌≡◌, sym, ap, ap₂, ◌∙◌}
use Prim.Native.Nat.{ℕ, zero, suc, ◌+◌, ◌-◌, ◌≤◌, ◌<◌}
use native.Mathlib.Omega.{arith}
use mathlib.Core.Bool.{◌&&◌, ◌||◌}
use lib.Dec.{eqb}
use lib.Ieee.{Float}
use borrow.Author.Tests.{eq-eqb, le-leb, lt-leb}
use Rattle.definitions.specs.Numbers.{◌⊕◌, ◌⊗◌, ◌⊘◌, 0·0, div_in_range, add_product_in_range, all}
use Rattle.definitions.specs.LeavingRates.{System, pivot, pivot_in_range, multiplier, eliminate, begun, downward, p, u, m↓, m↑, b↓, b↑, solved, quotient, row_in_range, stage_in_range, shared_before, shared, column_before, column_upward, column, in_range}
use Rattle.exact.proofs.Cases.{by_equal, by_order}
use Rattle.steps.proofs.All.{all_same}
use Rattle.steps.proofs.AddProduct.{step_same, step_test_same}
use Rattle.steps.proofs.TableLaws.{stored_at, stored_table-at}
use Rattle.steps.proofs.Weights.{SameWeights, weights_then}
use Rattle.steps.proofs.Pivot.{pivot_same, pivot_in_range_same}
use Rattle.steps.proofs.LeavingRatesSteps.{begun-at, column-start, column_before_lem, column_step, upward_start, upward_step}

-- The rows and columns from k on agree.
pub record Same (r k : ℕ) (a b : System) : Type 0 where
  pub sizes : (i j : ℕ) → k ≤ i → i < r → k ≤ j → j < r → (i ≡ j → ⊥) → a.t i j ≡ b.t i j
  pub exits : (i : ℕ) → k ≤ i → i < r → a.s i ≡ b.s i
  pub weights : SameWeights r a.z b.z

pub same_same : (r k : ℕ) (a b c : System) → Same r k a b → Same r k b c → Same r k a c
same_same r k a b c x y =
    record {
      sizes = λ i j p₁ p₂ p₃ p₄ n. x.sizes i j p₁ p₂ p₃ p₄ n ∙ y.sizes i j p₁ p₂ p₃ p₄ n;
      exits = λ i p₁ p₂. x.exits i p₁ p₂ ∙ y.exits i p₁ p₂;
      weights = weights_then r a.z b.z c.z x.weights y.weights;
    }

module _ (r k : ℕ) (a b : System) (h : Same r k a b) (hk : k < r) where
  exit_same : a.s k ≡ b.s k
  exit_same = h.exits k (omega arith) hk

  row_same : (j : ℕ) → k < j → j < r → a.t k j ≡ b.t k j
  row_same j l m = h.sizes k j (omega arith) hk (omega arith) m (λ e. omega arith)

  own-pivot : pivot r a k ≡ pivot r b k
  own-pivot = pivot_same r k a b hk exit_same row_same h.weights

  own-additions : pivot_in_range r a k ≡ pivot_in_range r b k
  own-additions = pivot_in_range_same r k a b hk exit_same row_same h.weights

  multiplier_same : (i : ℕ) → k < i → i < r → multiplier r a k i ≡ multiplier r b k i
  unfolding multiplier
  multiplier_same i l m = ap₂ (λ x y. x ⊘ y) (h.sizes i k (omega arith) m (omega arith) hk (λ e. omega arith)) own-pivot

  pub eliminate_same : Same r (suc k) (eliminate r a k) (eliminate r b k)
  unfolding eliminate
  eliminate_same =
      record {
        sizes = λ i j l₁ m₁ l₂ m₂ n.
            stored_table-at 0·0 r (λ i j. a.t i j ⊕ multiplier r a k i ⊗ a.t k j) i j m₁ m₂
            ∙ step_same (h.sizes i j (omega arith) m₁ (omega arith) m₂ n) (multiplier_same i l₁ m₁) (h.sizes k j (omega arith) hk (omega arith) m₂ (λ e. omega arith))
            ∙ sym (stored_table-at 0·0 r (λ i j. b.t i j ⊕ multiplier r b k i ⊗ b.t k j) i j m₁ m₂);
        exits = λ i l m.
            stored_at 0·0 r (λ i. a.s i ⊕ multiplier r a k i ⊗ a.s k) i m
            ∙ step_same (h.exits i (omega arith) m) (multiplier_same i l m) (h.exits k (omega arith) hk)
            ∙ sym (stored_at 0·0 r (λ i. b.s i ⊕ multiplier r b k i ⊗ b.s k) i m);
        weights = h.weights;
      }

pub begun_same : (r : ℕ) (a b : System) → Same r 0 a b → (k : ℕ) → k ≤ r → Same r k (begun r a k) (begun r b k)
unfolding begun
begun_same r a b h zero l = h
begun_same r a b h (suc k) l = eliminate_same r k (begun r a k) (begun r b k) (begun_same r a b h k (omega arith)) l

-- Column j of b sees a system through its multipliers alone.
module _ (r : ℕ) (at bt : ℕ → System)
    (down : (k i : ℕ) → k < i → i < r → m↓ r at k i ≡ m↓ r bt k i) (upward : (k i : ℕ) → i < k → k < r → m↑ r at k i ≡ m↑ r bt k i)
    (j : ℕ) where
  -- In the rows that are still to come.
  pub b↓_alike : (k i : ℕ) → k ≤ i → i < r → b↓ r at j k i ≡ b↓ r bt j k i
  b↓_alike zero i l m = column-start r at j i ∙ sym (column-start r bt j i)
  b↓_alike (suc k) i l m =
      by_order j k
      (λ q.
      column_step r at j k i (le-leb j k q) m
      ∙ step_same (b↓_alike k i (omega arith) m) (down k i l m) (b↓_alike k k (omega arith) (omega arith))
      ∙ sym (column_step r bt j k i (le-leb j k q) m))
      (λ q. ap (λ f. f i) (column_before_lem r at j k (lt-leb j k q)) ∙ b↓_alike k i (omega arith) m ∙ ap (λ f. f i) (sym (column_before_lem r bt j k (lt-leb j k q))))

  pub b↑_alike : (q i : ℕ) → i + q < r → b↑ r at j q i ≡ b↑ r bt j q i
  b↑_alike zero i l = upward_start r at j i (omega arith) ∙ b↓_alike i i (omega arith) (omega arith) ∙ sym (upward_start r bt j i (omega arith))
  b↑_alike (suc q) i l =
      upward_step r at j q i (omega arith)
      ∙ step_same (b↑_alike q i (omega arith)) (upward (r - suc q) i (omega arith) (omega arith)) (b↑_alike q (r - suc q) (omega arith))
      ∙ sym (upward_step r bt j q i (omega arith))

  pub solved_alike : (i : ℕ) → i < r → solved r at j i ≡ solved r bt j i
  unfolding solved
  solved_alike i l = b↑_alike (r - suc i) i (omega arith)

-- Over the systems as the stages begin.
module _ (r : ℕ) (at bt : ℕ → System) (h : (k : ℕ) → k < r → Same r k (at k) (bt k)) where
  pub p_same : (k : ℕ) → k < r → p r at k ≡ p r bt k
  unfolding p
  p_same k l = own-pivot r k (at k) (bt k) (h k l) l

  pub m↓_same : (k i : ℕ) → k < i → i < r → m↓ r at k i ≡ m↓ r bt k i
  unfolding m↓
  m↓_same k i l m = multiplier_same r k (at k) (bt k) (h k (omega arith)) (omega arith) i l m

  pub u_same : (i k : ℕ) → i < k → k < r → u r at i k ≡ u r bt i k
  unfolding u
  u_same i k l m = (h i (omega arith)).sizes i k (omega arith) (omega arith) (omega arith) m (λ e. omega arith)

  pub m↑_same : (k i : ℕ) → i < k → k < r → m↑ r at k i ≡ m↑ r bt k i
  unfolding m↑
  m↑_same k i l m = ap₂ (λ x y. x ⊘ y) (u_same i k l m) (p_same k m)

  pub b↓_same : (j k i : ℕ) → k ≤ i → i < r → b↓ r at j k i ≡ b↓ r bt j k i
  b↓_same j = b↓_alike r at bt m↓_same m↑_same j

  pub b↑_same : (j q i : ℕ) → i + q < r → b↑ r at j q i ≡ b↑ r bt j q i
  b↑_same j = b↑_alike r at bt m↓_same m↑_same j

  pub solved_same : (j i : ℕ) → i < r → solved r at j i ≡ solved r bt j i
  solved_same j = solved_alike r at bt m↓_same m↑_same j

  pub quotient_same : (i j : ℕ) → i < r → quotient r at i j ≡ quotient r bt i j
  unfolding quotient
  quotient_same i j l = ap₂ (λ x y. x ⊘ y) (solved_same j i l) (p_same i l)

  -- The tests.
  row_test_same : (k i : ℕ) → k < i → i < r → row_in_range r at k i ≡ row_in_range r bt k i
  unfolding row_in_range
  row_test_same k i l m =
      ap₂ (λ x y. x && y)
      (ap₂ (λ x y. x && y) (ap₂ div_in_range size (p_same k (omega arith))) (product ((h k (omega arith)).exits i (omega arith) m) ((h k (omega arith)).exits k (omega arith) (omega arith))))
      (all_same (λ j. eqb i j || add_product_in_range ((at k).t i j) (m↓ r at k i) ((at k).t k j)) (λ j. eqb i j || add_product_in_range ((bt k).t i j) (m↓ r bt k i) ((bt k).t k j)) (suc k) (r - suc k) place)
    where
      size : (at k).t i k ≡ (bt k).t i k
      size = (h k (omega arith)).sizes i k (omega arith) m (omega arith) (omega arith) (λ e. omega arith)

      product : {x x' y y' : Float} → x ≡ x' → y ≡ y' → add_product_in_range x (m↓ r at k i) y ≡ add_product_in_range x' (m↓ r bt k i) y'
      product e q = step_test_same e (m↓_same k i l m) q

      place : (j : ℕ) → suc k ≤ j → j < suc k + (r - suc k) → (eqb i j || add_product_in_range ((at k).t i j) (m↓ r at k i) ((at k).t k j)) ≡ (eqb i j || add_product_in_range ((bt k).t i j) (m↓ r bt k i) ((bt k).t k j))
      place j n o =
          by_equal i j
          (λ e. rw (eq-eqb i j e))
          (λ e. ap (λ x. eqb i j || x) (product ((h k (omega arith)).sizes i j (omega arith) m (omega arith) (omega arith) e) ((h k (omega arith)).sizes k j (omega arith) (omega arith) (omega arith) (omega arith) (λ q. omega arith))))

  pub stage_test_same : (k : ℕ) → k < r → stage_in_range r at k ≡ stage_in_range r bt k
  unfolding stage_in_range
  stage_test_same k l =
      ap₂ (λ x y. x && y) (own-additions r k (at k) (bt k) (h k l) l)
      (all_same (row_in_range r at k) (row_in_range r bt k) (suc k) (r - suc k) (λ i m n. row_test_same k i m (omega arith)))

  pub shared_before_same : (k : ℕ) → k ≤ r → shared_before r at k ≡ shared_before r bt k
  unfolding shared_before
  shared_before_same k l = all_same (stage_in_range r at) (stage_in_range r bt) 0 k (λ i m n. stage_test_same i (omega arith))

  pub shared_same : shared r at ≡ shared r bt
  unfolding shared
  shared_same =
      ap₂ (λ x y. x && y) (shared_before_same r (omega arith))
      (all_same (λ k. all (λ i. div_in_range (u r at i k) (p r at k)) 0 k) (λ k. all (λ i. div_in_range (u r bt i k) (p r bt k)) 0 k) 0 r
      (λ k l m. all_same (λ i. div_in_range (u r at i k) (p r at k)) (λ i. div_in_range (u r bt i k) (p r bt k)) 0 k
      (λ i n o. ap₂ div_in_range (u_same i k (omega arith) (omega arith)) (p_same k (omega arith)))))

  pub column_before_same : (j k : ℕ) → k ≤ r → column_before r at j k ≡ column_before r bt j k
  unfolding column_before
  column_before_same j k l =
      all_same (λ l. all (λ i. add_product_in_range (b↓ r at j l i) (m↓ r at l i) (b↓ r at j l l)) (suc l) (r - suc l)) (λ l. all (λ i. add_product_in_range (b↓ r bt j l i) (m↓ r bt l i) (b↓ r bt j l l)) (suc l) (r - suc l)) j (k - j)
      (λ l m n. all_same (λ i. add_product_in_range (b↓ r at j l i) (m↓ r at l i) (b↓ r at j l l)) (λ i. add_product_in_range (b↓ r bt j l i) (m↓ r bt l i) (b↓ r bt j l l)) (suc l) (r - suc l)
      (λ i o q. step_test_same (b↓_same j l i (omega arith) (omega arith)) (m↓_same l i o (omega arith)) (b↓_same j l l (omega arith) (omega arith))))

  pub column_upward_same : (j q : ℕ) → q ≤ r → column_upward r at j q ≡ column_upward r bt j q
  unfolding column_upward
  column_upward_same j q l =
      all_same (λ l. all (λ i. add_product_in_range (b↑ r at j l i) (m↑ r at (r - suc l) i) (b↑ r at j l (r - suc l))) 0 (r - suc l)) (λ l. all (λ i. add_product_in_range (b↑ r bt j l i) (m↑ r bt (r - suc l) i) (b↑ r bt j l (r - suc l))) 0 (r - suc l)) 0 q
      (λ l m n. all_same (λ i. add_product_in_range (b↑ r at j l i) (m↑ r at (r - suc l) i) (b↑ r at j l (r - suc l))) (λ i. add_product_in_range (b↑ r bt j l i) (m↑ r bt (r - suc l) i) (b↑ r bt j l (r - suc l))) 0 (r - suc l)
      (λ i o w. step_test_same (b↑_same j l i (omega arith)) (m↑_same (r - suc l) i (omega arith) (omega arith)) (b↑_same j l (r - suc l) (omega arith))))

  pub column_same : (j : ℕ) → column r at j ≡ column r bt j
  unfolding column
  column_same j =
      ap₂ (λ x y. x && y) (ap₂ (λ x y. x && y) (column_before_same j r (omega arith)) (column_upward_same j r (omega arith)))
      (all_same (λ i. div_in_range (solved r at j i) (p r at i)) (λ i. div_in_range (solved r bt j i) (p r bt i)) 0 r
      (λ i l m. ap₂ div_in_range (solved_same j i (omega arith)) (p_same i (omega arith))))

  pub in_range_same : in_range r at ≡ in_range r bt
  unfolding in_range
  in_range_same = ap₂ (λ x y. x && y) shared_same (all_same (column r at) (column r bt) 0 r (λ j l m. column_same j))

-- Two systems, as the stages begin.
pub downward_same : (r : ℕ) (a b : System) → Same r 0 a b → (k : ℕ) → k < r → Same r k (downward r a k) (downward r b k)
downward_same r a b h k l = rw (begun-at r a k l, begun-at r b k l) (begun_same r a b h k (omega arith))

-- They have the same quotients, column by column, and the same answer to question 10.
module _ (r : ℕ) (a b : System) (h : Same r 0 a b) where
  pub same_quotient : (i j : ℕ) → i < r → quotient r (downward r a) i j ≡ quotient r (downward r b) i j
  same_quotient = quotient_same r (downward r a) (downward r b) (downward_same r a b h)

  pub same_column_range : (j : ℕ) → (shared r (downward r a) && column r (downward r a) j) ≡ (shared r (downward r b) && column r (downward r b) j)
  same_column_range j =
      ap₂ (λ x y. x && y) (shared_same r (downward r a) (downward r b) (downward_same r a b h)) (column_same r (downward r a) (downward r b) (downward_same r a b h) j)

  pub same_in_range : in_range r (downward r a) ≡ in_range r (downward r b)
  same_in_range = in_range_same r (downward r a) (downward r b) (downward_same r a b h)
