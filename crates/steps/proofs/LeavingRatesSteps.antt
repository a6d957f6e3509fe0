-- The equations of the steps for leaving rates, one line each. `at` is `downward r start`.
use Prim.Native.Nat.{ℕ, zero, suc, ◌-◌, ◌≤◌, ◌<◌}
use mathlib.Core.Bool.{true, false, cond}
use mathlib.Core.Path.{◌≡◌, refl, sym, ap, ◌∙◌}
use native.Mathlib.Omega.{arith}
use lib.Dec.{leb, eqb}
use borrow.Author.Tests.{lt-leb}
use Rattle.definitions.specs.Numbers.{◌⊕◌, ◌⊗◌, ◌⊘◌, 0·0, 1·0}
use Rattle.definitions.specs.LeavingRates.{System, later_sizes, over_weight, pivot, multiplier, eliminate, begun, downward, p, u, m↓, m↑, b↓, b↑, solved, quotient}
use Rattle.steps.proofs.TableLaws.{stored_at, stored_table-at}

module _ (r : ℕ) (start : System) where
  -- The systems as the stages begin.
  pub begun-at : (k : ℕ) → k < r → downward r start k ≡ begun r start k
  unfolding downward
  begun-at k h = stored_at start r (begun r start) k h

  pub at-start : 0 < r → downward r start 0 ≡ start
  unfolding begun
  at-start h = begun-at 0 h

  pub at_next : (k : ℕ) → suc k < r → downward r start (suc k) ≡ eliminate r (downward r start k) k
  unfolding begun
  at_next k h = begun-at (suc k) h ∙ ap (λ a. eliminate r a k) (sym (begun-at k (omega arith)))

  -- A stage keeps the weights.
  begun-weights : (k : ℕ) → (begun r start k).z ≡ start.z
  unfolding begun eliminate
  begun-weights zero = refl
  begun-weights (suc k) = begun-weights k

  pub weights_stay : (k : ℕ) → k < r → (downward r start k).z ≡ start.z
  weights_stay k h = ap (λ a. a.z) (begun-at k h) ∙ begun-weights k

module _ (r : ℕ) (at : ℕ → System) where
  pub pivot_is : (k : ℕ) → p r at k ≡ over_weight (at k).z k (later_sizes r (at k) k ⊕ (at k).s k)
  unfolding p pivot
  pivot_is k = refl

  pub multiplier_is : (k i : ℕ) → m↓ r at k i ≡ (at k).t i k ⊘ p r at k
  unfolding m↓ p multiplier
  multiplier_is k i = refl

  pub upward_multiplier_is : (k i : ℕ) → m↑ r at k i ≡ (at i).t i k ⊘ p r at k
  unfolding m↑ u
  upward_multiplier_is k i = refl

  -- One stage of the sizes and of the leaving rates, where the next stage begins as the steps leave it.
  module _ (k : ℕ) (next : at (suc k) ≡ eliminate r (at k) k) where
    pub size_step : (i j : ℕ) → i < r → j < r → (at (suc k)).t i j ≡ (at k).t i j ⊕ m↓ r at k i ⊗ (at k).t k j
    unfolding eliminate m↓
    size_step i j hi hj =
        ap (λ a. a.t i j) next ∙ stored_table-at 0·0 r (λ i j. (at k).t i j ⊕ multiplier r (at k) k i ⊗ (at k).t k j) i j hi hj

    pub exit_step : (i : ℕ) → i < r → (at (suc k)).s i ≡ (at k).s i ⊕ m↓ r at k i ⊗ (at k).s k
    unfolding eliminate m↓
    exit_step i hi = ap (λ a. a.s i) next ∙ stored_at 0·0 r (λ i. (at k).s i ⊕ multiplier r (at k) k i ⊗ (at k).s k) i hi

    pub weights_step : (at (suc k)).z ≡ (at k).z
    unfolding eliminate
    weights_step = ap (λ a. a.z) next

  -- Column j of b.
  pub column-start : (j i : ℕ) → b↓ r at j 0 i ≡ cond (eqb i j) 1·0 0·0
  unfolding b↓
  column-start j i = refl

  pub column_before_lem : (j k : ℕ) → leb j k ≡ false → b↓ r at j (suc k) ≡ b↓ r at j k
  unfolding b↓
  column_before_lem j k e = rw (e, b↓)

  -- Until stage j begins, it is the identity's.
  pub column_waits : (j k i : ℕ) → k ≤ j → b↓ r at j k i ≡ cond (eqb i j) 1·0 0·0
  column_waits j zero i l = column-start j i
  column_waits j (suc k) i l = ap (λ b. b i) (column_before_lem j k (lt-leb j k l)) ∙ column_waits j k i (omega arith)

  pub column_step : (j k i : ℕ) → leb j k ≡ true → i < r → b↓ r at j (suc k) i ≡ b↓ r at j k i ⊕ m↓ r at k i ⊗ b↓ r at j k k
  unfolding b↓
  column_step j k i e hi = rw (e, b↓) (stored_at 0·0 r (λ i. b↓ r at j k i ⊕ m↓ r at k i ⊗ b↓ r at j k k) i hi)

  pub upward_start : (j i : ℕ) → i < r → b↑ r at j 0 i ≡ b↓ r at j i i
  unfolding b↑
  upward_start j i hi = stored_at 0·0 r (λ i. b↓ r at j i i) i hi

  pub upward_step : (j q i : ℕ) → i < r → b↑ r at j (suc q) i ≡ b↑ r at j q i ⊕ m↑ r at (r - suc q) i ⊗ b↑ r at j q (r - suc q)
  unfolding b↑
  upward_step j q i hi = stored_at 0·0 r (λ i. b↑ r at j q i ⊕ m↑ r at (r - suc q) i ⊗ b↑ r at j q (r - suc q)) i hi

  pub solved_is : (j i : ℕ) → solved r at j i ≡ b↑ r at j (r - suc i) i
  unfolding solved
  solved_is j i = refl

  pub quotient_is : (i j : ℕ) → quotient r at i j ≡ solved r at j i ⊘ p r at i
  unfolding quotient
  quotient_is i j = refl
