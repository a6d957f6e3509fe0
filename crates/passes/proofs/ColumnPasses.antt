-- The passes over the rows of b are document 01's steps, column by column: numbers and tests.
use mathlib.Core.Path.{◌≡◌, refl, sym, ap, ap₂, ◌∙◌}
use Prim.Native.Nat.{ℕ, suc, ◌-◌, ◌≤◌, ◌<◌}
use native.Mathlib.Nat.{le_refl}
use native.Mathlib.Omega.{arith}
use mathlib.Core.Bool.{Bool, true, false, ◌&&◌, cond}
use lib.Dec.{T, eqb}
use lib.Ieee.{Float}
use borrow.Author.Tests.{le-leb, lt-leb, ne_eqb}
use Rattle.exact.proofs.Cases.{by_order}
use Rattle.exact.proofs.Bools.{same_truth}
use Rattle.definitions.specs.Numbers.{◌⊕◌, ◌⊗◌, ◌⊘◌, 0·0, 1·0, finite, div_in_range, add_product_in_range, all}
use Rattle.definitions.specs.LeavingRates.{System, p, m↓, m↑, b↓, b↑, solved, quotient, column_before, column_upward, column}
use Rattle.rounding.specs.Good.{Good}
use Rattle.rounding.proofs.Laws.{one_is_good, zero_is_good}
use Rattle.rounding.proofs.AnyNumbers.{zero_other}
use Rattle.steps.proofs.All.{each, every, all_same, exchange, all_both}
use Rattle.steps.proofs.LeavingRatesSteps.{column-start, column_before_lem, column_waits, column_step, upward_start, upward_step}
use Rattle.tables.specs.Operators.{between}
use Rattle.tables.specs.Rows.{over, over_in_range}
use Rattle.tables.proofs.Operators.{between_in}
use Rattle.passes.specs.RowPass.{turn, reach, staged, passed, pass_in_range, IsIdentity, FiniteBelow, identity_row, identity_rows, divided_rows, quotients_in_range}
use Rattle.passes.specs.Multipliers.{Multipliers}
use Rattle.passes.proofs.RowPass.{Adds, turns, staged_is, passed_is, step_test, tests_are}

-- ---- the identity
identity_good : (i j : ℕ) → Good (cond (eqb i j) 1·0 0·0)
identity_good i j = go (eqb i j)
  where
    go : (b : Bool) → Good (cond b 1·0 0·0)
    go true = one_is_good
    go false = zero_is_good

-- A row that has a zero in column c adds nothing there.
nothing_added : (i k c : ℕ) (m : Float) {x y : Float} → x ≡ cond (eqb i c) 1·0 0·0 → y ≡ cond (eqb k c) 1·0 0·0 → (k ≡ c → ⊥) → T (finite m) → x ⊕ m ⊗ y ≡ x
nothing_added i k c m e d n t = zero_other m (rw e (identity_good i c)) t (d ∙ ap (λ (b : Bool). cond b 1·0 0·0) (ne_eqb k c n))

module _ (r : ℕ) (g f : ℕ → ℕ → Float) (one : IsIdentity r f) (below-finite : FiniteBelow r g) where
  -- Downward, the columns from q on are still the identity's at turn q.
  Waits : ℕ → ℕ → Type 0
  Waits q c = (q ≤ c) × (c < r)

  waiting : Adds r (turn r false) g Waits (λ q i c. cond (eqb i c) 1·0 0·0)
  unfolding turn Waits
  waiting =
      record {
        earlier = λ q c o. (omega (arith, o.0), o.1);
        step = λ q s c l m o. nothing_added s q c (g s q) refl refl (λ e. omega (arith, o.0)) (below-finite q s l m);
      }

  pub waits : (s q c : ℕ) → s < r → q ≤ s → q ≤ c → c < r → staged (turn r false) g (passed (turn r false) g f s) (turn r false s) q c ≡ cond (eqb s c) 1·0 0·0
  unfolding turn Waits
  waits s q c l m n o = staged_is (turns r false) waiting f (λ q c l o. one q c l o.1) s q c l m (n, o)

-- ---- document 01's columns
module _ (r : ℕ) (at : ℕ → System) (g : ℕ → ℕ → Float) (h : Multipliers r at g) where
  Column : ℕ → ℕ → Type 0
  Column q c = c < r

  module _ (below-finite : FiniteBelow r g) where
    downward : Adds r (turn r false) g Column (λ q i c. b↓ r at c q i)
    unfolding turn Column
    downward =
        record {
          earlier = λ q c o. o;
          step = λ q s c l m o. by_order c q
              (λ n. ap (λ x. b↓ r at c q s ⊕ x ⊗ b↓ r at c q q) (h.below q s l m) ∙ sym (column_step r at c q s (le-leb c q n) m))
              (λ n.
              nothing_added s q c (g s q) (column_waits r at c q s (omega arith)) (column_waits r at c q q (omega arith)) (λ e. omega arith) (below-finite q s l m)
              ∙ sym (ap (λ b. b s) (column_before_lem r at c q (lt-leb c q n))));
        }

    module _ (f : ℕ → ℕ → Float) (one : IsIdentity r f) where
      begins : (q c : ℕ) → q < r → c < r → f q c ≡ b↓ r at c 0 q
      begins q c l m = one q c l m ∙ sym (column-start r at c q)

      pub down_is : (i c : ℕ) → i < r → c < r → passed (turn r false) g f r i c ≡ b↓ r at c i i
      unfolding turn Column
      down_is i c l m = passed_is (turns r false) downward f begins r i c l (le_refl r) m

      pub down_test : pass_in_range (turn r false) (reach r false) g f r ≡ all (λ j. column_before r at j r) 0 r
      unfolding turn reach Column column_before step_test
      down_test =
          tests_are (turns r false) downward f begins suc (λ q c l m. omega arith)
          ∙ same_truth
          (all (λ s. all (λ q. all (step s q) 0 (suc q)) 0 s) 0 r)
          (all (λ j. all (λ l. all (λ i. place l i j) (suc l) (r - suc l)) j (r - j)) 0 r)
          (λ t.
          every (λ j. all (λ l. all (λ i. place l i j) (suc l) (r - suc l)) j (r - j)) 0 r (λ j _ a.
          every (λ l. all (λ i. place l i j) (suc l) (r - suc l)) j (r - j) (λ l b c.
          every (λ i. place l i j) (suc l) (r - suc l) (λ i d e.
          rw (h.below l i d (omega arith)) at
          (each (step i l) 0 (suc l) j (each (λ q. all (step i q) 0 (suc q)) 0 i l (each (λ s. all (λ q. all (step s q) 0 (suc q)) 0 s) 0 r i t (omega arith) (omega arith)) (omega arith) (omega arith)) (omega arith) (omega arith))))))
          (λ t.
          every (λ s. all (λ q. all (step s q) 0 (suc q)) 0 s) 0 r (λ s _ a.
          every (λ q. all (step s q) 0 (suc q)) 0 s (λ q _ b.
          every (step s q) 0 (suc q) (λ c _ d.
          rw (h.below q s (omega arith) (omega arith))
          (each (λ i. place q i c) (suc q) (r - suc q) s (each (λ l. all (λ i. place l i c) (suc l) (r - suc l)) c (r - c) q (each (λ j. all (λ l. all (λ i. place l i j) (suc l) (r - suc l)) j (r - j)) 0 r c t (omega arith) (omega arith)) (omega arith) (omega arith)) (omega arith) (omega arith))))))
        where
          step : ℕ → ℕ → ℕ → Bool
          step s q c = add_product_in_range (b↓ r at c q s) (g s q) (b↓ r at c q q)

          place : ℕ → ℕ → ℕ → Bool
          place l i j = add_product_in_range (b↓ r at j l i) (m↓ r at l i) (b↓ r at j l l)

  -- Upward, from where the downward pass ends.
  upward : Adds r (turn r true) g Column (λ q i c. b↑ r at c q i)
  unfolding turn Column
  upward =
      record {
        earlier = λ q c o. o;
        step = λ q s c l m o. ap (λ x. b↑ r at c q (r - suc s) ⊕ x ⊗ b↑ r at c q (r - suc q)) (h.above (r - suc q) (r - suc s) (omega arith) (omega arith)) ∙ sym (upward_step r at c q (r - suc s) (omega arith));
      }

  module _ (f : ℕ → ℕ → Float) (start : (i j : ℕ) → i < r → j < r → f i j ≡ b↓ r at j i i) where
    begun : (q c : ℕ) → q < r → c < r → f (r - suc q) c ≡ b↑ r at c 0 (r - suc q)
    begun q c l m = start (r - suc q) c (omega arith) m ∙ sym (upward_start r at c (r - suc q) (omega arith))

    pub up_is : (i c : ℕ) → i < r → c < r → passed (turn r true) g f r i c ≡ solved r at c i
    unfolding turn Column solved
    up_is i c l m =
        let e : r - suc (r - suc i) ≡ i = omega arith in
        rw e at (passed_is (turns r true) upward f begun r (r - suc i) c (omega arith) (le_refl r) m)

    pub up_test : pass_in_range (turn r true) (reach r true) g f r ≡ all (λ j. column_upward r at j r) 0 r
    unfolding turn reach Column column_upward step_test
    up_test =
        tests_are (turns r true) upward f begun (λ q. r) (λ q c l m. m)
        ∙ same_truth
        (all (λ s. all (λ q. all (step s q) 0 r) 0 s) 0 r)
        (all (λ j. all (λ l. all (λ i. place l i j) 0 (r - suc l)) 0 r) 0 r)
        (λ t.
        every (λ j. all (λ l. all (λ i. place l i j) 0 (r - suc l)) 0 r) 0 r (λ j _ a.
        every (λ l. all (λ i. place l i j) 0 (r - suc l)) 0 r (λ l _ b.
        every (λ i. place l i j) 0 (r - suc l) (λ i _ c.
        let e : r - suc (r - suc i) ≡ i = omega arith in
        rw (e, h.above (r - suc l) i (omega arith) (omega arith)) at
        (each (step (r - suc i) l) 0 r j (each (λ q. all (step (r - suc i) q) 0 r) 0 (r - suc i) l (each (λ s. all (λ q. all (step s q) 0 r) 0 s) 0 r (r - suc i) t (omega arith) (omega arith)) (omega arith) (omega arith)) (omega arith) (omega arith))))))
        (λ t.
        every (λ s. all (λ q. all (step s q) 0 r) 0 s) 0 r (λ s _ a.
        every (λ q. all (step s q) 0 r) 0 s (λ q _ b.
        every (step s q) 0 r (λ c _ d.
        rw (h.above (r - suc q) (r - suc s) (omega arith) (omega arith))
        (each (λ i. place q i c) 0 (r - suc q) (r - suc s) (each (λ l. all (λ i. place l i c) 0 (r - suc l)) 0 r q (each (λ j. all (λ l. all (λ i. place l i j) 0 (r - suc l)) 0 r) 0 r c t (omega arith) (omega arith)) (omega arith) (omega arith)) (omega arith) (omega arith))))))
      where
        step : ℕ → ℕ → ℕ → Bool
        step s q c = add_product_in_range (b↑ r at c q (r - suc s)) (g (r - suc s) (r - suc q)) (b↑ r at c q (r - suc q))

        place : ℕ → ℕ → ℕ → Bool
        place l i j = add_product_in_range (b↑ r at j l i) (m↑ r at (r - suc l) i) (b↑ r at j l (r - suc l))

  -- The last division.
  module _ (f : ℕ → ℕ → Float) (end : (i j : ℕ) → i < r → j < r → f i j ≡ solved r at j i) where
    pub last_is : (i j : ℕ) → i < r → j < r → divided_rows r r g f i j ≡ quotient r at i j
    unfolding divided_rows over quotient
    last_is i j l m =
        ap (λ (row : ℕ → Float). row j) (between_in 0 r (λ i. between 0 r (over (g i i) (f i)) (f i)) f i (omega arith) l)
        ∙ between_in 0 r (over (g i i) (f i)) (f i) j (omega arith) m
        ∙ ap₂ (λ x y. x ⊘ y) (end i j l m) (h.pivots i l)

    pub last_test : quotients_in_range r g f ≡ all (λ j. all (λ i. div_in_range (solved r at j i) (p r at i)) 0 r) 0 r
    unfolding quotients_in_range over_in_range
    last_test =
        all_same (λ i. all (over_in_range (g i i) (f i)) 0 r) (λ i. all (λ j. div_in_range (solved r at j i) (p r at i)) 0 r) 0 r
        (λ i a b. all_same (over_in_range (g i i) (f i)) (λ j. div_in_range (solved r at j i) (p r at i)) 0 r
        (λ j c d. ap₂ div_in_range (end i j (omega arith) (omega arith)) (h.pivots i (omega arith))))
        ∙ exchange (λ i j. div_in_range (solved r at j i) (p r at i)) 0 r r

-- All tests of the columns.
pub columns_test : (r : ℕ) (at : ℕ → System) → (all (λ j. column_before r at j r) 0 r && all (λ j. column_upward r at j r) 0 r && all (λ j. all (λ i. div_in_range (solved r at j i) (p r at i)) 0 r) 0 r) ≡ all (column r at) 0 r
unfolding column
columns_test r at =
    ap (λ x. x && all (λ j. all (λ i. div_in_range (solved r at j i) (p r at i)) 0 r) 0 r) (all_both (λ j. column_before r at j r) (λ j. column_upward r at j r) 0 r)
    ∙ all_both (λ j. column_before r at j r && column_upward r at j r) (λ j. all (λ i. div_in_range (solved r at j i) (p r at i)) 0 r) 0 r

-- The rows of the identity.
pub identity_inside : (r : ℕ) (f : ℕ → ℕ → Float) → IsIdentity r (identity_rows r r f)
unfolding identity_rows identity_row
identity_inside r f i j l m =
    ap (λ (row : ℕ → Float). row j) (between_in 0 r (λ i. between 0 r (identity_row i) (f i)) f i (omega arith) l)
    ∙ between_in 0 r (identity_row i) (f i) j (omega arith) m
