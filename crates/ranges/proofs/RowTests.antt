-- The laws behind the range tests of a row.
use mathlib.Core.Path.{◌≡◌, ap₂, ◌∙◌}
use Prim.Native.Nat.{ℕ, suc, ◌+◌, ◌-◌, ◌≤◌, ◌<◌}
use native.Mathlib.Nat.{le_refl}
use native.Mathlib.Numerals.{add-one}
use native.Mathlib.Omega.{arith}
use mathlib.Core.Logic.{◌⊎◌, inl, inr}
use mathlib.Core.Bool.{Bool, true, ◌&&◌, ◌||◌}
use lib.Dec.{T, eqb}
use lib.Ieee.{Float, binary64, fits, lt}
use borrow.Author.Tests.{eq-eqb, ne_eqb}
use Rattle.definitions.specs.Numbers.{◌⊗◌, ◌⊘◌, smallest, finite, is_zero, mul_in_range, div_in_range, add_product_in_range, all}
use Rattle.rounding.proofs.Finite.{sum-finite}
use Rattle.tables.specs.Rows.{times_in_range}
use Rattle.passes.specs.Stages.{row_test}
use Rattle.passes.specs.Told.{Told}
use Rattle.passes.specs.StageTests.{RowFinite}
use Rattle.passes.proofs.FiniteStages.{multiplier_is_finite, exit_of_test}
use Rattle.bounds.specs.Bounds.{Covering}
use Rattle.exact.proofs.Cases.{by_equal, by_order}
use Rattle.exact.proofs.Bools.{same_truth, or_l, or_r}
use lib.Ieee.Fits.{and_i, and_l, and_r}
use Rattle.steps.proofs.All.{each, every}
use Rattle.bounds.proofs.QuickTest.{quick_product, quick_multiplier}
use Rattle.rounding.proofs.AnyNumbers.{zero-product, zero-quotient}
use Rattle.steps.proofs.AddProduct.{product_of_step, step_of_product}

-- A row without one of its places.
module _ (q : ℕ → Bool) (i : ℕ) where
  others : ℕ → Bool
  others j = eqb i j || q j

  skipped : (j : ℕ) → i ≡ j → T (others j)
  unfolding others
  skipped j e = rw (eq-eqb i j e) tt

  tested : (j : ℕ) → (i ≡ j → ⊥) → others j ≡ q j
  unfolding others
  tested j n = rw (ne_eqb i j n)

  each_other : (lo n j : ℕ) → T (all (λ j. eqb i j || q j) lo n) → lo ≤ j → j < lo + n → (i ≡ j → ⊥) → T (q j)
  unfolding others
  each_other lo n j t l h o = rw (tested j o) at (each others lo n j t l h)

  every_other : (lo n : ℕ) → ((j : ℕ) → lo ≤ j → j < lo + n → (i ≡ j → ⊥) → T (q j)) → T (all (λ j. eqb i j || q j) lo n)
  unfolding others
  every_other lo n f = every others lo n (λ j l h. by_equal i j (skipped j) (λ o. rw (tested j o) (f j l h o)))

-- The places on both sides of it.
module _ (q : ℕ → Bool) (lo i hi : ℕ) (low : lo ≤ i) (high : i < hi) where
  left : Bool
  left = all q lo (i - lo)

  right : Bool
  right = all q (suc i) (hi - suc i)

  whole : Bool
  whole = all (λ j. eqb i j || q j) lo (hi - lo)

  parts_of_whole : T whole → T (left && right)
  unfolding whole left right
  parts_of_whole t =
      and_i left right
      (every q lo (i - lo) (λ j l h. each_other q i lo (hi - lo) j t l (omega arith) (λ e. omega arith)))
      (every q (suc i) (hi - suc i) (λ j l h. each_other q i lo (hi - lo) j t (omega arith) (omega arith) (λ e. omega arith)))

  whole_of_parts : T (left && right) → T whole
  unfolding whole left right
  whole_of_parts t =
      every_other q i lo (hi - lo) (λ j l h o. by_order j i
      (λ m. each q lo (i - lo) j (and_l left right t) l (omega arith))
      (λ m. each q (suc i) (hi - suc i) j (and_r left right t) m (omega arith)))

  both_sides : (all q lo (i - lo) && all q (suc i) (hi - suc i)) ≡ all (λ j. eqb i j || q j) lo (hi - lo)
  unfolding whole left right
  both_sides = same_truth (left && right) whole whole_of_parts parts_of_whole

-- A finite quotient is in range where the dividend is zero, and where it is above 2^-1022.
division : (x p : Float) → T (finite (x ⊘ p)) → T (is_zero x) ⊎ T (lt smallest (x ⊘ p)) → T (div_in_range x p)
unfolding div_in_range
division x p f (inl t) = and_i (finite (x ⊘ p)) (is_zero x || is_zero p || lt smallest (x ⊘ p)) f (or_l (is_zero x || is_zero p) (lt smallest (x ⊘ p)) (or_l (is_zero x) (is_zero p) t))
division x p f (inr t) = and_i (finite (x ⊘ p)) (is_zero x || is_zero p || lt smallest (x ⊘ p)) f (or_r (is_zero x || is_zero p) (lt smallest (x ⊘ p)) t)

-- Row i at stage k, from finite results: its multiplier and its products are finite.
module _ {r k i : ℕ} {p : Float} {own other : ℕ → Float} (l : k < i) (h : RowFinite r k i p own other) where
  product_is_finite : (j : ℕ) → k ≤ j → j < r → (i ≡ j → ⊥) → T (finite ((own k ⊘ p) ⊗ other j))
  product_is_finite j a b n =
      by_equal j k
      (λ e. rw e (sum-finite (own i) ((own k ⊘ p) ⊗ other k) h.exit).1)
      (λ o. (sum-finite (own j) ((own k ⊘ p) ⊗ other j) (h.sizes j (omega arith) b n)).1)

-- Its test by the document, and by the multiplier and the products.
module _ (r k i : ℕ) (p : Float) (own other : ℕ → Float) (l : k < i) (h : i < r) where
  multiplier : Bool
  multiplier = div_in_range (own k) p

  exit : Bool
  exit = add_product_in_range (own i) (own k ⊘ p) (other k)

  sizes : Bool
  sizes = all (λ j. eqb i j || add_product_in_range (own j) (own k ⊘ p) (other j)) (suc k) (r - suc k)

  products : Bool
  products = all (λ j. eqb i j || times_in_range (own k ⊘ p) other j) k (r - k)

  test_of_products : RowFinite r k i p own other → T multiplier → T products → T (row_test r k i p own other)
  unfolding row_test multiplier exit sizes products times_in_range
  test_of_products f t u =
      let times : (j : ℕ) → k ≤ j → j < r → (i ≡ j → ⊥) → T (mul_in_range (own k ⊘ p) (other j)) = λ j a b n. each_other (times_in_range (own k ⊘ p) other) i k (r - k) j u a (omega arith) n in
      and_i (multiplier && exit) sizes
      (and_i multiplier exit t (step_of_product (own i) (own k ⊘ p) (other k) (times k (le_refl k) (omega arith) (λ e. omega arith)) f.exit))
      (every_other (λ j. add_product_in_range (own j) (own k ⊘ p) (other j)) i (suc k) (r - suc k) (λ j a b n. step_of_product (own j) (own k ⊘ p) (other j) (times j (omega arith) (omega arith) n) (f.sizes j a (omega arith) n)))

  multiplier_of_test : T (row_test r k i p own other) → T multiplier
  unfolding row_test multiplier exit sizes
  multiplier_of_test t = and_l multiplier exit (and_l (multiplier && exit) sizes t)

  products_of_test : T (row_test r k i p own other) → T products
  unfolding row_test multiplier exit sizes products times_in_range
  products_of_test t =
      every_other (times_in_range (own k ⊘ p) other) i k (r - k) (λ j a b n. by_equal j k
      (λ e. rw e (product_of_step (own i) (own k ⊘ p) (other k) (exit_of_test r k i p own other t)))
      (λ o. product_of_step (own j) (own k ⊘ p) (other j) (each_other (λ j. add_product_in_range (own j) (own k ⊘ p) (other j)) i (suc k) (r - suc k) j (and_r (multiplier && exit) sizes t) (omega arith) (omega arith) n)))

  -- The code's tests, for the size x and the multiplier m that it has in hand. Where a quick test passes, finite results are in range.
  quick_row : (T (finite (own k ⊘ p)) → T (is_zero (own k)) ⊎ T (lt smallest (own k ⊘ p)))
      → ((j : ℕ) → k ≤ j → j < r → T (finite (own k ⊘ p)) → T (finite ((own k ⊘ p) ⊗ other j)) → T (mul_in_range (own k ⊘ p) (other j)))
      → Told true (row_test r k i p own other) (RowFinite r k i p own other)
  unfolding multiplier products times_in_range
  quick_row a b =
      record {
        passes = λ t. tt;
        tells = λ f t.
            let m = multiplier_is_finite f in
            test_of_products f
            (division (own k) p m (a m))
            (every_other (times_in_range (own k ⊘ p) other) i k (r - k) (λ j c d n. b j c (omega arith) m (product_is_finite l f j c (omega arith) n)));
      }

  -- Where the size is zero, the products are.
  pub zero_row : {x : Float} → x ≡ own k → T (is_zero x) → Told true (row_test r k i p own other) (RowFinite r k i p own other)
  zero_row e t =
      let z : T (is_zero (own k)) = rw e at t in
      quick_row (λ m. inl z) (λ j a b m f. zero-product (own k ⊘ p) (other j) (zero-quotient (own k) p z m) f)

  module _ {m : Float} (e : m ≡ own k ⊘ p) where
    -- Where m times the bound is above 2^-1022, so are m and the products that are not zero.
    pub bounded_row : (lo : Float) → T (fits binary64 m) → Covering lo other k r → T (lt smallest (m ⊗ lo)) → Told true (row_test r k i p own other) (RowFinite r k i p own other)
    bounded_row lo g c t =
        let held : T (fits binary64 (own k ⊘ p)) = rw e at g in
        let above : T (lt smallest ((own k ⊘ p) ⊗ lo)) = rw e at t in
        quick_row (λ f. inr (quick_multiplier (own k ⊘ p) lo held f c.bound above))
        (λ j a b u f. quick_product (own k ⊘ p) lo (other j) held c.bound (c.covers j a b) above f)

    -- One by one.
    pub tested_row : {x : Float} {t left right : Bool}
        → x ≡ own k
        → t ≡ div_in_range x p
        → left ≡ all (times_in_range m other) k (i - k)
        → right ≡ all (times_in_range m other) (i + 1) (r - (i + 1))
        → Told (t && (left && right)) (row_test r k i p own other) (RowFinite r k i p own other)
    unfolding multiplier products
    tested_row {x} {t} {left} {right} d a b c =
        let sides : left && right ≡ products = ap₂ (λ y z. y && z) (rw e at b) (rw (e, add-one i) at c) ∙ both_sides (times_in_range (own k ⊘ p) other) k i r (omega arith) h in
        let q : t && (left && right) ≡ (multiplier && products) = ap₂ (λ y z. y && z) (rw d at a) sides in
        record {
          passes = λ u. rw q (and_i multiplier products (multiplier_of_test u) (products_of_test u));
          tells = λ f u. let v : T (multiplier && products) = rw q at u in test_of_products f (and_l multiplier products v) (and_r multiplier products v);
        }
