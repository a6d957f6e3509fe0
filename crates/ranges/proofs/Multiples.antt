-- The range test of a multiple of a row, added to any row, by a bound or by its products.
use mathlib.Core.Path.{◌≡◌, refl, sym, ◌∙◌}
use Prim.Native.Nat.{ℕ, ◌-◌, ◌≤◌, ◌<◌}
use native.Mathlib.Nat.{sub-zero}
use native.Mathlib.Omega.{arith}
use mathlib.Core.Bool.{Bool, true, false, ◌||◌}
use lib.Dec.{T}
use lib.Ieee.{Float, binary64, fits, lt}
use lib.Ieee.Bits.{is_true}
use Rattle.definitions.specs.Numbers.{◌⊗◌, smallest, finite, is_zero, mul_in_range, all}
use Rattle.rounding.proofs.Finite.{sum-finite}
use Rattle.tables.specs.Rows.{plus_multiple, plus_multiple_in_range, times_in_range}
use Rattle.passes.specs.Told.{Told, FiniteRow}
use Rattle.bounds.specs.Bounds.{Bound, Covers, Covering}
use Rattle.ranges.specs.Quick.{QuickMultiplier, QuickRow, quick_at, products_at}
use Rattle.steps.proofs.All.{each, every}
use Rattle.bounds.proofs.QuickTest.{quick_product}
use Rattle.rounding.proofs.AnyNumbers.{zero-product}
use Rattle.steps.proofs.AddProduct.{product_of_step, step_of_product}

-- A product that passes the quick test, one way or the other.
quick_times : (m lo y : Float) → T (fits binary64 m) → Bound lo → Covers lo y → T (is_zero m || lt smallest (m ⊗ lo)) → T (finite (m ⊗ y)) → T (mul_in_range m y)
quick_times m lo y held bound covers t f = go (is_zero m) (λ z. zero-product m y z f) t
  where
    go : (z : Bool) → (T z → T (mul_in_range m y)) → T (z || lt smallest (m ⊗ lo)) → T (mul_in_range m y)
    go true g u = g tt
    go false g u = quick_product m lo y held bound covers u f

-- m times a row added to any row, in the first c columns.
module _ (m : Float) (own other : ℕ → Float) (c : ℕ) where
  products_of_row : T (all (plus_multiple_in_range m own other) 0 c) → T (all (times_in_range m other) 0 c)
  unfolding plus_multiple_in_range times_in_range
  products_of_row t = every (times_in_range m other) 0 c (λ j l h. product_of_step (own j) m (other j) (each (plus_multiple_in_range m own other) 0 c j t l h))

  row_of-products : FiniteRow c (plus_multiple m own other) → ((j : ℕ) → j < c → T (finite (m ⊗ other j)) → T (mul_in_range m (other j))) → T (all (plus_multiple_in_range m own other) 0 c)
  unfolding plus_multiple_in_range plus_multiple
  row_of-products f g =
      every (plus_multiple_in_range m own other) 0 c (λ j l h.
      let n : j < c = omega arith in
      step_of_product (own j) m (other j) (g j n (sum-finite (own j) (m ⊗ other j) (f j n)).1) (f j n))

  pub by_products : {ok : Bool} → ok ≡ all (times_in_range m other) 0 c → Told ok (all (plus_multiple_in_range m own other) 0 c) (FiniteRow c (plus_multiple m own other))
  unfolding times_in_range
  by_products e =
      record {
        passes = λ t. rw e (products_of_row t);
        tells = λ f t. row_of-products f (λ j l h. each (times_in_range m other) 0 c j (rw e at t) (omega arith) (omega arith));
      }

  pub by_bound : {lo : Float} {ok : Bool} → QuickMultiplier m lo ok → ok ≡ true → Covering lo other 0 c → Told true (all (plus_multiple_in_range m own other) 0 c) (FiniteRow c (plus_multiple m own other))
  by_bound {lo} q e d =
      record {
        passes = λ _. tt;
        tells = λ f _. row_of-products f (λ j l. quick_times m lo (other j) q.held d.bound (d.covers j (omega arith) l) (rw (sym q.is ∙ e) tt));
      }

-- The multipliers of a row, tested one after another.
pub quick_at_lem : {m lo : Float} {ok : Bool} (own : ℕ → Float) (k : ℕ) → m ≡ own k → QuickMultiplier m lo ok → ok ≡ quick_at lo own k
unfolding quick_at
quick_at_lem own k e h = h.is ∙ rw e

pub products_at_lem : (r : ℕ) (own : ℕ → Float) (f : ℕ → ℕ → Float) (k : ℕ) {m : Float} {ok : Bool} → m ≡ own k → ok ≡ all (times_in_range m (f k)) 0 (r - 0) → ok ≡ products_at r own f k
unfolding products_at
products_at_lem r own f k e h = h ∙ rw (sub-zero r, e)

pub quick_row_tells : {lo : Float} {own : ℕ → Float} {from to : ℕ} {ok : Bool} → QuickRow lo own from to ok → ok ≡ true → (k c : ℕ) (start other : ℕ → Float) → from ≤ k → k < to → Covering lo other 0 c
    → Told true (all (plus_multiple_in_range (own k) start other) 0 c) (FiniteRow c (plus_multiple (own k) start other))
unfolding quick_at
quick_row_tells {lo} {own} {from} {to} h e k c start other l m d =
    let passed : quick_at lo own k ≡ true = is_true (quick_at lo own k) (each (quick_at lo own) from (to - from) k (rw (← h.is, e) tt) l (omega arith)) in
    by_bound (own k) start other c (record { is = refl; held = h.held k l m }) passed d
