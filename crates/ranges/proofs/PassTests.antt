-- The range tests of a row of a pass, by a bound of the rows that are added or by their products.
use mathlib.Core.Path.{◌≡◌, refl, subst}
use Prim.Native.Nat.{ℕ, suc, ◌+◌, ◌-◌, ◌≤◌, ◌<◌}
use native.Mathlib.Omega.{arith}
use mathlib.Core.Bool.{Bool, true}
use lib.Dec.{T}
use lib.Ieee.{Float}
use Rattle.definitions.specs.Numbers.{finite, all}
use Rattle.steps.proofs.All.{each, every}
use Rattle.tables.specs.Rows.{plus_multiple, plus_multiple_in_range}
use Rattle.bounds.specs.Bounds.{Covering}
use Rattle.passes.specs.Told.{Told, FiniteRow}
use Rattle.passes.specs.RowPass.{staged, staged_in_range}
use Rattle.passes.proofs.RowPass.{way_finite}
use Rattle.ranges.specs.Quick.{QuickRow, products_at}
use Rattle.ranges.proofs.Multiples.{by_products, quick_row_tells}

-- n rows are added to row i, the row of turn q in the first w q columns, at most c.
module _ (κ w : ℕ → ℕ) (g f : ℕ → ℕ → Float) (i n c : ℕ) (narrow : (q : ℕ) → q < n → w q ≤ c) where
  sums : ℕ → ℕ → Float
  sums q = plus_multiple (g i (κ q)) (staged κ g f i q) (f (κ q))

  sum_test : ℕ → Bool
  sum_test q = all (plus_multiple_in_range (g i (κ q)) (staged κ g f i q) (f (κ q))) 0 (w q)

  sums_finite : FiniteRow c (staged κ g f i n) → (q : ℕ) → q < n → FiniteRow (w q) (sums q)
  unfolding staged sums
  sums_finite h q l j m =
      let e : n ≡ suc q + (n - suc q) = omega arith in
      let here : j < c = omega (arith, narrow q l) in
      way_finite κ g f i j (suc q) (n - suc q) (subst (λ (s : ℕ). T (finite (staged κ g f i s j))) e (h j here))

  -- A test of every turn tells.
  turns_tell : (p : ℕ → Bool) {ok : Bool} → (((q : ℕ) → q < n → T (p q)) → T ok) → (T ok → (q : ℕ) → q < n → T (p q))
      → ((q : ℕ) → q < n → Told (p q) (sum_test q) (FiniteRow (w q) (sums q)))
      → Told ok (staged_in_range κ w g f i n) (FiniteRow c (staged κ g f i n))
  unfolding staged_in_range sum_test
  turns_tell p gather split told =
      record {
        passes = λ t. gather (λ q l. (told q l).passes (each sum_test 0 n q t (omega arith) (omega arith)));
        tells = λ h t. every sum_test 0 n (λ q _ m. let l : q < n = omega arith in (told q l).tells (sums_finite h q l) (split t q l));
      }

  pub staged_by_products : {ok : Bool} → ok ≡ all (λ q. products_at (w q) (g i) f (κ q)) 0 n → Told ok (staged_in_range κ w g f i n) (FiniteRow c (staged κ g f i n))
  unfolding products_at sum_test sums
  staged_by_products e =
      turns_tell (λ q. products_at (w q) (g i) f (κ q))
      (λ t. rw e (every (λ q. products_at (w q) (g i) f (κ q)) 0 n (λ q _ m. t q (omega arith))))
      (λ t q l. each (λ q. products_at (w q) (g i) f (κ q)) 0 n q (rw e at t) (omega arith) (omega arith))
      (λ q l. by_products (g i (κ q)) (staged κ g f i q) (f (κ q)) (w q) refl)

  pub staged_by_bound : {lo : Float} {from to : ℕ} {ok : Bool} → QuickRow lo (g i) from to ok → ok ≡ true → ((q : ℕ) → q < n → (from ≤ κ q) × (κ q < to) × Covering lo (f (κ q)) 0 (w q)) → Told true (staged_in_range κ w g f i n) (FiniteRow c (staged κ g f i n))
  unfolding sum_test sums
  staged_by_bound h e d =
      turns_tell (λ q. true) (λ _. tt) (λ _ q _. tt) (λ q l.
      let k = d q l in
      quick_row_tells h e (κ q) (w q) (staged κ g f i q) (f (κ q)) k.0 k.1 k.2)
