-- The laws of a pass over the rows of a table, whatever the order of the rows.
use mathlib.Core.Path.{◌≡◌, refl, sym, ap, ◌∙◌}
use Prim.Native.Nat.{ℕ, zero, suc, ◌+◌, ◌-◌, ◌≤◌, ◌<◌}
use native.Mathlib.Nat.{le_refl, add-zero, add-suc, zero-add}
use native.Mathlib.Omega.{arith}
use mathlib.Core.Bool.{Bool, true, false}
use lib.Dec.{T}
use lib.Ieee.{Float}
use Rattle.exact.proofs.Cases.{by_equal}
use Rattle.definitions.specs.Numbers.{◌⊕◌, ◌⊗◌, finite, add_product_in_range, all}
use Rattle.rounding.proofs.Finite.{sum-finite}
use Rattle.steps.proofs.All.{all_same}
use Rattle.steps.proofs.AddProduct.{step_same, step_test_same}
use Rattle.tables.specs.Rows.{plus_multiple, plus_multiple_in_range}
use Rattle.tables.proofs.Operators.{replace_same, replace_other}
use Rattle.passes.specs.RowPass.{turn, staged, staged_in_range, passed, pass_in_range}
use Rattle.passes.specs.Told.{FiniteTable}

-- ---- one row
module _ (κ : ℕ → ℕ) (g : ℕ → ℕ → Float) where
  pub staged-next : (f : ℕ → ℕ → Float) (i q j : ℕ) → staged κ g f i (suc q) j ≡ staged κ g f i q j ⊕ g i (κ q) ⊗ f (κ q) j
  unfolding staged plus_multiple
  staged-next f i q j = refl

  -- It looks at one column, of that row and of the rows that are added.
  pub staged_same : (e f : ℕ → ℕ → Float) (i j n : ℕ) → e i j ≡ f i j → ((q : ℕ) → q < n → e (κ q) j ≡ f (κ q) j) → (q : ℕ) → q ≤ n → staged κ g e i q j ≡ staged κ g f i q j
  unfolding staged plus_multiple
  staged_same e f i j n own others zero l = own
  staged_same e f i j n own others (suc q) l = step_same (staged_same e f i j n own others q (omega arith)) refl (others q l)

  -- From a later turn on, where the turns before it change nothing.
  pub staged-from : (f : ℕ → ℕ → Float) (i from j : ℕ) → staged κ g f i from j ≡ f i j → (n : ℕ) → staged (λ q. κ (from + q)) g f i n j ≡ staged κ g f i (from + n) j
  unfolding staged plus_multiple
  staged-from f i from j e zero = rw (add-zero from) (sym e)
  staged-from f i from j e (suc n) = rw (add-suc from n) (step_same (staged-from f i from j e n) refl refl)

  -- A finite sum has finite parts, so every number on the way to a finite one is finite.
  pub way_finite : (f : ℕ → ℕ → Float) (i j q d : ℕ) → T (finite (staged κ g f i (q + d) j)) → T (finite (staged κ g f i q j))
  unfolding staged plus_multiple
  way_finite f i j q zero t = rw (add-zero q) at t
  way_finite f i j q (suc d) t =
      way_finite f i j q d (sum-finite (staged κ g f i (q + d) j) (g i (κ (q + d)) ⊗ f (κ (q + d)) j) (rw (add-suc q d) at t)).0

-- ---- the turns of r rows: each row has one
pub record Turns (r : ℕ) (κ : ℕ → ℕ) : Type 0 where
  pub below : (q : ℕ) → q < r → κ q < r
  pub apart : (p q : ℕ) → p < r → q < r → κ p ≡ κ q → p ≡ q
  pub has : (i : ℕ) → i < r → (q : ℕ) × (q < r) × (κ q ≡ i)

pub turns : (r : ℕ) (falling : Bool) → Turns r (turn r falling)
unfolding turn
turns r true =
    record {
      below = λ q l. omega arith;
      apart = λ p q l m e. omega arith;
      has = λ i l. (r - suc i, omega arith, omega arith);
    }
turns r false = record { below = λ q l. l; apart = λ p q l m e. e; has = λ i l. (i, l, refl) }

module _ {r : ℕ} {κ : ℕ → ℕ} (order : Turns r κ) (g f : ℕ → ℕ → Float) where
  -- A row before its turn, and after it.
  pub passed_due : (s q : ℕ) → s ≤ q → q < r → passed κ g f s (κ q) ≡ f (κ q)
  unfolding passed
  passed_due zero q l m = refl
  passed_due (suc s) q l m =
      let h = passed κ g f s in
      replace_other (κ s) (staged κ g h (κ s) s) h (κ q) (λ e. let z = order.apart q s m (omega arith) e in omega arith)
      ∙ passed_due s q (omega arith) m

  pub passed_done : (s q : ℕ) → q < s → s ≤ r → passed κ g f s (κ q) ≡ staged κ g (passed κ g f q) (κ q) q
  unfolding passed
  passed_done zero q l m = let z : ⊥ = omega arith in absurd z
  passed_done (suc s) q l m =
      let h = passed κ g f s in
      by_equal q s
      (λ e. rw e (replace_same (κ s) (staged κ g h (κ s) s) h))
      (λ n.
      replace_other (κ s) (staged κ g h (κ s) s) h (κ q) (λ e. n (order.apart q s (omega arith) m e))
      ∙ passed_done s q (omega arith) (omega arith))

  -- Finite results come from finite numbers.
  pub start-finite : FiniteTable r (passed κ g f r) → FiniteTable r f
  unfolding staged
  start-finite h i l j m =
      let (q, b, e) = order.has i l in
      let row : passed κ g f r i ≡ staged κ g (passed κ g f q) i q = rw e at (passed_done r q b (le_refl r)) in
      let due : passed κ g f q i ≡ f i = rw e at (passed_due q q (le_refl q) b) in
      let there : T (finite (staged κ g (passed κ g f q) i (0 + q) j)) = rw (zero-add q) (rw (ap (λ (x : ℕ → Float). x j) row) at (h i l j m)) in
      rw (ap (λ (x : ℕ → Float). x j) due) at (way_finite κ g (passed κ g f q) i j 0 q there)

-- ---- a pass that is known number by number: P q i c is the number at (i, c) once q rows are added to row i, for the columns c that turn q looks at
pub record Adds (r : ℕ) (κ : ℕ → ℕ) (g : ℕ → ℕ → Float) (On : ℕ → ℕ → Type 0) (P : ℕ → ℕ → ℕ → Float) : Type 0 where
  pub earlier : (q c : ℕ) → On (suc q) c → On q c
  pub step : (q s c : ℕ) → q < s → s < r → On (suc q) c → P q (κ s) c ⊕ g (κ s) (κ q) ⊗ P q (κ q) c ≡ P (suc q) (κ s) c

module _ {r : ℕ} {κ : ℕ → ℕ} (order : Turns r κ) {g : ℕ → ℕ → Float} {On : ℕ → ℕ → Type 0} {P : ℕ → ℕ → ℕ → Float} (adds : Adds r κ g On P)
    (f : ℕ → ℕ → Float) (start : (q c : ℕ) → q < r → On 0 c → f (κ q) c ≡ P 0 (κ q) c) where
  from_start : (q c : ℕ) → On q c → On 0 c
  from_start zero c o = o
  from_start (suc q) c o = from_start q c (adds.earlier q c o)

  -- The row of turn s, where the rows before it are known; and all rows, n of whose turns are known.
  row-known : (s : ℕ) → s < r → ((q c : ℕ) → q < s → On q c → staged κ g (passed κ g f q) (κ q) q c ≡ P q (κ q) c)
      → (q c : ℕ) → q ≤ s → On q c → staged κ g (passed κ g f s) (κ s) q c ≡ P q (κ s) c
  unfolding staged
  row-known s l before zero c m o = ap (λ (x : ℕ → Float). x c) (passed_due order g f s s (le_refl s) l) ∙ start s c l o
  row-known s l before (suc q) c m o =
      let o' = adds.earlier q c o in
      let added : passed κ g f s (κ q) c ≡ P q (κ q) c = ap (λ (x : ℕ → Float). x c) (passed_done order g f s q m (omega arith)) ∙ before q c m o' in
      staged-next κ g (passed κ g f s) (κ s) q c
      ∙ step_same (row-known s l before q c (omega arith) o') refl added
      ∙ adds.step q s c m l o

  known : (n : ℕ) → n ≤ r → (s : ℕ) → s < n → (q c : ℕ) → q ≤ s → On q c → staged κ g (passed κ g f s) (κ s) q c ≡ P q (κ s) c
  known zero l s h q c m o = let z : ⊥ = omega arith in absurd z
  known (suc n) l s h q c m o =
      row-known s (omega arith) (λ a b u v. known n (omega arith) a (omega arith) a b (le_refl a) v) q c m o

  pub staged_is : (s q c : ℕ) → s < r → q ≤ s → On q c → staged κ g (passed κ g f s) (κ s) q c ≡ P q (κ s) c
  staged_is s q c l m o = known r (le_refl r) s l q c m o

  pub passed_is : (s q c : ℕ) → q < s → s ≤ r → On q c → passed κ g f s (κ q) c ≡ P q (κ q) c
  passed_is s q c l m o = ap (λ (x : ℕ → Float). x c) (passed_done order g f s q l m) ∙ staged_is q q c (omega arith) (le_refl q) o

  -- The test of one step, and all of them.
  unfoldable pub step_test : ℕ → ℕ → ℕ → Bool
  step_test s q c = add_product_in_range (P q (κ s) c) (g (κ s) (κ q)) (P q (κ q) c)

  pub tests_are : (w : ℕ → ℕ) → ((q c : ℕ) → q < r → c < w q → On q c) → pass_in_range κ w g f r ≡ all (λ s. all (λ q. all (step_test s q) 0 (w q)) 0 s) 0 r
  unfolding pass_in_range staged_in_range plus_multiple_in_range step_test
  tests_are w inside =
      all_same (λ s. staged_in_range κ w g (passed κ g f s) (κ s) s) (λ s. all (λ q. all (step_test s q) 0 (w q)) 0 s) 0 r (λ s _ l.
      all_same (λ q. all (plus_multiple_in_range (g (κ s) (κ q)) (staged κ g (passed κ g f s) (κ s) q) (passed κ g f s (κ q))) 0 (w q)) (λ q. all (step_test s q) 0 (w q)) 0 s (λ q _ m.
      all_same (plus_multiple_in_range (g (κ s) (κ q)) (staged κ g (passed κ g f s) (κ s) q) (passed κ g f s (κ q))) (step_test s q) 0 (w q) (λ c _ n.
      let o = inside q c (omega arith) (omega arith) in
      step_test_same (staged_is s q c (omega arith) (omega arith) o) refl (passed_is s q c (omega arith) (omega arith) o))))
