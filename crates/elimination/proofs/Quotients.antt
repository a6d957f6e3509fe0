-- From the passes over b to the table of quotients.
use mathlib.Core.Path.{◌≡◌, ap, ap₂, ◌∙◌}
use Prim.Native.Nat.{ℕ, suc, ◌-◌, ◌<◌}
use native.Mathlib.Omega.{arith}
use mathlib.Core.Bool.{Bool, true, false, ◌&&◌, ◌||◌}
use mathlib.Core.List.{List}
use lib.Dec.{T, eqb}
use lib.Ieee.{Float}
use lib.Ieee.Fits.{and_i, and_l, and_r}
use Rattle.exact.proofs.Bools.{same_truth}
use Rattle.definitions.specs.Numbers.{finite, div_in_range, add_product_in_range, all}
use Rattle.definitions.specs.LeavingRates.{Weights, System, downward, pivot_in_range, p, u, m↓, b↓, solved, row_in_range, stage_in_range, shared_before, shared, in_range}
use Rattle.rounding.proofs.Finite.{quotient_of_range, dividend_of_range}
use Rattle.steps.proofs.All.{each, each_below}
use Rattle.steps.proofs.LeavingRatesSteps.{multiplier_is}
use Rattle.tables.specs.RowMajor.{table, Holds, Gives, IsTable}
use Rattle.tables.specs.Rows.{over_in_range}
use Rattle.passes.specs.Told.{Told, FiniteTable}
use Rattle.passes.specs.Multipliers.{system_in}
use Rattle.passes.specs.RowPass.{turn, passed, IsIdentity, FiniteBelow, identity_rows, divided_rows, quotients_in_range}
use Rattle.passes.proofs.RowPass.{turns, start-finite}
use Rattle.passes.proofs.ColumnPasses.{identity_inside, down_is, down_test, up_is, up_test, last_is, last_test, columns_test}
use Rattle.downward.specs.Downward.{SharedTable}
use Rattle.columns.specs.Columns.{PassStarts, PassDone}
use Rattle.elimination.specs.Quotients.{QuotientTable}

-- The last test is the document's, and finds the results of the one before it finite, as do those the results of the first.
told_backwards : {down up last d u q : Bool} {F G : Type 0} → Told down d F → Told up u G → last ≡ q → (G → F) → (T q → G) → (down && up && last) ≡ (d && u && q)
told_backwards {down} {up} {last} {d} {u} {q} h k e f g =
    rw e
    (same_truth (down && up && q) (d && u && q)
    (λ t.
    let l = and_l (down && up) q t in
    let z = and_r (down && up) q t in
    and_i (d && u) q (and_i d u (h.tells (f (g z)) (and_l down up l)) (k.tells (g z) (and_r down up l))) z)
    (λ t.
    let l = and_l (d && u) q t in
    and_i (down && up) q (and_i down up (h.passes (and_l d u l)) (k.passes (and_r d u l))) (and_r (d && u) q t)))

-- The multipliers are quotients whose steps are in range.
multiplier-finite : (r : ℕ) (at : ℕ → System) → T (shared r at) → (k i : ℕ) → k < i → i < r → T (finite (m↓ r at k i))
unfolding shared shared_before stage_in_range row_in_range
multiplier-finite r at t k i l m =
    let x = (at k).t i k in
    let stage : T (stage_in_range r at k) = each (stage_in_range r at) 0 r k (and_l (shared_before r at r) (all (λ k. all (λ i. div_in_range (u r at i k) (p r at k)) 0 k) 0 r) t) (omega arith) (omega arith) in
    let row : T (row_in_range r at k i) = each (row_in_range r at k) (suc k) (r - suc k) i (and_r (pivot_in_range r (at k) k) (all (row_in_range r at k) (suc k) (r - suc k)) stage) l (omega arith) in
    let exit = add_product_in_range ((at k).s i) (m↓ r at k i) ((at k).s k) in
    let sizes = all (λ j. eqb i j || add_product_in_range ((at k).t i j) (m↓ r at k i) ((at k).t k j)) (suc k) (r - suc k) in
    rw (multiplier_is r at k i)
    (quotient_of_range x (p r at k) (and_l (div_in_range x (p r at k)) exit (and_l (div_in_range x (p r at k) && exit) sizes row)))

-- Where the answers are in range, the dividends are finite.
dividends_finite : (r : ℕ) (g f : ℕ → ℕ → Float) → T (quotients_in_range r g f) → FiniteTable r f
unfolding quotients_in_range over_in_range
dividends_finite r g f t i l j m = dividend_of_range (f i j) (g i i) (each_below r (over_in_range (g i i) (f i)) (each_below r (λ i. all (over_in_range (g i i) (f i)) 0 r) t i l) j m)

finite_same : (r : ℕ) (e f : ℕ → ℕ → Float) → ((i j : ℕ) → i < r → j < r → e i j ≡ f i j) → FiniteTable r e → FiniteTable r f
finite_same r e f same h i l j m = rw (← same i j l m) (h i l j m)

module _ (w : Weights) (r : ℕ) (f : ℕ → ℕ → Float) {t : List Float} {ok : Bool} (s : SharedTable w r f ok t) where
  at : ℕ → System
  at = downward r (system_in w f)

  multipliers_finite : T ok → FiniteBelow r (table t)
  unfolding at
  multipliers_finite e k i l m = rw (s.multipliers.below k i l m) (multiplier-finite r (downward r (system_in w f)) (rw s.range at e) k i l m)

  pub out_of_range : ok ≡ false → {b : List Float} → IsTable b → QuotientTable w r f false b
  unfolding in_range
  out_of_range e h =
      record {
        range = rw (← s.range, e);
        quotients = λ t. absurd t;
        long = h;
      }

  -- The identity, downward, upward, the last division.
  module _ (holds : ok ≡ true) (b₀ : ℕ → ℕ → Float) {b₁ : List Float} (h₁ : Holds b₁ (identity_rows r r b₀)) where
    one : IsIdentity r (table b₁)
    one = rw h₁.is (identity_inside r b₀)

    pub pass_starts : PassStarts r false (table t) (table b₁)
    pass_starts = record { identity = λ _. one; multipliers = λ _. multipliers_finite (rw holds tt) }

    pub solved-table : {b₂ b₃ b₄ : List Float} {down up last : Bool}
        → PassDone r false (table t) (table b₁) down b₂
        → PassDone r true (table t) (table b₂) up b₃
        → Gives last (quotients_in_range r (table t) (table b₃)) b₄ (divided_rows r r (table t) (table b₃))
        → QuotientTable w r f (down && up && last) b₄
    unfolding in_range at
    solved-table {b₂} {b₃} {b₄} h₂ h₃ h₄ =
        let g = table t in
        let m = s.multipliers in
        let finite = multipliers_finite (rw holds tt) in
        let e₂ : (i j : ℕ) → i < r → j < r → table b₂ i j ≡ b↓ r at j i i = λ i j l k. h₂.inside i j l k ∙ down_is r at g m finite (table b₁) one i j l k in
        let e₃ : (i j : ℕ) → i < r → j < r → table b₃ i j ≡ solved r at j i = λ i j l k. h₃.inside i j l k ∙ up_is r at g m (table b₂) e₂ i j l k in
        record {
          range =
              told_backwards h₂.told h₃.told h₄.range
              (λ z. finite_same r (table b₂) (passed (turn r false) g (table b₁) r) h₂.inside (start-finite (turns r true) g (table b₂) z))
              (λ z. finite_same r (table b₃) (passed (turn r true) g (table b₂) r) h₃.inside (dividends_finite r g (table b₃) z))
              ∙ ap₂ (λ x y. x && y) (ap₂ (λ x y. x && y) (down_test r at g m finite (table b₁) one) (up_test r at g m (table b₂) e₂)) (last_test r at g m (table b₃) e₃)
              ∙ columns_test r at
              ∙ rw (← s.range, holds);
          quotients = λ _ i j l k. ap (λ (x : ℕ → ℕ → Float). x i j) h₄.holds.is ∙ last_is r at g m (table b₃) e₃ i j l k;
          long = h₄.holds.long;
        }
