-- The stages of one column: a stage over its rows, and what it does to document 01's column.
use mathlib.Core.Path.{◌≡◌, refl, sym, ap, ◌∙◌}
use Prim.Native.Nat.{ℕ, suc, ◌+◌, ◌-◌, ◌≤◌, ◌<◌, zero-le}
use native.Mathlib.Nat.{le_refl, sub-zero}
use native.Mathlib.Numerals.{add-one}
use native.Mathlib.Omega.{arith}
use mathlib.Core.Bool.{Bool, true, ◌&&◌}
use mathlib.Core.List.{List}
use lib.Ieee.{Float}
use borrow.Author.Tests.{le-leb}
use Rattle.exact.proofs.Cases.{by_equal}
use Rattle.definitions.specs.Numbers.{◌⊕◌, ◌⊗◌, 1·0, all}
use Rattle.definitions.specs.LeavingRates.{System, b↑}
use Rattle.steps.proofs.All.{all_same}
use Rattle.steps.proofs.AddProduct.{step_same}
use Rattle.steps.proofs.Gathering.{Gathered, gathered_begins, gathered_turns}
use Rattle.steps.proofs.LeavingRatesSteps.{column_waits, column_step, upward_start, upward_step, solved_is}
use Rattle.tables.specs.Operators.{replace, between}
use Rattle.tables.specs.Vectors.{vector, IsVector, VectorHolds, ZeroVector}
use Rattle.tables.proofs.Operators.{between_in, between-low, between_past}
use Rattle.passes.specs.Multipliers.{Multipliers}
use Rattle.column.specs.ColumnSteps.{large_product, StageGives, UnitColumn, DownAt, UpAt, large_down, large_up}

-- ---- column j of the identity, with its 1 or past the last stage
pub unit-put : {r j : ℕ} {b xs : List Float} → ZeroVector b → VectorHolds xs (replace j 1·0 (vector b)) → UnitColumn r j xs
unfolding replace
unit-put {j = j} z h = record { long = h.long; is = λ i l. ap (λ (w : ℕ → Float). w i) (h.is ∙ ap (replace j 1·0) z.is) }

-- ---- document 01's column
module _ (r : ℕ) (at : ℕ → System) (j : ℕ) where
  -- Column j of the identity, as stage j begins.
  pub unit-column : {xs : List Float} → UnitColumn r j xs → DownAt r at j j (vector xs)
  unit-column h =
      record {
        done = λ i l m. h.is i m ∙ sym (column_waits r at j i i (omega arith));
        due = λ i l m. h.is i m ∙ sym (column_waits r at j j i (le_refl j));
      }

  -- Every row is done after the last downward stage, and then the upward ones begin.
  pub turns_upward : {v : ℕ → Float} → DownAt r at j r v → UpAt r at j 0 v
  turns_upward d =
      record {
        done = λ i l m. let z : ⊥ = omega arith in absurd z;
        due = λ i l. let m : i < r = omega arith in d.done i m m ∙ sym (upward_start r at j i m);
      }

  module _ {g : ℕ → ℕ → Float} (m : Multipliers r at g) (v w : ℕ → Float) where
    -- Downward stage k.
    module _ (k : ℕ) (in_rows : k < r) (d : DownAt r at j k v) where
      pub down_turn : j ≤ k → w ≡ between (suc k) r (λ i. v i ⊕ g i k ⊗ v k) v → DownAt r at j (suc k) w
      down_turn l e =
          record {
            done = λ i a b. ap (λ (x : ℕ → Float). x i) e ∙ between-low (suc k) r (λ i. v i ⊕ g i k ⊗ v k) v i a ∙ by_equal i k (λ q. rw q (d.due k (le_refl k) in_rows)) (λ n. d.done i (omega arith) b);
            due = λ i a b.
                ap (λ (x : ℕ → Float). x i) e
                ∙ between_in (suc k) r (λ i. v i ⊕ g i k ⊗ v k) v i a b
                ∙ step_same (d.due i (omega arith) b) (m.below k i a b) (d.due k (le_refl k) in_rows)
                ∙ sym (column_step r at j k i (le-leb j k l) b);
          }

      pub down_test : all (λ i. large_product (g i k) (v k)) (suc k) (r - suc k) ≡ large_down r at j k
      unfolding large_down
      down_test = all_same (λ i. large_product (g i k) (v k)) _ (suc k) (r - suc k) (λ i a b. rw (m.below k i a (omega arith), d.due k (le_refl k) in_rows))

    -- Upward stage q, of row k.
    module _ (q k : ℕ) (row : suc (k + q) ≡ r) (d : UpAt r at j q v) where
      due_row : v k ≡ b↑ r at j q (r - suc q)
      due_row = let e : r - suc q ≡ k = omega arith in rw e (d.due k (omega arith))

      pub up_turn : w ≡ between 0 k (λ i. v i ⊕ g i k ⊗ v k) v → UpAt r at j (suc q) w
      up_turn e =
          let z : r - suc q ≡ k = omega arith in
          record {
            done = λ i a b. ap (λ (x : ℕ → Float). x i) e ∙ between_past 0 k (λ i. v i ⊕ g i k ⊗ v k) v i (omega arith) ∙ by_equal i k
                (λ o. let n : r - suc k ≡ q = omega arith in rw o (d.due k (omega arith) ∙ rw n at (sym (solved_is r at j k))))
                (λ o. d.done i (omega arith) b);
            due = λ i a.
                ap (λ (x : ℕ → Float). x i) e
                ∙ between_in 0 k (λ i. v i ⊕ g i k ⊗ v k) v i zero-le (omega arith)
                ∙ step_same (d.due i (omega arith)) (rw z (m.above k i (omega arith) (omega arith))) due_row
                ∙ sym (upward_step r at j q i (omega arith));
          }

      pub up_test : all (λ i. large_product (g i k) (v k)) 0 k ≡ large_up r at j q
      unfolding large_up
      up_test =
          let z : r - suc q ≡ k = omega arith in
          rw z (all_same (λ i. large_product (g i k) (v k)) _ 0 k (λ i a b. rw (m.above k i (omega arith) (omega arith), d.due k (omega arith))))

-- ---- the loops over the stages, from the column v₀: the stages before k are done, or q of them
pub record Downs (r j : ℕ) (g : ℕ → ℕ → Float) (v₀ : ℕ → Float) (k : ℕ) (ok : Bool) (xs : List Float) : Type 0 where
  pub from : j ≤ k
  pub long : IsVector xs
  pub large : (at : ℕ → System) → Multipliers r at g → DownAt r at j j v₀ → Gathered (large_down r at j) j k ok
  pub is : (at : ℕ → System) → Multipliers r at g → DownAt r at j j v₀ → DownAt r at j k (vector xs)

pub downs_begin : {r j : ℕ} {g : ℕ → ℕ → Float} {xs : List Float} → IsVector xs → Downs r j g (vector xs) j true xs
downs_begin {j = j} e = record { from = le_refl j; long = e; large = λ at m d. gathered_begins refl; is = λ at m d. d }

module _ {r j : ℕ} {g : ℕ → ℕ → Float} {v₀ : ℕ → Float} {k : ℕ} {ok : Bool} {xs : List Float} (h : Downs r j g v₀ k ok xs) where
  pub downs_turn : {now : Bool} {ys : List Float} → k < r → StageGives k (k + 1) r g (vector xs) now ys → Downs r j g v₀ (k + 1) (ok && now) ys
  downs_turn {now} {ys} l w =
      let u = rw (add-one k) at w in
      record {
        from = omega (arith, h.from);
        long = w.holds.long;
        large = λ at m d. gathered_turns (h.large at m d) (u.large ∙ down_test r at j m (vector xs) (vector ys) k l (h.is at m d));
        is = λ at m d. rw (add-one k) (down_turn r at j m (vector xs) (vector ys) k l (h.is at m d) h.from u.holds.is);
      }

pub record Ups (r : ℕ) (g : ℕ → ℕ → Float) (v₀ : ℕ → Float) (q : ℕ) (ok : Bool) (xs : List Float) : Type 0 where
  pub long : IsVector xs
  pub large : (at : ℕ → System) (j : ℕ) → Multipliers r at g → UpAt r at j 0 v₀ → Gathered (large_up r at j) 0 q ok
  pub is : (at : ℕ → System) (j : ℕ) → Multipliers r at g → UpAt r at j 0 v₀ → UpAt r at j q (vector xs)

pub ups_begin : {r : ℕ} {g : ℕ → ℕ → Float} {xs : List Float} → IsVector xs → Ups r g (vector xs) 0 true xs
ups_begin e = record { long = e; large = λ at j m d. gathered_begins refl; is = λ at j m d. d }

module _ {r : ℕ} {g : ℕ → ℕ → Float} {v₀ : ℕ → Float} {q : ℕ} {ok : Bool} {xs : List Float} (h : Ups r g v₀ q ok xs) where
  pub ups_turn : (k : ℕ) {now : Bool} {ys : List Float} → suc (k + q) ≡ r → StageGives k 0 k g (vector xs) now ys → Ups r g v₀ (q + 1) (ok && now) ys
  ups_turn k {now} {ys} e w =
      record {
        long = w.holds.long;
        large = λ at j m d. gathered_turns (h.large at j m d) (rw (sub-zero k) at w.large ∙ up_test r at j m (vector xs) (vector ys) q k e (h.is at j m d));
        is = λ at j m d. rw (add-one q) (up_turn r at j m (vector xs) (vector ys) q k e (h.is at j m d) w.holds.is);
      }
