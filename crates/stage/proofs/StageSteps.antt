-- The laws behind the stages: one up to its multipliers, and two at once.
use mathlib.Core.Path.{◌≡◌, refl, sym, ap, ◌∙◌}
use Prim.Native.Nat.{ℕ, suc, ◌+◌, ◌<◌}
use native.Mathlib.Nat.{le_refl}
use native.Mathlib.Numerals.{add-one}
use native.Mathlib.Omega.{arith}
use mathlib.Core.Bool.{Bool, ◌&&◌}
use mathlib.Core.List.{List}
use lib.Dec.{T}
use lib.Ieee.{Float}
use lib.Ieee.Fits.{and_l, and_r}
use Rattle.definitions.specs.Numbers.{◌⊘◌, finite}
use Rattle.definitions.specs.LeavingRates.{Weights, pivot, pivot_in_range, multiplier, p, m↓, row_in_range, stage_in_range}
use Rattle.steps.proofs.Weights.{weights-refl}
use Rattle.steps.proofs.Pivot.{pivot_in_range_same, in_range-finite}
use Rattle.tables.specs.RowMajor.{table, Holds}
use Rattle.tables.specs.Operators.{put}
use Rattle.tables.proofs.Loops.{Down, down_due, down_else, down_puts}
use Rattle.passes.specs.Told.{Told}
use Rattle.passes.specs.Multipliers.{system_in}
use Rattle.passes.specs.Stages.{IsStage, row_test, multiplier_row, multiplied_rows, next_begun, pair_rows, stage_done}
use Rattle.passes.specs.StageTests.{RowFinite, RowTold, Alike, RowsTold, stage_test, StageFinite, StageBegins, StageFinds, PairFinds}
use Rattle.passes.proofs.Told.{told_from, told_both, told_exactly}
use Rattle.passes.proofs.PairStages.{next-stage, alike, pair_done, next_done}

-- Down the rows after k: the row that is due, and row k, are as at the start.
module _ {k : ℕ} {f : ℕ → ℕ → Float} {xs : List Float} {i : ℕ} (p : Float) (h : Down (suc k) (multiplier_row k p f) f xs i) where
  pub multiplied_turns : {m : Float} {ys : List Float} → Holds ys (put i k m (table xs)) → m ≡ table xs i k ⊘ p → Down (suc k) (multiplier_row k p f) f ys (i + 1)
  unfolding multiplier_row
  multiplied_turns w e = down_puts h k w (e ∙ ap (λ (row : ℕ → Float). row k ⊘ p) (down_due h i (le_refl i))) refl

  pub row_told : (r : ℕ) (g : ℕ → ℕ → Float) {ok : Bool} → i < r → Alike r k f g → RowTold r k i p (table xs i k) (table xs k) ok → Told ok (row_test r k i p (g i) (g k)) (RowFinite r k i p (g i) (g k))
  row_told r g l a t =
      rw (down_else h k (λ m n. omega arith), ← a.row) at (t (g i) (a.column i h.from l ∙ sym (ap (λ (row : ℕ → Float). row k) (down_due h i (le_refl i)))))

-- A stage up to its multipliers.
pub stage_begins : (w : Weights) (r k : ℕ) (f : ℕ → ℕ → Float) {s p : Float} {pivots rows : Bool} {xs : List Float}
    → IsStage w r k f s p
    → pivots ≡ pivot_in_range r (system_in w f) k
    → RowsTold r k p f rows
    → Holds xs (multiplied_rows k p r f)
    → StageBegins w r k f s p (pivots && rows) xs
stage_begins w r k f {s} {p} {pivots} {rows} e t told holds =
    record {
      stage = e;
      told = λ g a. told_from (told_both (told_exactly t) (told g a)) (λ h. (h, h));
      tested = λ u. rw e.pivots (in_range-finite r (system_in w f) k (rw t at (and_l pivots rows u)));
      holds = holds;
    }

-- What its tests tell of it in any table that they cannot tell apart from its own.
module _ {w : Weights} {r k : ℕ} {f : ℕ → ℕ → Float} {s p : Float} {ok : Bool} {xs : List Float} (l : k < r) (h : StageBegins w r k f s p ok xs) where
  pivot_told : (g : ℕ → ℕ → Float) → Alike r k f g → pivot_in_range r (system_in w f) k ≡ pivot_in_range r (system_in w g) k
  pivot_told g a =
      let place : (j : ℕ) → f k j ≡ g k j = λ j. ap (λ (row : ℕ → Float). row j) (sym a.row) in
      pivot_in_range_same r k (system_in w f) (system_in w g) l (place k) (λ j b c. place j) (weights-refl r w)

  stage_told : (g : ℕ → ℕ → Float) → p ≡ pivot r (system_in w g) k → Alike r k f g → Told ok (stage_test w r k g) (StageFinite r k (pivot r (system_in w g) k) g)
  unfolding stage_in_range row_in_range p m↓ multiplier row_test
  stage_told g e a = rw (pivot_told g a, e) at (h.told g a)

  own_told : Told ok (stage_test w r k f) (StageFinite r k (pivot r (system_in w f) k) f)
  own_told = stage_told f h.stage.pivots (record { row = refl; column = λ i a b. refl })

  stage_tested : {q : Float} → p ≡ q → T ok → T (finite q)
  stage_tested e t = rw e at (h.tested t)

-- Stage k up to its multipliers, and what stage k + 1 needs of it.
module _ (w : Weights) (r k : ℕ) (f : ℕ → ℕ → Float) {s p : Float} {first : Bool} {xs ys : List Float} (l : suc k < r) (a : StageBegins w r k f s p first xs) (n : Holds ys (next_begun r k s (table xs))) where
  begun : table ys ≡ next_begun r k (f k k) (multiplied_rows k (pivot r (system_in w f) k) r f)
  begun = n.is ∙ rw (a.holds.is, a.stage.sum, a.stage.pivots)

  -- Then stage k + 1 up to its multipliers, the later rows, the pivots.
  pub pair_eliminated : {s' p' : Float} {second : Bool} {zs us vs ws : List Float}
      → StageBegins w r (k + 1) (table ys) s' p' second zs
      → Holds us (pair_rows r k s s' (table zs))
      → Holds vs (put k k p (table us))
      → Holds ws (put (k + 1) (k + 1) p' (table vs))
      → PairFinds w r k f (first && second) ws
  pair_eliminated {s'} {p'} {second} {zs} b h₁ h₂ h₃ =
      let c : StageBegins w r (suc k) (next_begun r k (f k k) (multiplied_rows k (pivot r (system_in w f) k) r f)) s' p' second zs = rw (add-one k, begun) at b in
      let next = next-stage w r k f l c.stage in
      record {
        told = told_both (own_told (omega arith) a) (stage_told l c (stage_done w r k f) next.pivots (alike w r k f l));
        tested = λ u. (stage_tested (omega arith) a a.stage.pivots (and_l first second u), stage_tested l c next.pivots (and_r first second u));
        holds =
            record {
              long = h₃.long;
              is = h₃.is ∙ rw (h₂.is, h₁.is, c.holds.is, a.stage.sum, a.stage.pivots, next.sum, next.pivots, add-one k) (pair_done w r k f l);
            };
      }

  -- Or, where no rows are left, the pivot, and the last stage.
  pub pair_last : {second : Bool} {zs us : List Float} → suc (suc k) ≡ r → Holds zs (put k k p (table ys)) → StageFinds w r (k + 1) (table zs) second us → PairFinds w r k f (first && second) us
  pair_last {second} {zs} {us} e h b =
      let done : table zs ≡ stage_done w r k f = h.is ∙ rw (begun, a.stage.pivots) (next_done w r k f e) in
      let c : StageFinds w r (suc k) (stage_done w r k f) second us = rw (add-one k, done) at b in
      record {
        told = told_both (own_told (omega arith) a) c.told;
        tested = λ u. (stage_tested (omega arith) a a.stage.pivots (and_l first second u), c.tested (and_r first second u));
        holds = c.holds;
      }
