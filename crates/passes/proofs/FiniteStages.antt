-- Finiteness backwards: finite pivots make every size and leaving rate of every stage finite. So the stages' tests, as the code makes them, are the document's.
use mathlib.Core.Path.{◌≡◌, refl}
use Prim.Native.Nat.{ℕ, zero, suc, ◌+◌, ◌-◌, ◌≤◌, ◌<◌}
use native.Mathlib.Nat.{le_antisymm, sub-zero}
use native.Mathlib.Numerals.{add-one}
use native.Mathlib.Omega.{arith}
use mathlib.Core.Bool.{Bool, true, ◌&&◌}
use mathlib.Core.List.{List}
use lib.Dec.{T}
use lib.Ieee.{Float}
use lib.Ieee.Fits.{and_l, and_r}
use Rattle.exact.proofs.Cases.{by_equal}
use Rattle.definitions.specs.Numbers.{◌⊘◌, ◌⊗◌, finite, add_product_in_range, div_in_range, all}
use Rattle.definitions.specs.LeavingRates.{Weights, pivot, pivot_in_range, row_in_range, stage_in_range}
use Rattle.rounding.proofs.Finite.{sum-finite, product-finite, quotient-finite}
use Rattle.steps.proofs.All.{each}
use Rattle.steps.proofs.Pivot.{exit_of_pivot, size_of_pivot, in_range-finite}
use Rattle.tables.specs.RowMajor.{IsTable, table, Holds, Gives}
use Rattle.passes.specs.Told.{Told}
use Rattle.passes.specs.Multipliers.{system_in}
use Rattle.passes.specs.Stages.{row_test, stage_done, stages_done, stages_in_range}
use Rattle.passes.specs.StageTests.{RowFinite, StageFinite, stage_test, StageFinds, PairFinds}
use Rattle.passes.proofs.Told.{ToldEach, told_same, told_begins, told_turns, told_turns_twice, told_ends}
use Rattle.passes.proofs.StagePlaces.{exit_place, size-place}

-- ---- one row at stage k, whose pivot is q
module _ {r k i : ℕ} {q : Float} {own other : ℕ → Float} (h : RowFinite r k i q own other) where
  pub multiplier_is_finite : T (finite (own k ⊘ q))
  multiplier_is_finite = (product-finite (own k ⊘ q) (other k) (sum-finite (own i) ((own k ⊘ q) ⊗ other k) h.exit).1).0

  row-finite : k < i → (j : ℕ) → k ≤ j → j < r → T (finite (own j))
  row-finite l j a b =
      by_equal i j
      (λ e. rw (← e) (sum-finite (own i) ((own k ⊘ q) ⊗ other k) h.exit).0)
      (λ n. by_equal j k
      (λ e. rw e (quotient-finite (own k) q multiplier_is_finite))
      (λ o. (sum-finite (own j) ((own k ⊘ q) ⊗ other j) (h.sizes j (omega arith) b n)).0))

pub exit_of_test : (r k i : ℕ) (q : Float) (own other : ℕ → Float) → T (row_test r k i q own other) → T (add_product_in_range (own i) (own k ⊘ q) (other k))
unfolding row_test
exit_of_test r k i q own other t =
    let division = div_in_range (own k) q in
    let exit = add_product_in_range (own i) (own k ⊘ q) (other k) in
    and_r division exit (and_l (division && exit) (all _ (suc k) (r - suc k)) t)

-- The places of a table that the stages from k on read are finite.
Active : ℕ → ℕ → (ℕ → ℕ → Float) → Type 0
Active r k f = (i j : ℕ) → k ≤ i → i < r → k ≤ j → j < r → T (finite (f i j))

-- ---- one stage backwards
module _ (w : Weights) (r k : ℕ) (f : ℕ → ℕ → Float) where
  results_finite : Active r (suc k) (stage_done w r k f) → StageFinite r k (pivot r (system_in w f) k) f
  unfolding Active
  results_finite a i l m =
      record {
        exit = rw (exit_place w r k f i l m) at (a i i l m l m);
        sizes = λ j b c n. rw (size-place w r k f i l m j b c n) at (a i j l m b c);
      }

  operands_finite : T (finite (pivot r (system_in w f) k)) → StageFinite r k (pivot r (system_in w f) k) f → Active r k f
  unfolding Active
  operands_finite t h i j a b c d =
      by_equal i k
      (λ e. rw e (by_equal j k (λ o. rw o (exit_of_pivot r (system_in w f) k t)) (λ n. size_of_pivot r (system_in w f) k t j (omega arith) d)))
      (λ n. row-finite (h i (omega arith) b) (omega arith) j c d)

  -- A stage in range has a finite pivot.
  pub pivot_of_stage : T (stage_test w r k f) → T (finite (pivot r (system_in w f) k))
  unfolding stage_in_range
  pivot_of_stage t = in_range-finite r (system_in w f) k (and_l (pivot_in_range r (system_in w f) k) (all (row_in_range r (λ _. system_in w f) k) (suc k) (r - suc k)) t)

-- ---- all stages of a table f
module _ (w : Weights) (r : ℕ) (f : ℕ → ℕ → Float) where
  -- The table as stage k begins, its pivot, and its tests by the code and by the document.
  abbrev begun : ℕ → ℕ → ℕ → Float
  begun k = stages_done w r f k

  abbrev pivot_at : ℕ → Float
  pivot_at k = pivot r (system_in w (begun k)) k

  abbrev in_range : ℕ → Bool
  in_range k = stage_test w r k (begun k)

  active : ((k : ℕ) → k < r → T (finite (pivot_at k))) → (d k : ℕ) → d + k ≡ r → Active r k (begun k)
  unfolding stages_done Active
  active h zero k e = λ i j a b c d. let z : ⊥ = omega arith in absurd z
  active h (suc d) k e = operands_finite w r k (begun k) (h k (omega arith)) (results_finite w r k (begun k) (active h d (suc k) (omega arith)))

  stages-finite : ((k : ℕ) → k < r → T (finite (pivot_at k))) → (k : ℕ) → k < r → StageFinite r k (pivot_at k) (begun k)
  unfolding stages_done
  stages-finite h k l = results_finite w r k (begun k) (active h (r - suc k) (suc k) (omega arith))

  told_agrees : {ok : Bool} → Told ok (all in_range 0 r) ((k : ℕ) → 0 ≤ k → k < r → StageFinite r k (pivot_at k) (begun k)) → (T ok → (k : ℕ) → k < r → T (finite (pivot_at k))) → ok ≡ stages_in_range w r f r
  unfolding stages_in_range
  told_agrees h g =
      told_same h
      (λ t k a l. stages-finite (λ k m. pivot_of_stage w r k (begun k) (each in_range 0 r k t (omega arith) (omega arith))) k l)
      (λ t k a l. stages-finite (g t) k l)

-- ---- the loop over the stages: those before k are done
pub record StagesTold (w : Weights) (r : ℕ) (f : ℕ → ℕ → Float) (k : ℕ) (ok : Bool) (xs : List Float) : Type 0 where
  pub holds : Holds xs (stages_done w r f k)
  pub told : ToldEach (λ l. stage_test w r l (stages_done w r f l)) (λ l. StageFinite r l (pivot r (system_in w (stages_done w r f l)) l) (stages_done w r f l)) 0 k ok
  pub tested : T ok → (l : ℕ) → l < k → T (finite (pivot r (system_in w (stages_done w r f l)) l))

pub stages_begin : (w : Weights) (r : ℕ) {xs : List Float} → IsTable xs → StagesTold w r (table xs) 0 true xs
unfolding stages_done
stages_begin w r e =
    record {
      holds = record { long = e; is = refl };
      told = told_begins refl;
      tested = λ t l h. let z : ⊥ = omega arith in absurd z;
    }

module _ {w : Weights} {r : ℕ} {f : ℕ → ℕ → Float} {k : ℕ} {ok : Bool} {xs : List Float} (h : StagesTold w r f k ok xs) where
  pub stages-turn : {now : Bool} {ys : List Float} → StageFinds w r k (table xs) now ys → StagesTold w r f (k + 1) (ok && now) ys
  unfolding stages_done
  stages-turn {now} g =
      let s : StageFinds w r k (stages_done w r f k) now _ = rw h.holds.is at g in
      record {
        holds = rw (add-one k) s.holds;
        told = told_turns h.told s.told;
        tested = λ t l m. by_equal l k (λ e. rw e (s.tested (and_r ok now t))) (λ n. h.tested (and_l ok now t) l (omega arith));
      }

  pub pair_turn : {now : Bool} {ys : List Float} → PairFinds w r k (table xs) now ys → StagesTold w r f (k + 2) (ok && now) ys
  unfolding stages_done
  pair_turn {now} g =
      let s : PairFinds w r k (stages_done w r f k) now _ = rw h.holds.is at g in
      let two : k + 2 ≡ suc (suc k) = omega arith in
      record {
        holds = rw two s.holds;
        told = told_turns_twice h.told s.told;
        tested = λ t l m.
            let both = s.tested (and_r ok now t) in
            by_equal l k (λ e. rw e both.0) (λ n. by_equal l (suc k) (λ e. rw e both.1) (λ o. h.tested (and_l ok now t) l (omega arith)));
      }

  pub stages_end : k ≤ r → r ≤ k → Gives ok (stages_in_range w r f r) xs (stages_done w r f r)
  stages_end a b =
      record {
        range = told_agrees w r f (rw (sub-zero r) at (told_ends h.told a b)) (λ t l m. h.tested t l (omega arith));
        holds = rw (le_antisymm a b) at h.holds;
      }
