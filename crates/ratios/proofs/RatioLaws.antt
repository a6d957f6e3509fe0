-- The laws behind a and k: k grows by one number, what is known of it serves the next h, and a finite a_i has its additions in range.
use mathlib.Core.Path.{◌≡◌, refl, sym, ap, ap₂, ◌∙◌, fun_ext}
use Prim.Native.Nat.{ℕ, zero, suc, ◌+◌, ◌-◌, ◌≤◌, ◌<◌}
use native.Mathlib.Nat.{zero-add, sub-zero}
use native.Mathlib.Numerals.{add-one}
use native.Mathlib.Omega.{arith}
use mathlib.Core.Bool.{Bool, true, not, ◌&&◌, cond}
use mathlib.Core.List.{List}
use lib.Dec.{eqb}
use lib.ListN.{length, set, get_or-eq_default}
use lib.Ieee.{Float, ne, binary64, of_bits}
use lib.Ieee.Fits.{and_i, and_l, and_r}
use Rattle.exact.proofs.Cases.{by_equal, by_order}
use Rattle.exact.proofs.Bools.{same_truth}
use Rattle.definitions.specs.Numbers.{◌⊕◌, ◌⊗◌, ◌⊘◌, 0·0, finite, is_zero, add_in_range, mul_in_range, div_in_range, sum, sum_in_range, all}
use Rattle.definitions.specs.Tables.{list, stored}
use Rattle.definitions.specs.Margins.{h_of, k_before, h, a, ratio_in_range}
use Rattle.rounding.proofs.Finite.{sum-finite}
use Rattle.rounding.proofs.RoundedSums.{total_in_range, start-finite}
use Rattle.rounding.proofs.Words.{zero_word}
use Rattle.steps.proofs.All.{all-below}
use Rattle.steps.proofs.TableLaws.{length-list}
use Rattle.steps.proofs.MarginsSteps.{known_by, h-known_by, k_is, a_is, kept_is}
use Rattle.tables.specs.Operators.{replace}
use Rattle.tables.specs.Rows.{Dot}
use Rattle.tables.specs.Vectors.{IsVector, vector, VectorHolds}
use Rattle.tables.proofs.Operators.{replace_same, replace_other}
use Rattle.compact.proofs.Listings.{mask_begins, mask_turns}
use Rattle.ratios.specs.Ratios.{ratio, diagonal_of, RatiosBefore, StageTested, RatiosTested}

-- A number is not zero, with the literal of the program.
not-zero : (x : Float) → ne x (of_bits binary64 0) ≡ not (is_zero x)
unfolding is_zero ne
not-zero x = rw zero_word

stored_beyond : (m : ℕ) (g : ℕ → Float) (j : ℕ) → m ≤ j → stored 0·0 m g j ≡ 0·0
unfolding stored
stored_beyond m g j l = get_or-eq_default (list g m) 0·0 (rw (length-list g m) l)

nothing : {P : Type 0} {j : ℕ} → j < 0 → P
nothing l = let z : ⊥ = omega arith in absurd z

-- One more of those that are known before i.
more : {A : Type 0} (g f : ℕ → A) (i : ℕ) (x : A) → ((j : ℕ) → j < i → f j ≡ g j) → x ≡ g i → (j : ℕ) → j < suc i → replace i x f j ≡ g j
more g f i x known e j l = by_equal j i (λ q. rw q (replace_same i x f ∙ e)) (λ q. replace_other i x f j q ∙ known j (omega arith))

module _ (n : ℕ) (t : ℕ → ℕ → Float) (d : ℕ → Float) where
  k_beyond : (i j : ℕ) → i ≤ j → k_before n t d i j ≡ 0·0
  unfolding k_before
  k_beyond zero j l = refl
  k_beyond (suc i) j l =
      let x = h_of n t (k_before n t d i) i in
      stored_beyond (suc i) (λ j. cond (eqb j i) (x ⊘ (d i ⊕ x)) (k_before n t d i j)) j l

  k_grows : (i : ℕ) (x : Float) → i < n → x ≡ h n t d (ratio n t d) i ⊘ diagonal_of n t d i → replace i x (k_before n t d i) ≡ k_before n t d (suc i)
  k_grows i x l e =
      fun_ext (λ j. by_equal j i
      (λ q. rw q (replace_same i x (k_before n t d i) ∙ e ∙ sym (k_is n t d i l) ∙ sym (known_by n t d (suc i) i (omega arith) l)))
      (λ q. replace_other i x (k_before n t d i) j q ∙ by_order i j
      (λ g. k_beyond i j g ∙ sym (k_beyond (suc i) j (omega arith)))
      (λ g. known_by n t d i j g (omega arith) ∙ sym (known_by n t d (suc i) j (omega arith) l))))

  pub ratios_none : {a k : List Float} {kept : List Bool} → IsVector a → VectorHolds k (λ _. 0·0) → length kept ≡ 32 → RatiosTested n t d 0 true a k kept
  unfolding all k_before
  ratios_none p z q =
      record {
        vectors = record { a_is = record { long = p; is = λ j l. nothing l }; k_is = z; kept_is = mask_begins q };
        range = refl;
      }

  pub ratios_turn : {i : ℕ} {ok now : Bool} {a k a' k' : List Float} {kept kept' : List Bool} → RatiosTested n t d i ok a k kept → StageTested n t d i now a' k' kept' → RatiosTested n t d (i + 1) (ok && now) a' k' kept'
  unfolding all
  ratios_turn {i} g s =
      rw (add-one i) (record { vectors = s.vectors; range = ap₂ ◌&&◌ g.range (s.range ∙ ap (ratio_in_range n t d (ratio n t d)) (sym (zero-add i))) })

  -- The tests of stage i: where a_i is finite, so are h_i and the sum before it.
  stage_test_lem : (k : ℕ → Float) (i : ℕ) → (all (λ j. mul_in_range (t i j) (k j)) 0 i && finite (a n t d k i) && div_in_range (h n t d k i) (a n t d k i)) ≡ ratio_in_range n t d k i
  unfolding ratio_in_range a h h_of add_in_range
  stage_test_lem k i =
      same_truth (P && F && D) (P && S && U && F && D)
      (λ w.
      let f = and_r P F (and_l (P && F) D w) in
      let u = (sum-finite (d i) (h n t d k i) f).1 in
      and_i (P && S && U && F) D (and_i (P && S && U) F (and_i (P && S) U (and_i P S (and_l P F (and_l (P && F) D w))
      (total_in_range 0·0 (λ j. t i j ⊗ k j) 0 i (start-finite (sum 0·0 (λ j. t i j ⊗ k j) 0 i) (t i) (suc i) (n - suc i) u)))
      (total_in_range (sum 0·0 (λ j. t i j ⊗ k j) 0 i) (t i) (suc i) (n - suc i) u)) f) (and_r (P && F) D w))
      (λ w.
      let f = and_l (P && S && U && F) D w in
      and_i (P && F) D (and_i P F (and_l P S (and_l (P && S) U (and_l (P && S && U) F f))) (and_r (P && S && U) F f)) (and_r (P && S && U && F) D w))
    where
      P : Bool
      P = all (λ j. mul_in_range (t i j) (k j)) 0 i

      S : Bool
      S = sum_in_range 0·0 (λ j. t i j ⊗ k j) 0 i

      U : Bool
      U = sum_in_range (sum 0·0 (λ j. t i j ⊗ k j) 0 i) (t i) (suc i) (n - suc i)

      F : Bool
      F = finite (a n t d k i)

      D : Bool
      D = div_in_range (h n t d k i) (a n t d k i)

  -- Stage i: s is h_i.
  module _ {i : ℕ} {a k : List Float} {kept : List Bool} (known : RatiosBefore n t d i a k kept) (l : i < n) {b s m : Float} {ok : Bool}
      (before : Dot (t i) (vector k) 0 (i - 0) b ok) (after : s ≡ sum b (t i) (suc i) (n - suc i)) (margin : m ≡ d i) where
    sum_is : s ≡ h n t d (ratio n t d) i
    unfolding h_of h
    sum_is = after ∙ rw (before.sums, known.k_is.is, sub-zero i) (h-known_by n t d i (omega arith))

    diagonal_is : m ⊕ s ≡ diagonal_of n t d i
    diagonal_is = rw (margin, sum_is) (sym (a_is n t d (ratio n t d) i))

    products_are : ok ≡ all (λ j. mul_in_range (t i j) (ratio n t d j)) 0 i
    products_are =
        before.tests
        ∙ rw (known.k_is.is, sub-zero i) (all-below (λ j. mul_in_range (t i j) (k_before n t d i j)) (λ j. mul_in_range (t i j) (ratio n t d j)) (λ j g. ap (mul_in_range (t i j)) (known_by n t d i j g (omega arith))))

    pub stage_done_lem : {f q : Bool} {a' k' : List Float}
        → VectorHolds a' (replace i (m ⊕ s) (vector a))
        → VectorHolds k' (replace i (s ⊘ (m ⊕ s)) (vector k))
        → f ≡ finite (m ⊕ s)
        → q ≡ div_in_range s (m ⊕ s)
        → i < 32
        → StageTested n t d i (ok && f && q) a' k' (set kept i (ne s (of_bits binary64 0)))
    stage_done_lem {f} {q} va vk ef eq room =
        record {
          vectors =
              record {
                a_is = record { long = va.long; is = λ j g. ap (λ v. v j) va.is ∙ more (diagonal_of n t d) (vector a) i (m ⊕ s) known.a_is.is diagonal_is j g };
                kept_is = mask_turns known.kept_is room (not-zero s ∙ rw sum_is (sym (kept_is n t d (ratio n t d) i)));
                k_is = record { long = vk.long; is = vk.is ∙ rw known.k_is.is (k_grows i (s ⊘ (m ⊕ s)) l (ap₂ ◌⊘◌ sum_is diagonal_is)) };
              };
          range = rw (products_are, ef, eq, diagonal_is, sum_is) (stage_test_lem (ratio n t d) i);
        }
