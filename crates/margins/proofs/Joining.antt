-- A stage that joins a table that is right at the known stages leaves it right at those and at itself; and its tests are document 01's.
use mathlib.Core.Path.{◌≡◌, refl, sym, ap, ap₂, ◌∙◌}
use Prim.Native.Nat.{ℕ, zero, suc, ◌-◌, ◌≤◌, ◌<◌}
use native.Mathlib.Omega.{arith}
use mathlib.Core.List.{List}
use lib.Dec.{T, leb}
use lib.Ieee.{Float}
use lib.Ieee.Fits.{and_i, and_r}
use borrow.Author.Tests.{le-leb, lt-leb}
use Rattle.exact.proofs.Cases.{by_equal, by_order, by_bool}
use Rattle.exact.proofs.Bools.{if_same, and_assoc, same_truth}
use mathlib.Core.Bool.{and-true, or-true, Bool, true, false, not, ◌&&◌, ◌||◌}
use Rattle.definitions.specs.Numbers.{◌⊕◌, ◌⊗◌, ◌⊘◌, 0·0, 1·0, finite, add_in_range, mul_in_range, div_in_range, all}
use Rattle.definitions.specs.Margins.{sum_with, sum_with_in_range, known, x_after, join_in_range}
use Rattle.rounding.proofs.Finite.{sum-finite}
use Rattle.steps.proofs.All.{all-below}
use Rattle.steps.proofs.FloatSums.{sum_with_same}
use Rattle.steps.proofs.MarginsSteps.{known_is, x-kept, join_corner, join_row, join_column, join_other}
use Rattle.tables.specs.Vectors.{vector}
use Rattle.compact.specs.Listing.{marked, MaskOf}
use Rattle.ratios.specs.Ratios.{ratio, diagonal_of, is_kept, Diagonals}
use Rattle.joins.specs.StageJoin.{knows, factors_of, factors_in_range, place_in_range, column_in_range, joined_table, join_test}
use Rattle.joins.specs.Joins.{due_joined, due_test, stages_joined, stages_test}
use Rattle.margins.proofs.Conditions.{asked_once}
use Rattle.joins.proofs.JoinedPlaces.{factor_at, at-corner, at_row, at-column, at_other}
use Rattle.margins.specs.MarginsTable.{KnownTable}

-- ---- a finite sum over the stages that pass a test has every addition in range
module _ (test : ℕ → Bool) (f : ℕ → Float) where
  finite_in_range : (m : ℕ) → T (finite (sum_with test f m)) → T (sum_with_in_range test f m)
  unfolding sum_with sum_with_in_range add_in_range
  finite_in_range zero t = tt
  finite_in_range (suc m) t =
      by_bool (test m)
      (λ e. rw e (let w = rw e at t in and_i (sum_with_in_range test f m) (finite (sum_with test f m ⊕ f m)) (finite_in_range m (sum-finite (sum_with test f m) (f m) w).0) w))
      (λ e. rw (e, and-true) (finite_in_range m (rw e at t)))

  in_range-finite : (m : ℕ) → T (sum_with_in_range test f m) → T (finite (sum_with test f m))
  unfolding sum_with sum_with_in_range add_in_range finite
  in_range-finite zero t = tt
  in_range-finite (suc m) t =
      by_bool (test m)
      (λ e. rw e (and_r (sum_with_in_range test f m) (finite (sum_with test f m ⊕ f m)) (rw e at t)))
      (λ e. rw e (in_range-finite m (rw (e, and-true) at t)))

  finite_test : (m : ℕ) → finite (sum_with test f m) ≡ sum_with_in_range test f m
  finite_test m = same_truth (finite (sum_with test f m)) (sum_with_in_range test f m) (finite_in_range m) (in_range-finite m)

module _ (n : ℕ) (t : ℕ → ℕ → Float) (d : ℕ → Float) where
  is_known : ℕ → ℕ → Bool
  is_known = known n t d (ratio n t d)

  x : ℕ → ℕ → ℕ → Float
  x = x_after n t d (ratio n t d)

  -- ---- the stages that are known
  module _ (q : ℕ) (l : q < n) where
    above_same : (i : ℕ) → (i ≡ n - suc q → ⊥) → leb (n - suc q) i ≡ leb (n - q) i
    above_same i m =
        by_order (n - q) i
        (λ g. le-leb (n - suc q) i (omega arith) ∙ sym (le-leb (n - q) i g))
        (λ g. lt-leb (n - suc q) i (omega arith) ∙ sym (lt-leb (n - q) i g))

    -- Once the stage that is due has joined, the known stages are those before and itself.
    known_before : (i : ℕ) → (i ≡ n - suc q → ⊥) → is_known (suc q) i ≡ is_known q i
    unfolding is_known
    known_before i m =
        known_is n t d (ratio n t d) (suc q) i
        ∙ ap (λ b. is_kept n t d i || b) (above_same i m)
        ∙ sym (known_is n t d (ratio n t d) q i)

    kept-known : (i : ℕ) → is_kept n t d i ≡ true → is_known q i ≡ true
    unfolding is_known
    kept-known i e = known_is n t d (ratio n t d) q i ∙ ap (λ b. b || leb (n - q) i) e

    -- A kept stage is known already.
    kept_due : {f : ℕ → ℕ → Float} → is_kept n t d (n - suc q) ≡ true → KnownTable n t d q f → KnownTable n t d (suc q) f
    unfolding is_known
    kept_due e k =
        record {
          right = λ i j u v s o. k.right i j u v (before i s) (before j o) ∙ sym (ap (λ x. x i j) (x-kept n t d (ratio n t d) q e));
        }
      where
        before : (i : ℕ) → is_known (suc q) i ≡ true → is_known q i ≡ true
        before i s = by_equal i (n - suc q) (λ g. rw g (kept-known (n - suc q) e)) (λ m. sym (known_before i m) ∙ s)

  -- ---- by the vectors a and kept
  module _ {a : List Float} {kept : List Bool} (diagonals : Diagonals n t d n a) (mask : MaskOf (is_kept n t d) n kept) (q : ℕ) (l : q < n) {f : ℕ → ℕ → Float} (k : KnownTable n t d q f) where
    c : ℕ
    c = n - suc q

    K : ℕ → Bool
    K = knows c (marked kept)

    p : Float
    p = vector a c

    w : ℕ → Float
    w = factors_of n K (λ l. t l c) p (λ _. 0·0)

    c-below : c < n
    unfolding c
    c-below = omega arith

    known_now : (i : ℕ) → i < n → K i ≡ is_known q i
    unfolding K knows is_known c
    known_now i m =
        let e : suc (n - suc q) ≡ n - q = omega arith in
        ap₂ ◌||◌ (mask.is i m) (ap (λ (k : ℕ). leb k i) e) ∙ sym (known_is n t d (ratio n t d) q i)

    diagonal_is : p ≡ diagonal_of n t d c
    unfolding p
    diagonal_is = diagonals.is c c-below

    factor_is : (i : ℕ) → i < n → w i ≡ t i c ⊘ diagonal_of n t d c
    unfolding w
    factor_is i m = factor_at n K c (λ l. t l c) p f i m ∙ ap (λ z. t i c ⊘ z) diagonal_is

    term_is : (i j : ℕ) → i < n → is_known q i ≡ true → j < n → is_known q j ≡ true → f i j ⊗ w j ≡ x q i j ⊗ (t j c ⊘ diagonal_of n t d c)
    unfolding is_known x
    term_is i j u s v o = ap₂ ◌⊗◌ (k.right i j u v s o) (factor_is j v)

    -- The table.
    now_right : is_kept n t d c ≡ false → (i j : ℕ) → i < n → j < n → is_known (suc q) i ≡ true → is_known (suc q) j ≡ true → joined_table n K c (λ l. t l c) p f i j ≡ x (suc q) i j
    unfolding x c is_known w
    now_right left i j u v s o =
        by_equal i c
        (λ e. by_equal j c
        (λ h. rw (e, h) (at-corner n K c (λ l. t l c) p f ∙ ap (λ z. 1·0 ⊘ z) diagonal_is ∙ sym (join_corner n t d (ratio n t d) q left c refl c-below)))
        (λ h. rw e (at_row n K c (λ l. t l c) p f j h v ∙ sym (join_row n t d (ratio n t d) q left c j refl h c-below v))))
        (λ e. by_equal j c
        (λ h. rw h (column e ∙ sym (join_column n t d (ratio n t d) q left i c e refl u c-below)))
        (λ h. at_other n K c (λ l. t l c) p f i j e h u ∙ k.right i j u v (before i e s) (before j h o) ∙ sym (join_other n t d (ratio n t d) q left i j e h u v)))
      where
        before : (i : ℕ) → (i ≡ c → ⊥) → is_known (suc q) i ≡ true → is_known q i ≡ true
        before i m e = sym (known_before q l i m) ∙ e

        column : (i ≡ c → ⊥) → joined_table n K c (λ l. t l c) p f i c ≡ sum_with (is_known q) (λ l. x q i l ⊗ (t l c ⊘ diagonal_of n t d c)) n
        column e =
            at-column n K c (λ l. t l c) p f i e u (known_now i u ∙ before i e s)
            ∙ sum_with_same {test = K} n known_now (λ l m h. term_is i l u (before i e s) m h)

    -- The tests.
    divisions : all (λ l. not (K l) || div_in_range (t l c) p) 0 n ≡ all (λ l. not (is_known q l) || div_in_range (t l c) (diagonal_of n t d c)) 0 n
    divisions = all-below _ _ (λ l m. if_same (known_now l m) (λ e. ap (div_in_range (t l c)) diagonal_is))

    products : (i : ℕ) → i < n → is_known q i ≡ true
        → all (λ l. not (K l) || mul_in_range (f i l) (w l)) 0 n ≡ all (λ l. not (is_known q l) || mul_in_range (x q i l) (t l c ⊘ diagonal_of n t d c)) 0 n
    unfolding is_known x
    products i u s = all-below _ _ (λ l m. if_same (known_now l m) (λ e. ap₂ mul_in_range (k.right i l u m s e) (factor_is l m)))

    row_is : (i : ℕ) → i < n → (not (K i) || place_in_range n K w (f i))
        ≡ (not (is_known q i) || (all (λ l. not (is_known q l) || mul_in_range (x q i l) (t l c ⊘ diagonal_of n t d c)) 0 n && sum_with_in_range (is_known q) (λ l. x q i l ⊗ (t l c ⊘ diagonal_of n t d c)) n))
    unfolding place_in_range
    row_is i u =
        if_same (known_now i u) (λ s. ap₂ ◌&&◌ (products i u s)
        (ap finite (sum_with_same {test = K} n known_now (λ l m e. term_is i l u s m e)) ∙ finite_test (is_known q) (λ l. x q i l ⊗ (t l c ⊘ diagonal_of n t d c)) n))

    now_tests : join_test n K (λ l. t l c) p f ≡ join_in_range n t d (ratio n t d) q (x q)
    unfolding join_test factors_in_range column_in_range join_in_range w is_known c
    now_tests =
        sym (and_assoc (div_in_range 1·0 p) (all (λ l. not (K l) || div_in_range (t l c) p) 0 n) (all (λ i. not (K i) || place_in_range n K w (f i)) 0 n))
        ∙ ap₂ ◌&&◌ (ap (div_in_range 1·0) diagonal_is)
        (ap₂ ◌&&◌ divisions (all-below _ _ row_is)
        ∙ asked_once n (is_known q) (λ l. div_in_range (t l c) (diagonal_of n t d c)) (λ i l. mul_in_range (x q i l) (t l c ⊘ diagonal_of n t d c)) (λ i. sum_with_in_range (is_known q) (λ l. x q i l ⊗ (t l c ⊘ diagonal_of n t d c)) n))

    -- The stage that is due: kept, or joined.
    due_kept : marked kept c ≡ is_kept n t d c
    due_kept = mask.is c c-below

    due_right : KnownTable n t d (suc q) (due_joined n t (vector a) (marked kept) q f)
    unfolding due_joined c K p is_known x
    due_right =
        by_bool (is_kept n t d c)
        (λ e. rw (due_kept, e) (kept_due q l e k))
        (λ e. rw (due_kept, e) (record { right = now_right e }))

    due_tests : due_test n t (vector a) (marked kept) q f ≡ (is_kept n t d (n - suc q) || join_in_range n t d (ratio n t d) q (x_after n t d (ratio n t d) q))
    unfolding due_test c K p x
    due_tests = ap₂ ◌||◌ due_kept now_tests

  -- ---- the stages one after another
  module _ {a : List Float} {kept : List Bool} (diagonals : Diagonals n t d n a) (mask : MaskOf (is_kept n t d) n kept) {f : ℕ → ℕ → Float} (k : KnownTable n t d 0 f) where
    joined_right : (q : ℕ) → q ≤ n → KnownTable n t d q (stages_joined n t (vector a) (marked kept) f q)
    unfolding stages_joined
    joined_right zero l = k
    joined_right (suc q) l = due_right diagonals mask q l (joined_right q (omega arith))

    -- In the end every stage is known.
    at_last : (i : ℕ) → known n t d (ratio n t d) n i ≡ true
    at_last i = known_is n t d (ratio n t d) n i ∙ ap (λ b. is_kept n t d i || b) (le-leb (n - n) i (omega arith)) ∙ or-true (is_kept n t d i)

    pub joined-whole-table : (i j : ℕ) → i < n → j < n → stages_joined n t (vector a) (marked kept) f n i j ≡ x_after n t d (ratio n t d) n i j
    joined-whole-table i j u v = (joined_right n (omega arith)).right i j u v (at_last i) (at_last j)

    pub joined-tests : stages_test n t (vector a) (marked kept) f n ≡ all (λ q. is_kept n t d (n - suc q) || join_in_range n t d (ratio n t d) q (x_after n t d (ratio n t d) q)) 0 n
    unfolding stages_test
    joined-tests = all-below _ _ (λ q l. due_tests diagonals mask q l (joined_right q (omega arith)))
