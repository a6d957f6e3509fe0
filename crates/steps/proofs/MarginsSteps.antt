-- The equations of the steps for margins, one line each.
use Prim.Native.Nat.{ℕ, zero, suc, ◌+◌, ◌-◌, ◌<◌, ◌≤◌}
use mathlib.Core.Bool.{Bool, true, false, not, cond, ◌||◌, or-true, or-false}
use mathlib.Core.Path.{◌≡◌, refl, sym, ap, ◌∙◌}
use native.Mathlib.Nat.{add-zero, add-suc}
use native.Mathlib.Omega.{arith}
use lib.Dec.{leb, eqb}
use lib.ListN.{get_or}
use lib.Ieee.{Float}
use borrow.Author.Tests.{eq-eqb, ne_eqb, le-leb, lt-leb}
use Rattle.exact.proofs.Cases.{by_order}
use Rattle.definitions.specs.Numbers.{◌⊕◌, ◌⊗◌, ◌⊘◌, 0·0, 1·0, sum, is_zero}
use Rattle.definitions.specs.LeavingRates.{none, downward, quotient}
use Rattle.definitions.specs.Compact.{stages_with, rank}
use Rattle.definitions.specs.Margins.{sum_with, h_of, k_before, h, a, kept, scaled, kept_system, y, known, joined, x_after, entry}
use Rattle.steps.proofs.TableLaws.{stored_at, stored_table-at}
use Rattle.steps.proofs.FloatSums.{sum_same}
use Rattle.steps.proofs.CompactOrder.{compact-size, compact_exit, compact-weights}

module _ (n : ℕ) (t : ℕ → ℕ → Float) (d : ℕ → Float) where
  -- The k_j as they become known: the newest one, and the earlier ones as they were.
  before_last :
      (i : ℕ) → k_before n t d (suc i) i ≡ h_of n t (k_before n t d i) i ⊘ (d i ⊕ h_of n t (k_before n t d i) i)
  unfolding k_before
  before_last i =
      let h = h_of n t (k_before n t d i) i in
      stored_at 0·0 (suc i) (λ j. cond (eqb j i) (h ⊘ (d i ⊕ h)) (k_before n t d i j)) i (omega arith)
      ∙ ap (λ b. cond b (h ⊘ (d i ⊕ h)) (k_before n t d i i)) (eq-eqb i i refl)

  before_same : (i j : ℕ) → j < i → k_before n t d (suc i) j ≡ k_before n t d i j
  unfolding k_before
  before_same i j e =
      let h = h_of n t (k_before n t d i) i in
      stored_at 0·0 (suc i) (λ j. cond (eqb j i) (h ⊘ (d i ⊕ h)) (k_before n t d i j)) j (omega arith)
      ∙ ap (λ b. cond b (h ⊘ (d i ⊕ h)) (k_before n t d i j)) (ne_eqb j i (λ q. omega arith))

  before_later : (i e j : ℕ) → j < i → k_before n t d (i + e) j ≡ k_before n t d i j
  before_later i zero j g = rw add-zero
  before_later i (suc e) j g = rw add-suc (before_same (i + e) j (omega arith) ∙ before_later i e j g)

  -- A k_j that is known by stage i is the k_j of the whole sheet.
  pub known_by : (i j : ℕ) → j < i → i ≤ n → k_before n t d i j ≡ k_before n t d n j
  known_by i j g l =
      let e : i + (n - i) ≡ n = omega arith in
      sym (rw e at (before_later i (n - i) j g))

  pub h-known_by : (i : ℕ) → i ≤ n → h_of n t (k_before n t d i) i ≡ h_of n t (k_before n t d n) i
  unfolding h_of
  h-known_by i l =
      ap (λ x. sum x (t i) (suc i) (n - suc i))
      (sum_same 0·0 0·0 (λ j. t i j ⊗ k_before n t d i j) (λ j. t i j ⊗ k_before n t d n j) 0 i refl
      (λ j m g. ap (λ x. t i j ⊗ x) (known_by i j (omega arith) l)))

  -- "a_i = d_i + h_i; k_i = h_i / a_i"
  pub k_is : (i : ℕ) → i < n → k_before n t d n i ≡ h n t d (k_before n t d n) i ⊘ a n t d (k_before n t d n) i
  unfolding h a
  k_is i g =
      sym (known_by (suc i) i (omega arith) g)
      ∙ before_last i
      ∙ ap (λ x. x ⊘ (d i ⊕ x)) (h-known_by i (omega arith))

module _ (n : ℕ) (t : ℕ → ℕ → Float) (d : ℕ → Float) (k : ℕ → Float) where
  pub h_is : (i : ℕ) → h n t d k i ≡ sum (sum 0·0 (λ j. t i j ⊗ k j) 0 i) (t i) (suc i) (n - suc i)
  unfolding h h_of
  h_is i = refl

  pub a_is : (i : ℕ) → a n t d k i ≡ d i ⊕ h n t d k i
  unfolding a
  a_is i = refl

  pub kept_is : (i : ℕ) → kept n t d k i ≡ not (is_zero (h n t d k i))
  unfolding kept
  kept_is i = refl

  -- The kept stages in compact order.
  pub kept-size :
      (p q : ℕ) → p < rank (kept n t d k) n → q < rank (kept n t d k) n
      → (kept_system n t d k).t p q ≡ t (get_or (stages_with (kept n t d k) n) p 0) (get_or (stages_with (kept n t d k) n) q 0) ⊗ k (get_or (stages_with (kept n t d k) n) q 0)
  unfolding kept_system scaled
  kept-size p q bp bq = compact-size (kept n t d k) n (scaled n t d k) p q bp bq

  pub kept_exit :
      (p : ℕ) → p < rank (kept n t d k) n
      → (kept_system n t d k).s p
      ≡ (let i = get_or (stages_with (kept n t d k) n) p 0 in sum 0·0 (λ j. t i j ⊗ (d j ⊘ a n t d k j)) (suc i) (n - suc i))
  unfolding kept_system scaled
  kept_exit p bp = compact_exit (kept n t d k) n (scaled n t d k) p bp

  pub kept-weights : (kept_system n t d k).z ≡ none
  unfolding kept_system scaled
  kept-weights = compact-weights (kept n t d k) n (scaled n t d k)

  pub y_is :
      (i j : ℕ)
      → y n t d k i j
      ≡ quotient (rank (kept n t d k) n) (downward (rank (kept n t d k) n) (kept_system n t d k)) (rank (kept n t d k) i) (rank (kept n t d k) j)
  unfolding y
  y_is i j = refl

  -- The way back, and a stage that joins.
  pub x-start : (i j : ℕ) → i < n → j < n → x_after n t d k 0 i j ≡ k i ⊗ y n t d k i j
  unfolding x_after
  x-start i j hi hj = stored_table-at 0·0 n (λ i j. k i ⊗ y n t d k i j) i j hi hj

  pub x-kept : (q : ℕ) → kept n t d k (n - suc q) ≡ true → x_after n t d k (suc q) ≡ x_after n t d k q
  unfolding x_after
  x-kept q e = rw (e, x_after)

  joins : (q i j : ℕ) → kept n t d k (n - suc q) ≡ false → i < n → j < n → x_after n t d k (suc q) i j ≡ joined n t d k q (x_after n t d k q) i j
  unfolding x_after
  joins q i j e hi hj = rw (e, x_after) (stored_table-at 0·0 n (joined n t d k q (x_after n t d k q)) i j hi hj)

  -- "x_kk = 1 / a_k; x_kj = 0 for known j; for known i, x_ik sums x_ij·(t_jk / a_k) over known j", with k = n - 1 - q.
  module _ (q : ℕ) (left : kept n t d k (n - suc q) ≡ false) where
    pub join_corner : (i : ℕ) → i ≡ n - suc q → i < n → x_after n t d k (suc q) i i ≡ 1·0 ⊘ a n t d k i
    unfolding joined
    join_corner i e hi =
        joins q i i left hi hi ∙ (rw (eq-eqb i (n - suc q) e, joined) (ap (λ c. 1·0 ⊘ a n t d k c) (sym e)))

    pub join_row : (i j : ℕ) → i ≡ n - suc q → ¬ (j ≡ n - suc q) → i < n → j < n → x_after n t d k (suc q) i j ≡ 0·0
    unfolding joined
    join_row i j e f hi hj = joins q i j left hi hj ∙ (rw (eq-eqb i (n - suc q) e, ne_eqb j (n - suc q) f, joined))

    pub join_column :
        (i j : ℕ) → ¬ (i ≡ n - suc q) → j ≡ n - suc q → i < n → j < n
        → x_after n t d k (suc q) i j
        ≡ sum_with (known n t d k q) (λ l. x_after n t d k q i l ⊗ (t l (n - suc q) ⊘ a n t d k (n - suc q))) n
    unfolding joined
    join_column i j e f hi hj = joins q i j left hi hj ∙ (rw (ne_eqb i (n - suc q) e, eq-eqb j (n - suc q) f, joined))

    pub join_other :
        (i j : ℕ) → ¬ (i ≡ n - suc q) → ¬ (j ≡ n - suc q) → i < n → j < n
        → x_after n t d k (suc q) i j ≡ x_after n t d k q i j
    unfolding joined
    join_other i j e f hi hj = joins q i j left hi hj ∙ (rw (ne_eqb i (n - suc q) e, ne_eqb j (n - suc q) f, joined))

  -- The known stages: the kept ones, and those from n - q on.
  pub known_is : (q i : ℕ) → known n t d k q i ≡ (kept n t d k i || leb (n - q) i)
  unfolding known
  known_is q i = refl

  known_by_test : (q i : ℕ) {b : Bool} → leb (n - q) i ≡ b → known n t d k q i ≡ (kept n t d k i || b)
  known_by_test q i e = known_is q i ∙ ap (λ b. kept n t d k i || b) e

  pub known_from : (q i : ℕ) → n - q ≤ i → known n t d k q i ≡ true
  known_from q i l = known_by_test q i (le-leb (n - q) i l) ∙ or-true (kept n t d k i)

  pub known-below : (q i : ℕ) → i < n - q → known n t d k q i ≡ kept n t d k i
  known-below q i l = known_by_test q i (lt-leb (n - q) i l) ∙ or-false (kept n t d k i)

  pub known_next : (q i : ℕ) → q < n → ¬ (i ≡ n - suc q) → known n t d k (suc q) i ≡ known n t d k q i
  known_next q i b e =
      by_order (n - q) i
      (λ l. known_from (suc q) i (omega arith) ∙ sym (known_from q i l))
      (λ l. known-below (suc q) i (omega arith) ∙ sym (known-below q i l))

pub entry_is : (n : ℕ) (t : ℕ → ℕ → Float) (d : ℕ → Float) → entry n t d ≡ x_after n t d (k_before n t d n) n
unfolding entry
entry_is n t d = refl
