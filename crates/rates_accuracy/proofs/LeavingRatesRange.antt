-- What "in range" says, test by test: each test of the steps from the truth of all of them.
use Prim.Native.Nat.{ℕ, suc, ◌+◌, ◌-◌, ◌≤◌, ◌<◌}
use mathlib.Core.Bool.{Bool, ◌&&◌, ◌||◌}
use mathlib.Core.Path.{◌≡◌, subst}
use mathlib.Core.Logic.{◌≢◌}
use native.Mathlib.Omega.{arith}
use lib.Dec.{T, eqb, eqb→eq}
use lib.Ieee.Fits.{and_l, and_r}
use Rattle.exact.specs.Chains.{In}
use Rattle.definitions.specs.Numbers.{div_in_range, add_product_in_range, all}
use Rattle.definitions.specs.LeavingRates.{System, pivot_in_range, p, u, m↓, m↑, b↓, b↑, solved, row_in_range, stage_in_range, shared_before, shared, column_before, column_upward, column, in_range}
use Rattle.exact.proofs.Bools.{or_not}
use Rattle.steps.proofs.All.{each}

-- The tests of stage k, with m stages after it: those of row i, and those of the pivot and of all rows.
pub record RowRange (r : ℕ) (at : ℕ → System) (k m i : ℕ) : Type 0 where
  pub division : T (div_in_range ((at k).t i k) (p r at k))
  pub exit : T (add_product_in_range ((at k).s i) (m↓ r at k i) ((at k).s k))
  pub size : (j : ℕ) → In (suc k) m j → i ≢ j → T (add_product_in_range ((at k).t i j) (m↓ r at k i) ((at k).t k j))

pub record StageRange (r : ℕ) (at : ℕ → System) (k m : ℕ) : Type 0 where
  pub pivot : T (pivot_in_range r (at k) k)
  pub row : (i : ℕ) → In (suc k) m i → RowRange r at k m i

module _ (r : ℕ) (at : ℕ → System) where
  row_range : (k m i : ℕ) → r - suc k ≡ m → T (row_in_range r at k i) → RowRange r at k m i
  unfolding row_in_range
  row_range k m i e t =
      let division = div_in_range ((at k).t i k) (p r at k) in
      let exit = add_product_in_range ((at k).s i) (m↓ r at k i) ((at k).s k) in
      let place : ℕ → Bool = λ j. add_product_in_range ((at k).t i j) (m↓ r at k i) ((at k).t k j) in
      let size : ℕ → Bool = λ j. eqb i j || place j in
      let sizes = all size (suc k) (r - suc k) in
      record {
        division = and_l division exit (and_l (division && exit) sizes t);
        exit = and_r division exit (and_l (division && exit) sizes t);
        size =
            λ j l n.
            or_not (eqb i j) (place j)
            (λ same. n (eqb→eq i j same))
            (each size (suc k) m j (subst (λ x. T (all size (suc k) x)) e (and_r (division && exit) sizes t)) l.low l.high);
      }

  pub stage_range : (q k m : ℕ) → suc (k + m) ≡ r → k < q → T (shared_before r at q) → StageRange r at k m
  unfolding shared_before stage_in_range
  stage_range q k m e l t =
      let c : r - suc k ≡ m = omega arith in
      let pivot = pivot_in_range r (at k) k in
      let rows = all (row_in_range r at k) (suc k) (r - suc k) in
      let here : T (pivot && rows) = each (stage_in_range r at) 0 q k t (omega arith) (omega arith) in
      record {
        pivot = and_l pivot rows here;
        row =
            λ i li.
            row_range k m i c
            (each (row_in_range r at k) (suc k) m i (subst (λ x. T (all (row_in_range r at k) (suc k) x)) c (and_r pivot rows here)) li.low li.high);
      }

  -- The stages before r, and the upward multipliers.
  upward_multipliers : Bool
  upward_multipliers = all (λ k. all (λ i. div_in_range (u r at i k) (p r at k)) 0 k) 0 r

  pub downward-shared : T (shared r at) → T (shared_before r at r)
  unfolding shared upward_multipliers
  downward-shared t = and_l (shared_before r at r) upward_multipliers t

  pub upward_division : T (shared r at) → (i k : ℕ) → i < k → k < r → T (div_in_range ((at i).t i k) (p r at k))
  unfolding shared u upward_multipliers
  upward_division t i k l h =
      let column = each (λ k. all (λ i. div_in_range (u r at i k) (p r at k)) 0 k) 0 r k (and_r (shared_before r at r) upward_multipliers t) (omega arith) (omega arith) in
      each (λ i. div_in_range (u r at i k) (p r at k)) 0 k i column (omega arith) (omega arith)

  -- Column j: the downward stages, the upward stages, the last division.
  module _ (j : ℕ) where
    last_divisions : Bool
    last_divisions = all (λ i. div_in_range (solved r at j i) (p r at i)) 0 r

    pub downward-column : T (column r at j) → T (column_before r at j r)
    unfolding column last_divisions
    downward-column t =
        and_l (column_before r at j r) (column_upward r at j r)
        (and_l (column_before r at j r && column_upward r at j r) last_divisions t)

    pub upward_column : T (column r at j) → T (column_upward r at j r)
    unfolding column last_divisions
    upward_column t =
        and_r (column_before r at j r) (column_upward r at j r)
        (and_l (column_before r at j r && column_upward r at j r) last_divisions t)

    pub last-division : T (column r at j) → (i : ℕ) → i < r → T (div_in_range (solved r at j i) (p r at i))
    unfolding column last_divisions
    last-division t i h =
        each (λ i. div_in_range (solved r at j i) (p r at i)) 0 r i (and_r (column_before r at j r && column_upward r at j r) last_divisions t) (omega arith) (omega arith)

    pub column-down :
        (q k i : ℕ) → T (column_before r at j q) → j ≤ k → k < q → k < i → i < r
        → T (add_product_in_range (b↓ r at j k i) (m↓ r at k i) (b↓ r at j k k))
    unfolding column_before
    column-down q k i t h l n m =
        let row : ℕ → ℕ → Bool = λ k i. add_product_in_range (b↓ r at j k i) (m↓ r at k i) (b↓ r at j k k) in
        each (row k) (suc k) (r - suc k) i (each (λ k. all (row k) (suc k) (r - suc k)) j (q - j) k t (omega arith) (omega arith)) (omega arith) (omega arith)

    pub column-up :
        (q l i : ℕ) → T (column_upward r at j q) → l < q → i < r - suc l
        → T (add_product_in_range (b↑ r at j l i) (m↑ r at (r - suc l) i) (b↑ r at j l (r - suc l)))
    unfolding column_upward
    column-up q l i t h n =
        let row : ℕ → ℕ → Bool = λ l i. add_product_in_range (b↑ r at j l i) (m↑ r at (r - suc l) i) (b↑ r at j l (r - suc l)) in
        each (row l) 0 (r - suc l) i (each (λ l. all (row l) 0 (r - suc l)) 0 q l t (omega arith) (omega arith)) (omega arith) (omega arith)

  -- All of it, for the whole table.
  pub table-shared : T (in_range r at) → T (shared r at)
  unfolding in_range
  table-shared t = and_l (shared r at) (all (column r at) 0 r) t

  pub table-column : T (in_range r at) → (j : ℕ) → j < r → T (column r at j)
  unfolding in_range
  table-column t j h = each (column r at) 0 r j (and_r (shared r at) (all (column r at) 0 r) t) (omega arith) (omega arith)
