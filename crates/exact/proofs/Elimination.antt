-- Elimination both ways, its pivot and chains, and so the existence of a solution.
use mathlib.Core.Path.{◌≡◌, refl, sym, ◌∙◌, ap, subst}
use mathlib.Core.Logic.{inl, inr}
use Prim.Native.Nat.{ℕ, zero, suc, ◌+◌, ◌*◌, ◌<◌}
use native.Mathlib.Nat.{mul-pos, eq_of_mul-eq-mul_right}
use native.Mathlib.Decide.{ℕ_discrete}
use native.Mathlib.Omega.{arith}
use lib.Dec.{T, ltb→lt, lt→ltb}
use Rattle.exact.specs.Chains.{In, GetsOut, stop, go}
use Rattle.exact.specs.Sums.{sum}
use Rattle.exact.specs.Systems.{Equations, diag, mix, RowHolds, Solves, moves, exits}
use Rattle.exact.specs.Elimination.{pivot, eliminate, Back, Elimination, EliminationGetsOut, Existence}
use Rattle.exact.proofs.Sums.{first, later, none_in, first_or_later, on_range, sum_combine, sum_cong, term≤sum}
use Rattle.exact.proofs.Systems.{mix_cong, mix_scale, mix_head, diag_head, solves_at, solves_scale}

-- The rows of the eliminated system.
module _ (k m : ℕ) (A : Equations) (i : ℕ) where
  eliminated_diag : diag (suc k) m (eliminate k m A i) ≡ ((A i).size k + diag (suc k) m (A i)) * pivot k m A
  unfolding eliminate diag pivot
  eliminated_diag =
      let c = sum_combine (A i).size (A k).size (pivot k m A) ((A i).size k) (suc k) m in
      let p : pivot k m A ≡ (A k).exit + sum (A k).size (suc k) m = refl in
      omega (arith, ap (λ t. (A i).size k * t) p)

  eliminated_mix :
      (z : ℕ → ℕ)
      → mix (suc k) m (eliminate k m A i) z
      ≡ mix (suc k) m (A i) z * pivot k m A + (A i).size k * mix (suc k) m (A k) z
  unfolding eliminate mix
  eliminated_mix z =
      let a : ℕ → ℕ = λ j. (A i).size j * z j in
      let b : ℕ → ℕ = λ j. (A k).size j * z j in
      let e : ℕ → ℕ = λ j. ((A i).size j * pivot k m A + (A i).size k * (A k).size j) * z j in
      sum_cong e (λ j. a j * pivot k m A + (A i).size k * b j) (suc k) m (λ j l. omega arith)
      ∙ sum_combine a b (pivot k m A) ((A i).size k) (suc k) m

-- Row i before and after the step, and row k, which is the way between them.
module _ (k m : ℕ) (A : Equations) (d : ℕ) (z : ℕ → ℕ) where
  row_back : RowHolds k (suc m) (A k) d z k → Back k m A d z
  unfolding Back pivot
  row_back s = omega (arith, rw (diag_head k m (A k), mix_head k m (A k) z) at s)

  back_row : Back k m A d z → RowHolds k (suc m) (A k) d z k
  unfolding Back pivot
  back_row b = rw (diag_head k m (A k), mix_head k m (A k) z) (omega arith)

  module _ (back : Back k m A d z) (i : ℕ) where
    eliminated_row_lem : RowHolds k (suc m) (A i) d z i → RowHolds (suc k) m (eliminate k m A i) d z i
    unfolding Back eliminate
    eliminated_row_lem s =
        let s' = rw (diag_head k m (A i), mix_head k m (A i) z) at s in
        let e = ap (λ y. y * pivot k m A) s' in
        let f = ap (λ y. (A i).size k * y) back in
        rw (eliminated_diag k m A i, eliminated_mix k m A i z) (omega arith)

    restored_row : 0 < pivot k m A → RowHolds (suc k) m (eliminate k m A i) d z i → RowHolds k (suc m) (A i) d z i
    unfolding Back eliminate
    restored_row p s =
        let s' = rw (eliminated_diag k m A i, eliminated_mix k m A i z) at s in
        let f = ap (λ y. (A i).size k * y) back in
        let left = ((A i).size k + diag (suc k) m (A i)) * z i in
        let right = (A i).right * d + ((A i).size k * z k + mix (suc k) m (A i) z) in
        rw (diag_head k m (A i), mix_head k m (A i) z)
        (eq_of_mul-eq-mul_right (pivot k m A) p left right (omega arith))

  reduced : Solves k (suc m) A d z → Solves (suc k) m (eliminate k m A) d z × Back k m A d z
  reduced s =
      let back = row_back (s.row k first) in
      (record { row = λ i l. eliminated_row_lem back i (s.row i (later l)) }, back)

  restored : 0 < pivot k m A → Solves (suc k) m (eliminate k m A) d z × Back k m A d z → Solves k (suc m) A d z
  restored p (s, back) =
      let tail : (i : ℕ) → In (suc k) m i → RowHolds k (suc m) (A i) d z i = λ i l. restored_row back i p (s.row i l) in
      record { row = on_range (λ i. RowHolds k (suc m) (A i) d z i) (back_row back) tail }

pub elimination : Elimination
unfolding Elimination
elimination k m A d z p = (reduced k m A d z, restored k m A d z p)

-- Whichever way a chain leaves k, something of the pivot is not zero.
pivot-pos : (k m : ℕ) (A : Equations) {i : ℕ} → GetsOut k (suc m) (moves A) (exits A) i → k ≡ i → 0 < pivot k m A
unfolding pivot diag
pivot-pos k m A (stop {i = i} t) e =
    let p : 0 < (A k).exit = subst (λ x. 0 < (A x).exit) (sym e) (ltb→lt zero (A i).exit t) in
    omega arith
pivot-pos k m A (go {i = i} {j = j} t n c) e =
    elim (first_or_later n) [
      | inl f ↦ pivot-pos k m A c f
      | inr l ↦
          let p : 0 < (A k).size j = subst (λ x. 0 < (A x).size j) (sym e) (ltb→lt zero ((A i).size j) t) in
          omega (arith, term≤sum (A k).size (suc k) m j l)
    ]

-- A move or an exit stays, and so does one by way of k.
module _ (k m : ℕ) (A : Equations) (p : 0 < pivot k m A) (i : ℕ) where
  move_stays : (j : ℕ) → 0 < (A i).size j → T (moves (eliminate k m A) i j)
  unfolding eliminate
  move_stays j a = lt→ltb zero ((A i).size j * pivot k m A + (A i).size k * (A k).size j) (omega (arith, mul-pos a p))

  move_by_way : (j : ℕ) → 0 < (A i).size k → 0 < (A k).size j → T (moves (eliminate k m A) i j)
  unfolding eliminate
  move_by_way j a b = lt→ltb zero ((A i).size j * pivot k m A + (A i).size k * (A k).size j) (omega (arith, mul-pos a b))

  exit_stays : 0 < (A i).exit → T (exits (eliminate k m A) i)
  unfolding eliminate
  exit_stays a = lt→ltb zero ((A i).exit * pivot k m A + (A i).size k * (A k).exit) (omega (arith, mul-pos a p))

  exit_by_way : 0 < (A i).size k → 0 < (A k).exit → T (exits (eliminate k m A) i)
  unfolding eliminate
  exit_by_way a b = lt→ltb zero ((A i).exit * pivot k m A + (A i).size k * (A k).exit) (omega (arith, mul-pos a b))

-- From a stage after k there is a chain around k; from k there is one for every stage that moves to k.
module _ (k m : ℕ) (A : Equations) (p : 0 < pivot k m A) where
  abbrev Out : ℕ → Type 0
  Out i = GetsOut (suc k) m (moves (eliminate k m A)) (exits (eliminate k m A)) i

  around :
      {i : ℕ} → GetsOut k (suc m) (moves A) (exits A) i
      → (In (suc k) m i → Out i) × (k ≡ i → (l : ℕ) → In (suc k) m l → 0 < (A l).size k → Out l)
  around (stop {i = i} t) =
      let e : 0 < (A i).exit = ltb→lt zero (A i).exit t in
      let e' : k ≡ i → 0 < (A k).exit = λ q. subst (λ x. 0 < (A x).exit) (sym q) e in
      ((λ n. stop (exit_stays k m A p i e)), (λ q l n a. stop (exit_by_way k m A p l a (e' q))))
  around (go {i = i} {j = j} t n c) =
      let (after, at) = around c in
      let s : 0 < (A i).size j = ltb→lt zero ((A i).size j) t in
      let s' : k ≡ i → 0 < (A k).size j = λ q. subst (λ x. 0 < (A x).size j) (sym q) s in
      elim (first_or_later n) [
        | inl f ↦ ((λ ni. at f i ni (subst (λ x. 0 < (A i).size x) (sym f) s)), (λ q. at f))
        | inr nj ↦ (
          (λ ni. go (move_stays k m A p i j s) nj (after nj)),
          (λ q l nl a. go (move_by_way k m A p l j a (s' q)) nj (after nj)),
        )
      ]

pub elimination_gets_out : EliminationGetsOut
unfolding EliminationGetsOut
elimination_gets_out k m A o =
    let p = pivot-pos k m A (o.out k first) refl in
    (p, record { out = λ i l. (around k m A p (o.out i (later l))).0 l })

-- The solution of the eliminated system over d, with z_k before it, over d times the pivot.
module _ (k m : ℕ) (A : Equations) (d : ℕ) (z : ℕ → ℕ) where
  entry : (i : ℕ) → Dec (k ≡ i) → ℕ
  entry i (yes e) = (A k).right * d + mix (suc k) m (A k) z
  entry i (no n) = z i * pivot k m A

  extend : ℕ → ℕ
  extend i = entry i (ℕ_discrete k i)

  extend_first : extend k ≡ (A k).right * d + mix (suc k) m (A k) z
  unfolding extend entry
  extend_first = elim (ℕ_discrete k k) as (λ t. entry k t ≡ (A k).right * d + mix (suc k) m (A k) z) [
    | yes e ↦ refl
    | no n ↦ absurd (n refl)
  ]

  extend_later : (i : ℕ) → In (suc k) m i → z i * pivot k m A ≡ extend i
  unfolding extend entry
  extend_later i l = elim (ℕ_discrete k i) as (λ t. z i * pivot k m A ≡ entry i t) [
    | yes e ↦ absurd (omega arith)
    | no n ↦ refl
  ]

  extend_back : Back k m A (d * pivot k m A) extend
  unfolding Back
  extend_back =
      let a = mix_cong (suc k) m (A k) (λ i. z i * pivot k m A) extend extend_later in
      let b = mix_scale (suc k) m (A k) z (pivot k m A) in
      rw (extend_first, ← a, b) (omega arith)

pub existence : Existence
unfolding Existence EliminationGetsOut
existence k zero A o = (1, (λ i. zero), omega arith, record { row = λ i l. absurd (none_in l) })
existence k (suc m) A o =
    let (p, o') = elimination_gets_out k m A o in
    let (d, z, q, s) = existence (suc k) m (eliminate k m A) o' in
    let y = extend k m A d z in
    let t = solves_at (λ i. z i * pivot k m A) y (extend_later k m A d z) (solves_scale (pivot k m A) s) in
    (d * pivot k m A, y, mul-pos q p, restored k m A (d * pivot k m A) y p (t, extend_back k m A d z))
