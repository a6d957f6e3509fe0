-- Compact order on the exact side: sums, solutions and chains of a system whose other stages are empty.
use Prim.Native.Nat.{ℕ, zero, suc, ◌*◌, ◌<◌}
use native.Mathlib.Nat.{zero-mul}
use native.Mathlib.Numerals.{add-one}
use native.Mathlib.Omega.{arith}
use mathlib.Core.Bool.{Bool, true, false}
use mathlib.Core.Logic.{◌≢◌}
use mathlib.Core.Path.{◌≡◌, refl, sym, ap, ◌∙◌, subst, subst₂}
use lib.ListN.{get_or}
use lib.Dec.{T, ltb→lt}
use Rattle.exact.specs.Chains.{In, GetsOut, stop, go}
use Rattle.exact.specs.Sums.{sum}
use Rattle.exact.specs.Systems.{Equations, diag, mix, RowHolds, Solves, AllOut, moves, exits}
use Rattle.exact.proofs.Sums.{sum_end, sum_cong}
use Rattle.exact.proofs.Cases.{by_bool}
use Rattle.definitions.specs.Compact.{stages_with, rank}
use Rattle.steps.proofs.CompactOrder.{rank-none, rank-take, rank_leave, rank_below, list_longer, stage_of_rank, listed}

module _ (test : ℕ → Bool) where
  abbrev pub stage : ℕ → ℕ → ℕ
  stage n p = get_or (stages_with test n) p 0

  -- A sum over the listed stages is the sum over all, where the other terms are zero.
  abbrev listed_sum : (ℕ → ℕ) → ℕ → ℕ
  listed_sum f n = sum (λ p. f (stage n p)) 0 (rank test n)

  pub sum-packed :
      (f : ℕ → ℕ) (n : ℕ) → ((i : ℕ) → i < n → test i ≡ false → f i ≡ 0)
      → sum (λ p. f (stage n p)) 0 (rank test n) ≡ sum f 0 n
  unfolding sum
  sum-packed f zero z = rw (rank-none test)
  sum-packed f (suc n) z = let ih = sum-packed f n (λ i b. z i (omega arith)) in by_bool (test n) (taken ih) (left ih)
    where
      same : (p : ℕ) → In 0 (rank test n) p → f (stage (suc n) p) ≡ f (stage n p)
      same p l = ap f (rw (add-one n) at (list_longer test n 1 p (omega arith)))

      before : sum (λ p. f (stage (suc n) p)) 0 (rank test n) ≡ listed_sum f n
      before = sum_cong (λ p. f (stage (suc n) p)) (λ p. f (stage n p)) 0 (rank test n) same

      taken : listed_sum f n ≡ sum f 0 n → test n ≡ true → listed_sum f (suc n) ≡ sum f 0 (suc n)
      taken ih e =
          let last = sum_end (λ p. f (stage (suc n) p)) (rank test n) in
          let here : f (stage (suc n) (rank test n)) ≡ f n = ap f (stage_of_rank test (suc n) n (omega arith) e) in
          rw (rank-take test n e) (omega (arith, before, sum_end f n))

      left : listed_sum f n ≡ sum f 0 n → test n ≡ false → listed_sum f (suc n) ≡ sum f 0 (suc n)
      left ih e = rw (rank_leave test n e) (omega (arith, before, sum_end f n, z n (omega arith) e))

  -- The rows of the listed stages, in compact order.
  abbrev pub packed : ℕ → Equations → Equations
  packed n A p =
      let row = A (stage n p) in
      record { size = λ q. row.size (stage n q); exit = row.exit; right = row.right }

  module _ (n : ℕ) (A : Equations) (empty : (i j : ℕ) → i < n → j < n → test j ≡ false → (A i).size j ≡ 0) where
    pub packed_solves : (c : ℕ) (y : ℕ → ℕ) → Solves 0 n A c y → Solves 0 (rank test n) (packed n A) c (λ p. y (stage n p))
    unfolding diag mix
    packed_solves c y s = record { row = row }
      where
        row : (p : ℕ) → In 0 (rank test n) p → RowHolds 0 (rank test n) (packed n A p) c (λ p. y (stage n p)) p
        row p l =
            let i = stage n p in
            let b : i < n = (listed test n p (omega arith)).below in
            let d = sum-packed (A i).size n (λ j m e. empty i j b m e) in
            let m = sum-packed (λ j. (A i).size j * y j) n (λ j m e. ap (λ t. t * y j) (empty i j b m e) ∙ zero-mul (y j)) in
            rw (d, m) (s.row i (omega arith))

    -- A chain leads through listed stages alone.
    pub packed_chain :
        {i : ℕ} → GetsOut 0 n (moves A) (exits A) i → i < n → (p : ℕ) → p < rank test n → stage n p ≡ i
        → GetsOut 0 (rank test n) (moves (packed n A)) (exits (packed n A)) p
    packed_chain (stop {i = i} e) b p l f = stop (subst (λ x. T (exits A x)) (sym f) e)
    packed_chain (go {i = i} {j = j} t m c) b p l f =
        let bj : j < n = omega arith in
        let tj : test j ≡ true = listed_move j bj t in
        let q = rank test j in
        let lq = rank_below test n j bj tj in
        let sq = stage_of_rank test n j bj tj in
        go {i = p} {j = q} (subst₂ (λ x y. T (moves A x y)) (sym f) (sym sq) t) (omega arith) (packed_chain c bj q lq sq)
      where
        listed_move : (j : ℕ) → j < n → T (moves A i j) → test j ≡ true
        listed_move j bj t = by_bool (test j) (λ e. e) (λ e. absurd (omega (arith, ltb→lt zero ((A i).size j) t, empty i j b bj e)))

    pub packed_out : AllOut 0 n A → AllOut 0 (rank test n) (packed n A)
    packed_out o =
        record {
          out = λ p l.
              let b = (listed test n p (omega arith)).below in
              packed_chain (o.out (stage n p) (omega arith)) b p (omega arith) refl;
        }

  pub stage_apart : (n p q : ℕ) → p < rank test n → q < rank test n → p ≢ q → stage n p ≢ stage n q
  stage_apart n p q bp bq d e = d (sym (listed test n p bp).place ∙ ap (rank test) e ∙ (listed test n q bq).place)
