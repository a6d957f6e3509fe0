-- Chains: m moves are enough, for a pass over the stages marks one more stage or there is nothing left to mark; and a chain
-- is kept where moves and exits are.
use mathlib.Core.Path.{◌≡◌, sym, subst}
use mathlib.Core.Logic.{◌≢◌, ◌⊎◌, inl, inr}
use mathlib.Core.Bool.{Bool, true, false, ◌&&◌}
use Prim.Native.Nat.{ℕ, zero, suc, ◌+◌, ◌≤◌}
use native.Mathlib.Nat.{le-suc, le-suc_iff}
use native.Mathlib.Decide.{ℕ_discrete, dec_le}
use native.Mathlib.Omega.{arith}
use lib.Dec.{T}
use Rattle.exact.specs.Chains.{In, GetsOut, stop, go, any, out_within, WithinDecidesChains}
use Rattle.exact.specs.Sums.{sum, bit}
use Rattle.exact.proofs.Sums.{sum_ones, sum_tight, bit≤1}
use lib.Ieee.Fits.{and_i, and_l, and_r}
use Rattle.exact.proofs.Bools.{or_l, or_r, or_cases}

-- Whether a stage gets out depends on the moves between different stages and on the exits: more of them, and it still does.
pub gets_out_mono :
    {k m : ℕ} {move move' : ℕ → ℕ → Bool} {exit exit' : ℕ → Bool}
    → ((i j : ℕ) → In k m i → In k m j → i ≢ j → T (move i j) → T (move' i j))
    → ((i : ℕ) → In k m i → T (exit i) → T (exit' i))
    → {i : ℕ} → In k m i → GetsOut k m move exit i → GetsOut k m move' exit' i
gets_out_mono f g l (stop {i = i} e) = stop (g i l e)
gets_out_mono {k} {m} {move} {move'} {exit} {exit'} f g l (go {i = i} {j = j} t n c) =
    elim (ℕ_discrete i j) [
      | yes e ↦ subst (GetsOut k m move' exit') (sym e) (gets_out_mono f g n c)
      | no d ↦ go (f i j l n d t) n (gets_out_mono f g n c)
    ]

pub any_intro : (p : ℕ → Bool) (k m i : ℕ) → In k m i → T (p i) → T (any p k m)
unfolding any
any_intro p k zero i l t = omega arith
any_intro p k (suc m) i l t =
    elim (ℕ_discrete i (k + m)) [
      | yes e ↦ or_r (any p k m) (p (k + m)) (subst (λ x. T (p x)) e t)
      | no d ↦ or_l (any p k m) (p (k + m)) (any_intro p k m i (omega arith) t)
    ]

pub any_some : (p : ℕ → Bool) (k m : ℕ) → T (any p k m) → (i : ℕ) × In k m i × T (p i)
unfolding any
any_some p k zero t = absurd t
any_some p k (suc m) t =
    elim (or_cases (any p k m) (p (k + m)) t) [
      | inl a ↦ let (i, l, h) = any_some p k m a in (i, omega arith, h)
      | inr h ↦ (k + m, omega arith, h)
    ]

bit_mono : (a b : Bool) → (T a → T b) → bit a ≤ bit b
bit_mono true true f = omega arith
bit_mono true false f = absurd (f tt)
bit_mono false b f = omega arith

bit_back : (a b : Bool) → bit a ≡ bit b → T b → T a
bit_back true b e t = tt
bit_back false true e t = omega arith
bit_back false false e t = t

module _ (k m : ℕ) (move : ℕ → ℕ → Bool) (exit : ℕ → Bool) where
  abbrev Out : ℕ → ℕ → Bool
  Out q i = out_within k m move exit q i

  abbrev then_out : ℕ → ℕ → ℕ → Bool
  then_out q i j = move i j && out_within k m move exit q j

  more_moves : (q i : ℕ) → T (Out q i) → T (Out (suc q) i)
  unfolding out_within
  more_moves q i t = or_l (Out q i) (any (then_out q i) k m) t

  one_move : (q i j : ℕ) → T (move i j) → In k m j → T (Out q j) → T (Out (suc q) i)
  unfolding out_within
  one_move q i j s l t =
      let h = any_intro (then_out q i) k m j l (and_i (move i j) (Out q j) s t) in
      or_r (Out q i) (any (then_out q i) k m) h

  out_by_exit : (q i : ℕ) → T (exit i) → T (Out q i)
  unfolding out_within
  out_by_exit zero i t = t
  out_by_exit (suc q) i t = more_moves q i (out_by_exit q i t)

  out_later : (q r i : ℕ) → r ≤ q → T (Out r i) → T (Out q i)
  out_later zero r i l t = subst (λ x. T (Out x i)) (omega arith) t
  out_later (suc q) r i l t =
      elim (le-suc_iff.0 l) [
        | inl h ↦ more_moves q i (out_later q r i h t)
        | inr e ↦ subst (λ x. T (Out x i)) e t
      ]

  -- What is marked has a chain.
  chain_of : (q i : ℕ) → T (Out q i) → GetsOut k m move exit i
  unfolding out_within
  chain_of zero i t = stop t
  chain_of (suc q) i t =
      elim (or_cases (Out q i) (any (then_out q i) k m) t) [
        | inl a ↦ chain_of q i a
        | inr b ↦
            let (j, l, h) = any_some (then_out q i) k m b in
            let s = and_l (move i j) (Out q j) h in
            let u = and_r (move i j) (Out q j) h in
            go s l (chain_of q j u)
      ]

  -- A pass that marks nothing new: then every start of a chain is marked.
  Closed : ℕ → Type 0
  Closed q = (i : ℕ) → In k m i → T (Out (suc q) i) → T (Out q i)

  closed_all : (q i : ℕ) → Closed q → In k m i → GetsOut k m move exit i → T (Out q i)
  unfolding Closed
  closed_all q i c l (stop t) = out_by_exit q i t
  closed_all q i c l (go {j = j} s n r) = c i l (one_move q i j s n (closed_all q j c n r))

  -- 1 for a stage that is marked.
  marks : ℕ → ℕ → ℕ
  marks q i = bit (Out q i)

  marks_grow : (q i : ℕ) → In k m i → marks q i ≤ marks (suc q) i
  unfolding marks
  marks_grow q i l = bit_mono (Out q i) (Out (suc q) i) (more_moves q i)

  no_new_mark : (q : ℕ) → sum (marks (suc q)) k m ≤ sum (marks q) k m → Closed q
  unfolding marks Closed
  no_new_mark q s i l =
      bit_back (Out q i) (Out (suc q) i) (sum_tight (marks q) (marks (suc q)) k m (marks_grow q) s i l)

  -- After q passes: some pass marked nothing new, or q stages are marked.
  passes : (q : ℕ) → ((r : ℕ) × (r ≤ q) × Closed r) ⊎ (q ≤ sum (marks q) k m)
  passes zero = inr (omega arith)
  passes (suc q) =
      elim (passes q) [
        | inl (r, l, c) ↦ inl (r, omega arith, c)
        | inr h ↦
            elim (dec_le (sum (marks (suc q)) k m) (sum (marks q) k m)) [
              | yes s ↦ inl (q, le-suc q, no_new_mark q s)
              | no d ↦ inr (omega arith)
            ]
      ]

  -- m marks among m stages: all are marked.
  all-marked : m ≤ sum (marks m) k m → (i : ℕ) → In k m i → T (Out m i)
  unfolding marks
  all-marked h i l =
      let ones = sum_ones k m in
      bit_back (Out m i) true (sum_tight (marks m) (λ j. 1) k m (λ j n. bit≤1 (Out m j)) (omega arith) i l) tt

  out_of : (i : ℕ) → In k m i → GetsOut k m move exit i → T (Out m i)
  out_of i l c =
      elim (passes m) [
        | inl (r, h, d) ↦ out_later m r i h (closed_all r i d l c)
        | inr h ↦ all-marked h i l
      ]

pub within_decides_chains : WithinDecidesChains
unfolding WithinDecidesChains
within_decides_chains k m move exit i l = (chain_of k m move exit m i, out_of k m move exit i l)
