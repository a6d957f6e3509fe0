-- Question 9 names the lowest stage that is trapped and not idle: `gets_out` decides the chains, `idle` the rows and columns, and the
-- search over the stages stops at the first no.
use Prim.Native.Nat.{ℕ, zero, suc, ◌+◌, ◌≤◌, ◌<◌, zero-le}
use mathlib.Core.Bool.{Bool, not}
use mathlib.Core.List.{List}
use mathlib.Core.Logic.{◌≢◌, ◌↔◌, ◌⊎◌, inl, inr, ⊎_elim}
use mathlib.Core.Path.{◌≡◌, refl, sym, ◌∙◌}
use native.Mathlib.Omega.{arith}
use lib.Dec.{T, eqb, eqb→eq, eqb_refl, T_not, not_T}
use lib.Ieee.{Float}
use lib.Ieee.Fits.{and_i, and_l, and_r}
use borrow.Author.Tests.{ne_eqb}
use Rattle.exact.specs.Chains.{GetsOut, stop, go, WithinDecidesChains}
use Rattle.exact.proofs.Chains.{within_decides_chains}
use Rattle.exact.proofs.Cases.{by_equal, by_order, by_bool}
use Rattle.exact.proofs.Bools.{holds, or_l, or_r, or_cases}
use Rattle.definitions.specs.Numbers.{is_zero}
use Rattle.definitions.specs.Sheet.{place, size, idle}
use Rattle.definitions.specs.Questions.{Asked, pass, refuse, moves, leaves, gets_out, not_trapped, question9, ask_stages}
use Rattle.steps.proofs.QuestionLaws.{never_both}
use Rattle.steps.proofs.All.{each_below, every_below}
use Rattle.steps.proofs.LiveStages.{zeros}
use Rattle.steps.specs.Trapped.{Chain, empty, move, Idle, LowestTrapped, DecidesTrapped}

-- ---- the search over the stages
-- What the search of m stages from i on comes to: all pass, or k is the first that does not.
data Found (good : ℕ → Bool) (number i m : ℕ) (answer : Asked) : Type 0 where
  all_pass : answer ≡ pass → ((k : ℕ) → i ≤ k → k < i + m → T (good k)) → Found good number i m answer
  first_fails : (k : ℕ) → answer ≡ refuse number (suc k) 0 → i ≤ k → k < i + m → (T (good k) → ⊥)
      → ((l : ℕ) → i ≤ l → l < k → T (good l)) → Found good number i m answer

module _ (good : ℕ → Bool) (number : ℕ) where
  -- Stage i passes, and the search goes on.
  passed_on : (i m : ℕ) {answer : Asked} → T (good i) → Found good number (suc i) m answer → Found good number i (suc m) answer
  passed_on i m t (all_pass e f) = all_pass e (λ k a b. by_equal k i (λ s. rw s t) (λ apart. f k (omega arith) (omega arith)))
  passed_on i m t (first_fails k e a b bad f) = first_fails k e (omega arith) (omega arith) bad (λ l c d. by_equal l i (λ s. rw s t) (λ apart. f l (omega arith) (omega arith)))

  found : (i m : ℕ) → Found good number i m (ask_stages good number i m)
  unfolding ask_stages
  found i zero = all_pass refl (λ k a b. absurd (omega arith))
  found i (suc m) =
      by_bool (good i)
      (λ t. rw t (passed_on i m (holds t) (found (suc i) m)))
      (λ f. rw f (first_fails i refl (omega arith) (omega arith) (λ t. rw f at t) (λ l a b. absurd (omega arith))))

row : {i j : ℕ} → refuse 9 (suc i) 0 ≡ refuse 9 (suc j) 0 → i ≡ j
row e = cc

-- ---- chains
module _ (n : ℕ) (sheet : List Float) where
  -- The test that computes decides whether moves lead to an exit.
  pub out_decided : (i : ℕ) → i < n → (T (gets_out n sheet i) ↔ GetsOut 0 n (moves n sheet) (leaves n sheet) i)
  unfolding gets_out WithinDecidesChains
  out_decided i l = within_decides_chains 0 n (moves n sheet) (leaves n sheet) i (record { low = zero-le; high = omega arith })

  moves_apart : (i j : ℕ) → T (moves n sheet i j) → (i ≢ j) × T (not (is_zero (size n sheet i j)))
  unfolding moves
  moves_apart i j t =
      let apart = and_l (not (eqb i j)) (not (is_zero (size n sheet i j))) t in
      (λ e. T_not (eqb i j) apart (rw e (eqb_refl j)), and_r (not (eqb i j)) (not (is_zero (size n sheet i j))) t)

  to_chain : (i : ℕ) → i < n → GetsOut 0 n (moves n sheet) (leaves n sheet) i → Chain n sheet i
  unfolding leaves
  to_chain i l (stop t) = empty t
  to_chain i l (go {j = j} t h c) =
      let k : j < n = omega (arith, h.high) in
      let m = moves_apart i j t in
      move l k m.0 m.1 (to_chain j k c)

  from_chain : (i : ℕ) → Chain n sheet i → GetsOut 0 n (moves n sheet) (leaves n sheet) i
  unfolding moves leaves
  from_chain i (empty t) = stop t
  from_chain i (move {j = j} l k d t c) =
      go {j = j} (and_i (not (eqb i j)) (not (is_zero (size n sheet i j))) (not_T (eqb i j) (λ e. d (eqb→eq i j e))) t)
      (record { low = zero-le; high = omega arith }) (from_chain j c)

  -- ---- idle stages
  pub idle_decided : (i : ℕ) → (T (idle n sheet i) ↔ Idle n sheet i)
  unfolding idle Idle zeros
  idle_decided i = (
    λ t j l.
        let both = each_below n (zeros n sheet i) t j l in
        (and_l (is_zero (place n sheet i j)) (is_zero (place n sheet j i)) both, and_r (is_zero (place n sheet i j)) (is_zero (place n sheet j i)) both),
    λ f. every_below n (zeros n sheet i) (λ j l. and_i (is_zero (place n sheet i j)) (is_zero (place n sheet j i)) (f j l).0 (f j l).1),
  )

  idle_or_chain : (i : ℕ) → i < n → T (not_trapped n sheet i) → Idle n sheet i ⊎ Chain n sheet i
  unfolding not_trapped
  idle_or_chain i l t =
      ⊎_elim (λ a. inl ((idle_decided i).0 a)) (λ b. inr (to_chain i l ((out_decided i l).0 b))) (or_cases (idle n sheet i) (gets_out n sheet i) t)

  not_trapped_lem : (i : ℕ) → i < n → Idle n sheet i ⊎ Chain n sheet i → T (not_trapped n sheet i)
  unfolding not_trapped
  not_trapped_lem i l =
      ⊎_elim (λ a. or_l (idle n sheet i) (gets_out n sheet i) ((idle_decided i).1 a)) (λ c. or_r (idle n sheet i) (gets_out n sheet i) ((out_decided i l).1 (from_chain i c)))

  -- ---- what the search comes to, in chains
  abbrev Searched : Asked → Type 0
  Searched = Found (not_trapped n sheet) 9 0 n

  pass_is : {a : Asked} → Searched a → (a ≡ pass) ↔ ((i : ℕ) → i < n → Idle n sheet i ⊎ Chain n sheet i)
  pass_is (all_pass e f) = (λ p i l. idle_or_chain i l (f i zero-le (omega arith)), λ h. e)
  pass_is (first_fails k e a b bad f) =
      (λ p. absurd (never_both e p), λ h. absurd (bad (not_trapped_lem k (omega arith) (h k (omega arith)))))

  -- Two lowest trapped stages are one.
  lowest_is : {k i : ℕ} → LowestTrapped n sheet k → LowestTrapped n sheet i → k ≡ i
  lowest_is {k} {i} p q =
      by_order k i
      (λ l. by_order i k (λ m. omega arith) (λ m. absurd (⊎_elim p.busy p.trapped (q.lower k m))))
      (λ l. absurd (⊎_elim q.busy q.trapped (p.lower i l)))

  refuse_is : {a : Asked} → Searched a → (i : ℕ) → ((a ≡ refuse 9 (suc i) 0) ↔ LowestTrapped n sheet i)
  refuse_is (all_pass e f) i = (λ p. absurd (never_both p e), λ h. absurd (⊎_elim h.busy h.trapped (idle_or_chain i h.below (f i zero-le (omega (arith, h.below))))))
  refuse_is (first_fails k e a b bad f) i =
      let lowest : LowestTrapped n sheet k = record {
        below = omega arith;
        trapped = λ c. bad (not_trapped_lem k (omega arith) (inr c));
        busy = λ a. bad (not_trapped_lem k (omega arith) (inl a));
        lower = λ l m. idle_or_chain l (omega arith) (f l zero-le m);
      } in
      (λ p. rw (row (sym e ∙ p)) at lowest, λ h. rw (lowest_is lowest h) at e)

  answers_are : {a : Asked} → Searched a → (a ≡ pass) ⊎ ((i : ℕ) × (a ≡ refuse 9 (suc i) 0))
  answers_are (all_pass e f) = inl e
  answers_are (first_fails k e a b bad f) = inr (k, e)

  pub decides_trapped : DecidesTrapped n sheet
  unfolding question9
  decides_trapped =
      let answer = found (not_trapped n sheet) 9 0 n in
      record {
        passes = pass_is answer;
        refuses = refuse_is answer;
        answers = answers_are answer;
        other_reading = λ reading d. rw (ne_eqb reading 1 d);
      }
