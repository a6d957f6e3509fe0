-- Compact order: the listed stages rise, a stage's rank is its place in the list, and both ways lead back; and a system in it.
use Prim.Native.Nat.{ℕ, zero, suc, ◌+◌, ◌-◌, ◌<◌, ◌≤◌}
use mathlib.Core.Bool.{Bool, true, false, cond}
use mathlib.Core.List.{List, [], ◌∷◌, ◌++◌, append-nil}
use mathlib.Core.Path.{◌≡◌, refl, sym, ap, ap₂, ◌∙◌}
use native.Mathlib.Nat.{add-zero, add-suc, le_refl, le_trans}
use native.Mathlib.Numerals.{add-one}
use native.Mathlib.Decide.{dec_lt}
use native.Mathlib.Omega.{arith}
use lib.ListN.{length, get_or, length-append, get_or-append}
use lib.Seq.{get_or_at}
use Rattle.exact.proofs.Cases.{by_bool}
use Rattle.definitions.specs.Numbers.{0·0}
use Rattle.definitions.specs.LeavingRates.{Weights, none, some, System}
use Rattle.definitions.specs.Compact.{stages_with, rank, weights_of, compact}
use Rattle.steps.proofs.TableLaws.{stored_at, stored_table-at}
use Rattle.steps.proofs.Weights.{SameWeights}

module _ (test : ℕ → Bool) where
  pub list-take : (n : ℕ) → test n ≡ true → stages_with test (suc n) ≡ stages_with test n ++ (n ∷ [])
  unfolding stages_with
  list-take n e = rw (e, stages_with)

  pub list_leave : (n : ℕ) → test n ≡ false → stages_with test (suc n) ≡ stages_with test n
  unfolding stages_with
  list_leave n e = rw (e, stages_with) (append-nil (stages_with test n))

  -- A list looks at its own stages alone.
  pub list_alike : (other : ℕ → Bool) (n : ℕ) → ((i : ℕ) → i < n → test i ≡ other i) → stages_with test n ≡ stages_with other n
  unfolding stages_with
  list_alike other zero e = refl
  list_alike other (suc n) e = ap₂ (λ (l : List ℕ) b. l ++ cond b (n ∷ []) []) (list_alike other n (λ i m. e i (omega arith))) (e n (omega arith))

  pub rank_alike : (other : ℕ → Bool) (n : ℕ) → ((i : ℕ) → i < n → test i ≡ other i) → rank test n ≡ rank other n
  unfolding rank
  rank_alike other n e = ap length (list_alike other n e)

  pub rank-none : rank test 0 ≡ 0
  unfolding rank stages_with
  rank-none = refl

  pub rank-length : (n : ℕ) → length (stages_with test n) ≡ rank test n
  unfolding rank
  rank-length n = refl

  pub rank-take : (n : ℕ) → test n ≡ true → rank test (suc n) ≡ suc (rank test n)
  unfolding rank
  rank-take n e = ap length (list-take n e) ∙ length-append (stages_with test n) (n ∷ []) ∙ add-one (rank test n)

  pub rank_leave : (n : ℕ) → test n ≡ false → rank test (suc n) ≡ rank test n
  unfolding rank
  rank_leave n e = ap length (list_leave n e)

  pub rank_step : (n : ℕ) → rank test n ≤ rank test (suc n)
  rank_step n =
      by_bool (test n) (λ e. let h = rank-take n e in omega arith) (λ e. let h = rank_leave n e in omega arith)

  pub rank-within : (n : ℕ) → rank test n ≤ n
  rank-within zero = let z = rank-none in omega arith
  rank-within (suc n) =
      let h = rank-within n in
      by_bool (test n) (λ e. let s = rank-take n e in omega arith) (λ e. let s = rank_leave n e in omega arith)

  pub rank_mono : (i d : ℕ) → rank test i ≤ rank test (i + d)
  rank_mono i zero = rw add-zero (le_refl (rank test i))
  rank_mono i (suc d) = rw add-suc (le_trans (rank_mono i d) (rank_step (i + d)))

  pub rank_below : (n i : ℕ) → i < n → test i ≡ true → rank test i < rank test n
  rank_below n i h t =
      let e : suc i + (n - suc i) ≡ n = omega arith in
      let g : rank test (suc i) ≤ rank test n = rw e at (rank_mono (suc i) (n - suc i)) in
      let s = rank-take i t in
      omega arith

  -- The list up to n begins with the list up to i.
  pub list_longer : (i d q : ℕ) → q < rank test i → get_or (stages_with test (i + d)) q 0 ≡ get_or (stages_with test i) q 0
  list_longer i zero q h = rw add-zero
  list_longer i (suc d) q h = rw add-suc (by_bool (test (i + d)) taken left ∙ list_longer i d q h)
    where
      within : q < length (stages_with test (i + d))
      within = let m = rank_mono i d in rw rank-length (omega arith)

      taken : test (i + d) ≡ true → get_or (stages_with test (suc (i + d))) q 0 ≡ get_or (stages_with test (i + d)) q 0
      taken e = ap (λ l. get_or l q 0) (list-take (i + d) e) ∙ get_or-append (stages_with test (i + d)) ((i + d) ∷ []) 0 q within

      left : test (i + d) ≡ false → get_or (stages_with test (suc (i + d))) q 0 ≡ get_or (stages_with test (i + d)) q 0
      left e = ap (λ l. get_or l q 0) (list_leave (i + d) e)

  -- A stage of the list, from its rank.
  pub stage_of_rank : (n i : ℕ) → i < n → test i ≡ true → get_or (stages_with test n) (rank test i) 0 ≡ i
  stage_of_rank n i h t =
      let e : suc i + (n - suc i) ≡ n = omega arith in
      let s = rank-take i t in
      let g : rank test i < rank test (suc i) = omega arith in
      let longer = rw e at (list_longer (suc i) (n - suc i) (rank test i) g) in
      longer ∙ ap (λ l. get_or l (rank test i) 0) (list-take i t) ∙ get_or_at (stages_with test i) i [] 0 (rank test i) (rank-length i)

  -- Where every stage passes, each stands at its own place.
  pub rank_every : (n : ℕ) → ((i : ℕ) → i < n → test i ≡ true) → rank test n ≡ n
  rank_every zero h = rank-none
  rank_every (suc n) h = rank-take n (h n (omega arith)) ∙ ap suc (rank_every n (λ i l. h i (omega arith)))

  pub stage_every : (n : ℕ) → ((i : ℕ) → i < n → test i ≡ true) → (i : ℕ) → i < n → get_or (stages_with test n) i 0 ≡ i
  stage_every n h i l =
      ap (λ q. get_or (stages_with test n) q 0) (sym (rank_every i (λ k m. h k (omega arith)))) ∙ stage_of_rank n i l (h i l)

  -- The numbers of the listed stages.
  pub compact-size :
      (n : ℕ) (a : System) (p q : ℕ) → p < rank test n → q < rank test n
      → (compact (stages_with test n) a).t p q ≡ a.t (get_or (stages_with test n) p 0) (get_or (stages_with test n) q 0)
  unfolding compact rank
  compact-size n a p q bp bq =
      let s = stages_with test n in
      stored_table-at 0·0 (length s) (λ i j. a.t (get_or s i 0) (get_or s j 0)) p q bp bq

  pub compact_exit :
      (n : ℕ) (a : System) (p : ℕ) → p < rank test n → (compact (stages_with test n) a).s p ≡ a.s (get_or (stages_with test n) p 0)
  unfolding compact rank
  compact_exit n a p bp = let s = stages_with test n in stored_at 0·0 (length s) (λ i. a.s (get_or s i 0)) p bp

  pub compact-weights : (n : ℕ) (a : System) → (compact (stages_with test n) a).z ≡ weights_of (stages_with test n) a.z
  unfolding compact
  compact-weights n a = refl

  -- Where every stage passes, the weights are those of the stages themselves.
  pub weights_every : (n : ℕ) → ((i : ℕ) → i < n → test i ≡ true) → (w : Weights) → SameWeights n (weights_of (stages_with test n) w) w
  weights_every n h none = tt
  weights_every n h (some z) = λ j l. ap z (stage_every n h j l)

  -- The stage at each place of the list: below n, passes the test, and has that place as its rank.
  pub record Listed (n q i : ℕ) : Type 0 where
    pub below : i < n
    pub passes : test i ≡ true
    pub place : rank test i ≡ q

  pub listed : (n q : ℕ) → q < rank test n → Listed n q (get_or (stages_with test n) q 0)
  listed zero q h = absurd (let z = rank-none in omega arith)
  listed (suc n) q h = go (dec_lt q (rank test n)) (listed n q)
    where
      same : q < rank test n → get_or (stages_with test (suc n)) q 0 ≡ get_or (stages_with test n) q 0
      same g = rw add-one at (list_longer n 1 q g)

      weaker : {i : ℕ} → Listed n q i → Listed (suc n) q i
      weaker l = record { below = omega (arith, l.below); passes = l.passes; place = l.place }

      last : ¬ (q < rank test n) → (e : test n ≡ true) → Listed (suc n) q (get_or (stages_with test (suc n)) q 0)
      last g e =
          let z = rank-take n e in
          let w : rank test n ≡ q = omega arith in
          let i : get_or (stages_with test (suc n)) q 0 ≡ n =
          ap (λ l. get_or l q 0) (list-take n e) ∙ get_or_at (stages_with test n) n [] 0 q (rank-length n ∙ w) in
          rw i (record { below = omega arith; passes = e; place = w })

      go : Dec (q < rank test n) → (q < rank test n → Listed n q (get_or (stages_with test n) q 0)) → Listed (suc n) q (get_or (stages_with test (suc n)) q 0)
      go (yes g) earlier = rw (same g) (weaker (earlier g))
      go (no g) earlier = by_bool (test n) (last g) (λ e. absurd (let z = rank_leave n e in omega arith))
