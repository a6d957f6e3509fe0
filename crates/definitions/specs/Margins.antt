-- Steps for margins (document 01, the section of that name; source 000, Theorem 3.2), for sizes t and margins d of n stages.
-- "All sums start at plus zero and rise in j."
use Rattle.std.specs.Prelude.{ℕ, zero, suc, ◌-◌, Bool, true, not, ◌&&◌, ◌||◌, cond, leb, eqb, Float}
use Rattle.definitions.specs.Numbers.{◌⊕◌, ◌⊗◌, ◌⊘◌, 0·0, 1·0, is_zero, add_in_range, mul_in_range, div_in_range, sum, sum_in_range, all}
use Rattle.definitions.specs.Tables.{stored, stored_table}
use Rattle.definitions.specs.LeavingRates.{System, none, downward, quotient, in_range}
use Rattle.definitions.specs.Compact.{stages_with, rank, compact}

-- The sum of f over the stages below n that pass a test, rising, and its additions in range.
unfoldable pub sum_with : (ℕ → Bool) → (ℕ → Float) → ℕ → Float
sum_with test f zero = 0·0
sum_with test f (suc n) = let before = sum_with test f n in cond (test n) (before ⊕ f n) before

unfoldable pub sum_with_in_range : (ℕ → Bool) → (ℕ → Float) → ℕ → Bool
sum_with_in_range test f zero = true
sum_with_in_range test f (suc n) = sum_with_in_range test f n && (not (test n) || add_in_range (sum_with test f n) (f n))

-- "h_i adds t_ij·k_j for j < i and t_ij for j > i."
unfoldable pub h_of : ℕ → (ℕ → ℕ → Float) → (ℕ → Float) → ℕ → Float
h_of n t k i = sum (sum 0·0 (λ j. t i j ⊗ k j) 0 i) (t i) (suc i) (n - suc i)

-- "For i rising: a_i = d_i + h_i; k_i = h_i / a_i": the k_j of the stages j < i, one after another.
unfoldable pub k_before : ℕ → (ℕ → ℕ → Float) → (ℕ → Float) → ℕ → ℕ → Float
k_before n t d zero = λ j. 0·0
k_before n t d (suc i) =
    let before = k_before n t d i in
    let h = h_of n t before i in
    stored 0·0 (suc i) (λ j. cond (eqb j i) (h ⊘ (d i ⊕ h)) (before j))

-- Over the numbers k_j: k is `k_before n t d n`.
module _ (n : ℕ) (t : ℕ → ℕ → Float) (d : ℕ → Float) (k : ℕ → Float) where
  unfoldable pub h : ℕ → Float
  h i = h_of n t k i

  unfoldable pub a : ℕ → Float
  a i = d i ⊕ h i

  -- "The kept stages are those with h_i ≠ 0."
  unfoldable pub kept : ℕ → Bool
  kept i = not (is_zero (h i))

  -- "For kept i ≠ j the new off-diagonal size is t_ij·k_j. The new leaving rate of a kept i sums t_ij·(d_j / a_j) over every
  -- j > i, kept or not."
  unfoldable pub scaled : System
  scaled = record { t = λ i j. t i j ⊗ k j; s = λ i. sum 0·0 (λ j. t i j ⊗ (d j ⊘ a j)) (suc i) (n - suc i); z = none }

  -- "Kept stages, in rising order, go through the steps above, giving y; x_ij = k_i·y_ij."
  unfoldable pub kept_system : System
  kept_system = let stages = stages_with kept n in compact stages scaled

  unfoldable pub y : ℕ → ℕ → Float
  y = let r = rank kept n in let at = downward r kept_system in λ i j. quotient r at (rank kept i) (rank kept j)

  -- "Each stage k not kept, from the highest down, joins the known ones": known once the stages from n - 1 down to n - q are done.
  unfoldable pub known : ℕ → ℕ → Bool
  known q i = kept i || leb (n - q) i

  -- "x_kk = 1 / a_k; x_kj = 0 for known j; for known i, x_ik sums x_ij·(t_jk / a_k) over known j", with k = n - 1 - q.
  unfoldable pub joined : ℕ → (ℕ → ℕ → Float) → ℕ → ℕ → Float
  joined q x i j =
      let c = n - suc q in
      let row = cond (eqb j c) (1·0 ⊘ a c) 0·0 in
      let column = sum_with (known q) (λ l. x i l ⊗ (t l c ⊘ a c)) n in
      let before = x i j in
      cond (eqb i c) row (cond (eqb j c) column before)

  unfoldable pub x_after : ℕ → ℕ → ℕ → Float
  x_after zero = let ys = y in stored_table 0·0 n (λ i j. k i ⊗ ys i j)
  x_after (suc q) = let x = x_after q in cond (kept (n - suc q)) x (stored_table 0·0 n (joined q x))

  -- Every step in range (question 10): h, a and k of stage i;
  unfoldable pub ratio_in_range : ℕ → Bool
  ratio_in_range i =
      all (λ j. mul_in_range (t i j) (k j)) 0 i
      && sum_in_range 0·0 (λ j. t i j ⊗ k j) 0 i
      && sum_in_range (sum 0·0 (λ j. t i j ⊗ k j) 0 i) (t i) (suc i) (n - suc i)
      && add_in_range (d i) (h i)
      && div_in_range (h i) (a i)

  -- the new sizes and the new leaving rate of a kept stage i ("a step is taken and counts even where it then meets a zero factor");
  unfoldable pub scaled_in_range : ℕ → Bool
  scaled_in_range i =
      all (λ j. not (kept j) || eqb i j || mul_in_range (t i j) (k j)) 0 n
      && all (λ j. div_in_range (d j) (a j) && mul_in_range (t i j) (d j ⊘ a j)) (suc i) (n - suc i)
      && sum_in_range 0·0 (λ j. t i j ⊗ (d j ⊘ a j)) (suc i) (n - suc i)

  -- the way back to a kept stage i;
  unfoldable pub back_in_range : (ℕ → ℕ → Float) → ℕ → Bool
  back_in_range ys i = all (λ j. not (kept j) || mul_in_range (k i) (ys i j)) 0 n

  -- the joining of stage n - 1 - q, from the table x of those before it.
  unfoldable pub join_in_range : ℕ → (ℕ → ℕ → Float) → Bool
  join_in_range q x =
      let c = n - suc q in
      div_in_range 1·0 (a c)
      && all (λ i. not (known q i) || (
      all (λ l. not (known q l) || (div_in_range (t l c) (a c) && mul_in_range (x i l) (t l c ⊘ a c))) 0 n
      && sum_with_in_range (known q) (λ l. x i l ⊗ (t l c ⊘ a c)) n)) 0 n

  unfoldable pub every_step : Bool
  every_step =
      all ratio_in_range 0 n
      && all (λ i. not (kept i) || scaled_in_range i) 0 n
      && (let r = rank kept n in in_range r (downward r kept_system))
      && (let ys = y in all (λ i. not (kept i) || back_in_range ys i) 0 n)
      && all (λ q. kept (n - suc q) || join_in_range q (x_after q)) 0 n

unfoldable pub entry : ℕ → (ℕ → ℕ → Float) → (ℕ → Float) → ℕ → ℕ → Float
entry n t d = let k = k_before n t d n in x_after n t d k n

unfoldable pub margins_in_range : ℕ → (ℕ → ℕ → Float) → (ℕ → Float) → Bool
margins_in_range n t d = let k = k_before n t d n in every_step n t d k
