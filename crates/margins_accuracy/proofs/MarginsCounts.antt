-- How many roundings the steps for margins take, counting n additions for every sum and numbering stages from 0.
use Prim.Native.Nat.{ℕ, zero, suc, ◌+◌, ◌*◌, ◌-◌, ◌≤◌, ◌<◌}
use native.Mathlib.Nat.{mul-le-mul, mul-le-mul_right}
use native.Mathlib.Omega.{arith}
use mathlib.Core.Path.{◌≡◌, refl, ap}

-- Of h_i; a_i has one more and k_i two more.
unfoldable pub h_count : ℕ → ℕ → ℕ
h_count n i = i * (n + 3) + n

-- Of the kept system's numbers.
unfoldable pub system_count : ℕ → ℕ
system_count n = n * n + 4 * n

-- Of the engine's answers for r kept stages, against the exact kept system.
unfoldable pub answer_count : ℕ → ℕ → ℕ
answer_count n r = 2 * (r * r * r) + 2 * r * system_count n

-- Of an entry: n(n + 3) more for the product with k_i, and as many for n joins.
unfoldable pub entry_count : ℕ → ℕ → ℕ
entry_count n r = answer_count n r + n * (n + 3) + n * (n + 3)

-- A product with k_j, for j before i.
pub product_count : (n i j : ℕ) → j < i → 1 + (h_count n j + 2) ≤ i * (n + 3)
unfolding h_count
product_count n i j l = omega (arith, mul-le-mul_right (n + 3) l)

pub h_count_lem : (n i : ℕ) → i < n → n - suc i + (i + i * (n + 3)) ≤ h_count n i
unfolding h_count
h_count_lem n i l = omega arith

pub size_count : (n : ℕ) → n * (n + 3) ≤ system_count n
unfolding system_count
size_count n = omega arith

pub exit_count : (n i : ℕ) → i < n → n - suc i + n * (n + 3) ≤ system_count n
unfolding system_count
exit_count n i l = omega arith

-- All counts stay within 12n³; n = 2 is the tight case, and at n = 1 nothing is kept.
whole_count : (n : ℕ) → 2 ≤ n → 4 * (n * n * n) + 10 * (n * n) + 6 * n ≤ 12 * (n * n * n)
whole_count n l =
    let square : 2 * n ≤ n * n = mul-le-mul_right n l in
    let cube : 2 * (n * n) ≤ n * n * n = omega (arith, mul-le-mul_right n square) in
    omega arith

answer_count_lem : (n r : ℕ) → r ≤ n → answer_count n r ≤ 4 * (n * n * n) + 8 * (n * n)
unfolding answer_count system_count
answer_count_lem n r l =
    let cube = mul-le-mul (mul-le-mul l l) l in
    let line = mul-le-mul_right (n * n + 4 * n) l in
    omega arith

no_answer_count : (n : ℕ) → answer_count n 0 ≡ 0
unfolding answer_count system_count
no_answer_count n = omega arith

pub entry_count_lem : (n r : ℕ) → 0 < n → r ≤ n → (n ≡ 1 → r ≡ 0) → entry_count n r ≤ 12 * (n * n * n)
unfolding entry_count
entry_count_lem zero r p l e = absurd (omega arith)
entry_count_lem (suc zero) r p l e = omega (arith, ap (answer_count 1) (e refl), no_answer_count 1)
entry_count_lem (suc (suc m)) r p l e = omega (arith, answer_count_lem (suc (suc m)) r l, whole_count (suc (suc m)) (omega arith))
