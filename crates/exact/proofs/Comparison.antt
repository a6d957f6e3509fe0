-- Comparison, and from it uniqueness and where a solution is largest.
use mathlib.Core.Path.{◌≡◌, ap, subst}
use mathlib.Core.Logic.{◌≢◌, ◌⊎◌, inl, inr}
use Prim.Native.Nat.{ℕ, zero, suc, ◌+◌, ◌*◌, ◌≤◌, ◌<◌}
use native.Mathlib.Nat.{le_refl, le_antisymm, mul-le-mul_left, le_of_mul-le-mul_left, eq_of_mul-eq-mul_left}
use native.Mathlib.Decide.{ℕ_discrete, dec_le}
use native.Mathlib.Omega.{arith}
use lib.Dec.{ltb→lt}
use Rattle.exact.specs.Chains.{In, GetsOut, stop, go}
use Rattle.exact.specs.Sums.{sum}
use Rattle.exact.specs.Systems.{Row, Equations, diag, mix, Solves, AllOut, moves, exits, with_right}
use Rattle.exact.specs.Comparison.{RowBelow, Comparison, Uniqueness, LargestAtItsStage}
use Rattle.exact.proofs.Sums.{first, later, on_range, none_in, sum_mono, sum_tight, sum-add, sum_scale}
use Rattle.exact.proofs.Systems.{mix_const, solves_scale}

module _ (u v : ℕ → ℕ) where
  -- u − v is largest at l.
  Largest : ℕ → ℕ → ℕ → Type 0
  Largest k m l = (j : ℕ) → In k m j → u j + v l ≤ u l + v j

  largest : (k m : ℕ) → (l : ℕ) × In k (suc m) l × Largest k (suc m) l
  unfolding Largest
  largest k zero = (k, first, on_range (λ j. u j + v k ≤ u k + v j) (le_refl (u k + v k)) (λ j n. absurd (none_in n)))
  largest k (suc m) =
      let (l, n, h) = largest (suc k) m in
      elim (dec_le (u k + v l) (u l + v k)) [
        | yes b ↦ (l, later n, on_range (λ j. u j + v l ≤ u l + v j) b h)
        | no d ↦
            let h' : (j : ℕ) → In (suc k) (suc m) j → u j + v k ≤ u k + v j = λ j i. omega (arith, h j i) in
            (k, first, on_range (λ j. u j + v k ≤ u k + v j) (le_refl (u k + v k)) h')
      ]

  -- A range that holds a stage has one.
  some_largest : (k m i : ℕ) → In k m i → (l : ℕ) × In k m l × Largest k m l
  some_largest k zero i n = absurd (none_in n)
  some_largest k (suc m) i n = largest k m

-- Where u − v is largest, a row below says: the exit weighs nothing, and a move leads to where u − v is as large.
module _ (k m : ℕ) (row : Row) (u v : ℕ → ℕ) (l : ℕ) (big : Largest u v k m l) where
  low-term : ℕ → ℕ
  low-term j = row.size j * u j + row.size j * v l

  high_term : ℕ → ℕ
  high_term j = row.size j * u l + row.size j * v j

  terms-below : (j : ℕ) → In k m j → low-term j ≤ high_term j
  unfolding low-term high_term Largest
  terms-below j n = omega (arith, mul-le-mul_left (row.size j) (big j n))

  terms_equal : (j : ℕ) → 0 < row.size j → low-term j ≡ high_term j → u j + v l ≡ u l + v j
  unfolding low-term high_term
  terms_equal j p e = eq_of_mul-eq-mul_left (row.size j) p (u j + v l) (u l + v j) (omega arith)

  low_sum : row.exit * v l + sum low-term k m ≡ diag k m row * v l + mix k m row u
  unfolding low-term diag mix
  low_sum =
      let a = sum-add (λ j. row.size j * u j) (λ j. row.size j * v l) k m in
      let b = sum_scale row.size (v l) k m in
      omega arith

  high_sum : row.exit * u l + sum high_term k m ≡ diag k m row * u l + mix k m row v
  unfolding high_term diag mix
  high_sum =
      let a = sum-add (λ j. row.size j * u l) (λ j. row.size j * v j) k m in
      let b = sum_scale row.size (u l) k m in
      omega arith

  module _ (below : diag k m row * u l + mix k m row v ≤ diag k m row * v l + mix k m row u) where
    exit_at_largest : row.exit * u l ≤ row.exit * v l
    exit_at_largest = omega (arith, sum_mono low-term high_term k m terms-below, low_sum, high_sum)

    move_at_largest : v l < u l → (j : ℕ) → In k m j → 0 < row.size j → u j + v l ≡ u l + v j
    move_at_largest d j n p =
        let e : row.exit * v l ≤ row.exit * u l = mul-le-mul_left row.exit (omega arith) in
        let s : sum high_term k m ≤ sum low-term k m = omega (arith, low_sum, high_sum) in
        terms_equal j p (sum_tight low-term high_term k m terms-below s j n)

module _ (k m : ℕ) (A : Equations) (u v : ℕ → ℕ) (h : (i : ℕ) → In k m i → (u i ≤ v i) ⊎ RowBelow k m A u v i) where
  below : (i : ℕ) → In k m i → v i < u i → RowBelow k m A u v i
  below i l d = elim (h i l) [ inl a ↦ absurd (omega arith) | inr b ↦ b ]

  -- Follow the chain from a stage where u − v is largest, and above zero: it never comes to an exit.
  follow : {l : ℕ} → GetsOut k m (moves A) (exits A) l → In k m l → Largest u v k m l → ¬ (v l < u l)
  unfolding Largest
  follow (stop {i = l} t) n big d =
      let p : 0 < (A l).exit = ltb→lt zero (A l).exit t in
      let c : u l ≤ v l = le_of_mul-le-mul_left (exit_at_largest k m (A l) u v l big (below l n d)) p in
      omega arith
  follow (go {i = l} {j = j} t nj c) n big d =
      let p : 0 < (A l).size j = ltb→lt zero ((A l).size j) t in
      let e = move_at_largest k m (A l) u v l big (below l n d) d j nj p in
      follow c nj (λ x nx. omega (arith, big x nx)) (omega arith)

pub comparison : Comparison
unfolding Comparison Largest
comparison k m A u v o h i l =
    elim (dec_le (u i) (v i)) [
      | yes b ↦ b
      | no d ↦
          let (j, n, big) = some_largest u v k m i l in
          absurd (follow k m A u v h (o.out j n) n big (omega (arith, big i l)))
    ]

-- Comparison with stage r set apart.
pub comparison_but :
    (k m : ℕ) (A : Equations) → AllOut k m A → (r : ℕ) (u v : ℕ → ℕ) → u r ≤ v r
    → ((i : ℕ) → In k m i → r ≢ i → RowBelow k m A u v i)
    → (i : ℕ) → In k m i → u i ≤ v i
unfolding Comparison
comparison_but k m A o r u v h rows = comparison k m A u v o row_or_given
  where
    row_or_given : (i : ℕ) → In k m i → (u i ≤ v i) ⊎ RowBelow k m A u v i
    row_or_given i l =
        elim (ℕ_discrete r i) [ yes e ↦ inl (subst (λ x. u x ≤ v x) e h) | no n ↦ inr (rows i l n) ]

-- Solutions for two right sides, each over its denominator and times its factor. The system's own right side plays no part.
module _ (k m : ℕ) (A : Equations) (o : AllOut k m A) where
  row_below :
      (b b' : ℕ → ℕ) (c d : ℕ) (y z : ℕ → ℕ) → Solves k m (with_right A b) c y → Solves k m (with_right A b') d z
      → (i : ℕ) → In k m i → b i * c ≤ b' i * d → RowBelow k m A y z i
  unfolding diag mix
  row_below b b' c d y z s t i l h = omega (arith, s.row i l, t.row i l)

  pub ordered :
      (b b' : ℕ → ℕ) (c d f g : ℕ) (y z : ℕ → ℕ) → Solves k m (with_right A b) c y → Solves k m (with_right A b') d z
      → ((i : ℕ) → In k m i → b i * (c * f) ≤ b' i * (d * g))
      → (i : ℕ) → In k m i → y i * f ≤ z i * g
  unfolding Comparison
  ordered b b' c d f g y z s t h = comparison k m A y' z' o (λ i l. inr (rows i l))
    where
      y' : ℕ → ℕ
      y' i = y i * f

      z' : ℕ → ℕ
      z' i = z i * g

      rows : (i : ℕ) → In k m i → RowBelow k m A y' z' i
      rows i l = row_below b b' (c * f) (d * g) y' z' (solves_scale f s) (solves_scale g t) i l (h i l)

pub uniqueness : Uniqueness
unfolding Uniqueness
uniqueness k m A c d y z o s t i l =
    let b : ℕ → ℕ = λ i. (A i).right in
    let up = ordered k m A o b b c d d c y z s t (λ i l. omega arith) i l in
    let down = ordered k m A o b b d c c d z y t s (λ i l. omega arith) i l in
    le_antisymm up down

pub largest-at_its_stage : LargestAtItsStage
unfolding LargestAtItsStage Comparison
largest-at_its_stage k m A d z j o s lj h = comparison k m A z (λ i. z j) o row_or_given
  where
    row_or_given : (i : ℕ) → In k m i → (z i ≤ z j) ⊎ RowBelow k m A z (λ i. z j) i
    row_or_given i l =
        elim (ℕ_discrete i j) [
          | yes e ↦ inl (subst (λ x. z i ≤ z x) e (le_refl (z i)))
          | no n ↦
              let a = mix_const k m (A i) (z j) in
              let b = ap (λ x. x * d) (h i l n) in
              inr (omega (arith, s.row i l))
        ]
