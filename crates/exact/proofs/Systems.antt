-- Laws of a row (Σ T_j z_j is linear in z) and of what a solution and a chain depend on.
use mathlib.Core.Path.{◌≡◌, refl, ap, subst, ◌∙◌}
use mathlib.Core.Logic.{◌≢◌}
use Prim.Native.Nat.{ℕ, zero, suc, ◌+◌, ◌*◌, ◌<◌}
use native.Mathlib.Omega.{arith}
use lib.Dec.{T, ltb→lt, lt→ltb}
use Rattle.exact.specs.Chains.{In}
use Rattle.exact.specs.Sums.{sum}
use Rattle.exact.specs.Systems.{Row, Equations, diag, mix, RowHolds, Solves, AllOut, moves, exits}
use Rattle.exact.proofs.Sums.{sum_cong, sum_scale, sum_factor}
use Rattle.exact.proofs.Chains.{gets_out_mono}

pub mix_cong :
    (k m : ℕ) (row : Row) (y z : ℕ → ℕ) → ((i : ℕ) → In k m i → y i ≡ z i) → mix k m row y ≡ mix k m row z
unfolding mix
mix_cong k m row y z h =
    sum_cong (λ j. row.size j * y j) (λ j. row.size j * z j) k m (λ j l. ap (λ t. row.size j * t) (h j l))

pub mix-add : (k m : ℕ) (row : Row) (y z : ℕ → ℕ) → mix k m row (λ i. y i + z i) ≡ mix k m row y + mix k m row z
unfolding mix sum
mix-add k zero row y z = refl
mix-add k (suc m) row y z = let h = mix-add (suc k) m row y z in omega arith

pub mix_scale : (k m : ℕ) (row : Row) (z : ℕ → ℕ) (c : ℕ) → mix k m row (λ i. z i * c) ≡ mix k m row z * c
unfolding mix
mix_scale k m row z c = sum_factor row.size z c k m

-- At a constant vector: the diagonal without the exit.
pub mix_const : (k m : ℕ) (row : Row) (c : ℕ) → row.exit * c + mix k m row (λ i. c) ≡ diag k m row * c
unfolding mix diag
mix_const k m row c = let s = sum_scale row.size c k m in omega arith

-- The first stage's part.
pub diag_head : (k m : ℕ) (row : Row) → diag k (suc m) row ≡ row.size k + diag (suc k) m row
unfolding diag sum
diag_head k m row = omega arith

pub mix_head : (k m : ℕ) (row : Row) (z : ℕ → ℕ) → mix k (suc m) row z ≡ row.size k * z k + mix (suc k) m row z
unfolding mix sum
mix_head k m row z = refl

-- Solutions depend on the rows and the entries in the range alone, and numerators scale with their denominator.
pub solves_cong :
    {k m : ℕ} {A B : Equations} {d : ℕ} {z : ℕ → ℕ}
    → ((i : ℕ) → In k m i → A i ≡ B i) → Solves k m A d z → Solves k m B d z
solves_cong {k} {m} {d = d} {z = z} h s =
    record { row = λ i l. subst (λ row. RowHolds k m row d z i) (h i l) (s.row i l) }

-- Rows with the same numbers in the range.
pub record SameRow (k m : ℕ) (x y : Row) : Type 0 where
  pub size : (j : ℕ) → In k m j → x.size j ≡ y.size j
  pub exit : x.exit ≡ y.exit
  pub right : x.right ≡ y.right

pub solves_same :
    {k m : ℕ} {A B : Equations} {d : ℕ} {z : ℕ → ℕ}
    → ((i : ℕ) → In k m i → SameRow k m (A i) (B i)) → Solves k m A d z → Solves k m B d z
unfolding diag mix
solves_same {k} {m} {A} {B} {d} {z} h s = record { row = row }
  where
    row : (i : ℕ) → In k m i → RowHolds k m (B i) d z i
    row i l =
        let same = h i l in
        rw (
          ← same.exit,
          ← same.right,
          ← (sum_cong (A i).size (B i).size k m same.size),
          ← (sum_cong (λ j. (A i).size j * z j) (λ j. (B i).size j * z j) k m (λ j o. ap (λ x. x * z j) (same.size j o))),
        )
        (s.row i l)

pub solves_at :
    {k m : ℕ} {A : Equations} {d : ℕ} (y z : ℕ → ℕ)
    → ((i : ℕ) → In k m i → y i ≡ z i) → Solves k m A d y → Solves k m A d z
solves_at {k} {m} {A} y z h s =
    record { row = λ i l. rw (← (h i l), ← (mix_cong k m (A i) y z h)) (s.row i l) }

pub solves_scale :
    {k m : ℕ} {A : Equations} {d : ℕ} {z : ℕ → ℕ} (c : ℕ) → Solves k m A d z → Solves k m A (d * c) (λ i. z i * c)
solves_scale {k} {m} {A} {z = z} c s =
    record { row = λ i l. rw (mix_scale k m (A i) z c) (omega (arith, ap (λ t. t * c) (s.row i l))) }

-- A row multiplied by c has the same solutions.
abbrev pub multiplied : ℕ → Row → Row
multiplied c row = record { size = λ j. row.size j * c; exit = row.exit * c; right = row.right * c }

multiplied-diag : (k m c : ℕ) (row : Row) → diag k m (multiplied c row) ≡ diag k m row * c
unfolding diag
multiplied-diag k m c row = let s = sum_scale row.size c k m in omega arith

multiplied-mix : (k m c : ℕ) (row : Row) (z : ℕ → ℕ) → mix k m (multiplied c row) z ≡ mix k m row z * c
unfolding mix
multiplied-mix k m c row z =
    sum_cong (λ j. row.size j * c * z j) (λ j. row.size j * z j * c) k m (λ j l. omega arith)
    ∙ sum_scale (λ j. row.size j * z j) c k m

pub solves_multiplied :
    {k m : ℕ} {A : Equations} {d : ℕ} {z : ℕ → ℕ} (c : ℕ) → Solves k m A d z → Solves k m (λ i. multiplied c (A i)) d z
solves_multiplied {k} {m} {A} {d} {z} c s = record { row = row }
  where
    row : (i : ℕ) → In k m i → RowHolds k m (multiplied c (A i)) d z i
    row i l = rw (multiplied-diag k m c (A i), multiplied-mix k m c (A i) z) (omega (arith, ap (λ x. x * c) (s.row i l)))

-- Getting out depends on which numbers are zero, and not on the diagonal.
pub all_out_mono :
    {k m : ℕ} {A B : Equations} → AllOut k m A
    → ((i j : ℕ) → In k m i → In k m j → i ≢ j → 0 < (A i).size j → 0 < (B i).size j)
    → ((i : ℕ) → In k m i → 0 < (A i).exit → 0 < (B i).exit)
    → AllOut k m B
all_out_mono {k} {m} {A} {B} o f g = record { out = λ i l. gets_out_mono move_kept exit_kept l (o.out i l) }
  where
    move_kept : (i j : ℕ) → In k m i → In k m j → i ≢ j → T (moves A i j) → T (moves B i j)
    move_kept i j li lj d t = lt→ltb zero ((B i).size j) (f i j li lj d (ltb→lt zero ((A i).size j) t))

    exit_kept : (i : ℕ) → In k m i → T (exits A i) → T (exits B i)
    exit_kept i l t = lt→ltb zero (B i).exit (g i l (ltb→lt zero (A i).exit t))

pub all_out_same :
    {k m : ℕ} {A B : Equations} → ((i : ℕ) → In k m i → SameRow k m (A i) (B i)) → AllOut k m A → AllOut k m B
all_out_same h o = all_out_mono o (λ i j li lj d p. subst (λ x. 0 < x) ((h i li).size j lj) p) (λ i li p. subst (λ x. 0 < x) (h i li).exit p)
