-- One row changed, and all rows changed one after the other.
use mathlib.Core.Path.{◌≡◌, refl, sym, ◌∙◌, ap, subst}
use mathlib.Core.Logic.{◌≢◌, inl, inr}
use Prim.Native.Nat.{ℕ, zero, suc, ◌+◌, ◌*◌, ◌-◌, ◌^◌, ◌≤◌, ◌<◌}
use native.Mathlib.Nat.{add-suc, le_refl, mul_comm, sub_self, mul-le-mul_left, eq-zero-or-pos}
use native.Mathlib.Decide.{ℕ_discrete, dec_le, dec_lt}
use native.Mathlib.Omega.{arith}
use Rattle.exact.specs.Chains.{In}
use Rattle.exact.specs.Near.{Near, base, next}
use Rattle.exact.specs.Systems.{Row, Equations, diag, mix, RowHolds, Solves, AllOut}
use Rattle.exact.specs.Comparison.{RowBelow, Comparison, Uniqueness}
use Rattle.exact.specs.Elimination.{Existence}
use Rattle.exact.specs.Perturbation.{NearMoves, NearRow, OneRow, AllRows}
use Rattle.exact.proofs.Near.{base≤next, near_eq, near_refl, near_sym, near_trans, near_grow, near_scale, near_scale_left, near_cancel, near_through, near_add, near_sum, near_pos}
use Rattle.exact.proofs.Systems.{mix_cong, mix-add, mix_scale, mix_const, solves_cong, solves_at, solves_scale, all_out_mono}
use Rattle.exact.proofs.Comparison.{comparison, comparison_but, uniqueness}
use Rattle.exact.proofs.Elimination.{existence}

pub near_moves_refl : {e k m r : ℕ} {x : Row} → NearMoves e k m r x x
near_moves_refl = record { size = λ j l n. near_refl; exit = near_refl }

pub near_row_sym : {e k m r : ℕ} {x y : Row} → NearRow e k m r x y → NearRow e k m r y x
near_row_sym h =
    record {
      moves = record { size = λ j l n. near_sym (h.moves.size j l n); exit = near_sym h.moves.exit };
      right = near_sym h.right;
    }

-- Rows that are near have the same zeros.
pub near_out :
    {e k m : ℕ} {A B : Equations} → AllOut k m A → ((i : ℕ) → In k m i → NearMoves e k m i (A i) (B i)) → AllOut k m B
near_out o h = all_out_mono o (λ i j li lj n p. near_pos ((h i li).size j lj n) p) (λ i li p. near_pos (h i li).exit p)

-- Σ T_j v_j of two near rows, at a vector that is zero at their own stage: the diagonal plays no part.
pub near_mix :
    {e k m r : ℕ} {x y : Row} (v : ℕ → ℕ) → v r ≡ 0 → NearMoves e k m r x y → Near e (mix k m x v) (mix k m y v)
unfolding mix
near_mix {e} {k} {m} {r} {x} {y} v o h = near_sum (λ j. x.size j * v j) (λ j. y.size j * v j) k m term
  where
    term : (j : ℕ) → In k m j → Near e (x.size j * v j) (y.size j * v j)
    term j l =
        elim (ℕ_discrete r j) [
          | yes q ↦ let z : v j ≡ 0 = subst (λ t. v t ≡ 0) q o in rw z (near_eq (omega arith))
          | no n ↦ near_scale (v j) (h.size j l n)
        ]

-- A difference of vectors.
mix-sub :
    (k m : ℕ) (row : Row) (y z : ℕ → ℕ) → ((j : ℕ) → In k m j → z j ≤ y j)
    → mix k m row (λ j. y j - z j) + mix k m row z ≡ mix k m row y
mix-sub k m row y z h =
    sym (mix-add k m row (λ j. y j - z j) z) ∙ mix_cong k m row (λ j. y j - z j + z j) y (λ j l. omega (arith, h j l))

-- Two vectors that satisfy every row but row r are in the order that they have at r.
spread :
    (k m : ℕ) (A : Equations) → AllOut k m A → (r d : ℕ) (y z : ℕ → ℕ)
    → ((i : ℕ) → In k m i → r ≢ i → RowHolds k m (A i) d y i)
    → ((i : ℕ) → In k m i → r ≢ i → RowHolds k m (A i) d z i)
    → (a b : ℕ) → a ≤ b → y r * a ≤ z r * b
    → (i : ℕ) → In k m i → y i * a ≤ z i * b
spread k m A o r d y z s t a b l h = comparison_but k m A o r (λ i. y i * a) (λ i. z i * b) h row
  where
    row : (i : ℕ) → In k m i → r ≢ i → RowBelow k m A (λ i. y i * a) (λ i. z i * b) i
    row i li n =
        let p = mix_scale k m (A i) y a in
        let q = mix_scale k m (A i) z b in
        let u = ap (λ x. x * a) (s i li n) in
        let v = ap (λ x. x * b) (t i li n) in
        omega (arith, mul-le-mul_left ((A i).right * d) l)

-- The solution z of A, and z + w of B, which differs in row r.
module _
    (k m : ℕ) (A B : Equations) (o : AllOut k m A) (o' : AllOut k m B) (r d : ℕ) (lr : In k m r) (z w : ℕ → ℕ)
    (same : (i : ℕ) → In k m i → r ≢ i → A i ≡ B i) (s : Solves k m A d z) (t : Solves k m B d (λ i. z i + w i)) where
  -- Off r the growth w has no right side.
  growth-row : (i : ℕ) → In k m i → r ≢ i → diag k m (A i) * w i ≡ mix k m (A i) w
  growth-row i l n =
      let h = subst (λ row. RowHolds k m row d (λ j. z j + w j) i) (sym (same i l n)) (t.row i l) in
      omega (arith, h, s.row i l, mix-add k m (A i) z w)

  -- It is largest at r,
  growth-largest : (j : ℕ) → In k m j → w j ≤ w r
  growth-largest =
      comparison_but k m A o r w (λ i. w r) (le_refl (w r))
      (λ i l n. omega (arith, growth-row i l n, mix_const k m (A i) (w r)))

  -- and so is its share of z.
  growth-share : (j : ℕ) → In k m j → w j * z r ≤ z j * w r
  growth-share = comparison_but k m A o r (λ j. w j * z r) (λ j. z j * w r) (omega arith) row
    where
      row : (i : ℕ) → In k m i → r ≢ i → RowBelow k m A (λ j. w j * z r) (λ j. z j * w r) i
      row i l n =
          let a = mix_scale k m (A i) w (z r) in
          let b = mix_scale k m (A i) z (w r) in
          omega (arith, ap (λ x. x * z r) (growth-row i l n), ap (λ x. x * w r) (s.row i l))

  -- For a row x of stage r, P = s w_r + Σ T_j (w_r − w_j) and N = b w_r + Σ T_j (z_j w_r − z_r w_j): no term is negative.
  P : Row → ℕ
  P x = x.exit * w r + mix k m x (λ j. w r - w j)

  N : Row → ℕ
  N x = x.right * d * w r + mix k m x (λ j. z j * w r - w j * z r)

  P_law : (x : Row) → P x + mix k m x w ≡ diag k m x * w r
  unfolding P
  P_law x = omega (arith, mix-sub k m x (λ j. w r) w growth-largest, mix_const k m x (w r))

  N_law : (x : Row) → N x + mix k m x w * z r ≡ x.right * d * w r + mix k m x z * w r
  unfolding N
  N_law x =
      let a = mix-sub k m x (λ j. z j * w r) (λ j. w j * z r) growth-share in
      omega (arith, a, mix_scale k m x z (w r), mix_scale k m x w (z r))

  -- The two rows r say z_r P = N and (z_r + w_r) P' = N'.
  old_row : z r * P (A r) ≡ N (A r)
  old_row = omega (arith, ap (λ x. z r * x) (P_law (A r)), N_law (A r), ap (λ x. x * w r) (s.row r lr))

  new_row : (z r + w r) * P (B r) ≡ N (B r)
  new_row =
      let h = rw (mix-add k m (B r) z w) at (t.row r lr) in
      omega (arith, ap (λ x. (z r + w r) * x) (P_law (B r)), N_law (B r), ap (λ x. x * w r) h)

  -- Where P' is zero, w solves B with right side zero, so it is zero.
  no_growth : P (B r) ≡ 0 → w r ≤ 0
  unfolding Comparison
  no_growth p = comparison k m B w (λ i. 0) o' (λ i l. inr (omega (arith, row i l, mix_const k m (B i) 0))) r lr
    where
      row : (i : ℕ) → In k m i → diag k m (B i) * w i ≡ mix k m (B i) w
      row i l =
          elim (ℕ_discrete r i) [
            | yes e ↦ subst (λ x. diag k m (B x) * w x ≡ mix k m (B x) w) e (omega (arith, P_law (B r)))
            | no n ↦ subst (λ x. diag k m x * w i ≡ mix k m x w) (same i l n) (growth-row i l n)
          ]

  module _ (e : ℕ) (near : NearRow e k m r (A r) (B r)) where
    near_P : Near e (P (A r)) (P (B r))
    unfolding P
    near_P = near_add (near_scale (w r) near.moves.exit) (near_mix (λ j. w r - w j) (sub_self (w r)) near.moves)

    near_N : Near e (N (A r)) (N (B r))
    unfolding N
    near_N =
        let b = near_scale (w r) (near_scale d near.right) in
        near_add b (near_mix (λ j. z j * w r - w j * z r) (omega arith) near.moves)

    -- z_r P' is within e of z_r P = N, which is within e of N' = (z_r + w_r) P'.
    near_at_row : Near (e + e) (z r) (z r + w r)
    near_at_row =
        elim (eq-zero-or-pos (P (B r))) [
          | inl p ↦ near_eq (omega (arith, no_growth p))
          | inr p ↦
              let a : Near e (z r * P (B r)) (z r * P (A r)) = near_scale_left (z r) (near_sym near_P) in
              let b : Near e (z r * P (A r)) ((z r + w r) * P (B r)) = rw (old_row, new_row) near_N in
              near_cancel p (near_trans a b)
        ]

-- Solutions y of A and z of B, which differs in row r, over one denominator.
module _
    (k m : ℕ) (A B : Equations) (o : AllOut k m A) (e r d : ℕ) (lr : In k m r) (y z : ℕ → ℕ)
    (same : (i : ℕ) → In k m i → r ≢ i → A i ≡ B i) (near : NearRow e k m r (A r) (B r))
    (s : Solves k m A d y) (t : Solves k m B d z) where
  new_out : AllOut k m B
  new_out = near_out o moves
    where
      moves : (i : ℕ) → In k m i → NearMoves e k m i (A i) (B i)
      moves i l =
          elim (ℕ_discrete r i) [
            | yes q ↦ subst (λ x. NearMoves e k m x (A x) (B x)) q near.moves
            | no n ↦ subst (λ x. NearMoves e k m i (A i) x) (same i l n) near_moves_refl
          ]

  -- Both satisfy A's rows off r.
  old_rows : (i : ℕ) → In k m i → r ≢ i → RowHolds k m (A i) d y i
  old_rows i l n = s.row i l

  new_rows : (i : ℕ) → In k m i → r ≢ i → RowHolds k m (A i) d z i
  new_rows i l n = subst (λ row. RowHolds k m row d z i) (sym (same i l n)) (t.row i l)

  -- If the new entry at r is the larger one, all are, and the growth is z − y.
  all_larger : y r ≤ z r → (i : ℕ) → In k m i → z i ≡ y i + (z i - y i)
  all_larger h i l = omega (arith, spread k m A o r d y z old_rows new_rows 1 1 (le_refl 1) (omega arith) i l)

  near_if_larger : y r ≤ z r → Near (e + e) (y r) (z r)
  near_if_larger h =
      let t' = solves_at z (λ i. y i + (z i - y i)) (all_larger h) t in
      let n = near_at_row k m A B o new_out r d lr y (λ i. z i - y i) same s t' e near in
      rw (all_larger h r lr) n

  -- Near at r, near everywhere.
  near_spread : (f : ℕ) → Near f (y r) (z r) → (i : ℕ) → In k m i → Near f (y i) (z i)
  near_spread f h i l =
      let up = spread k m A o r d y z old_rows new_rows (base ^ f) (next ^ f) (base≤next f) h.upper i l in
      let down = spread k m A o r d z y new_rows old_rows (base ^ f) (next ^ f) (base≤next f) h.lower i l in
      record { upper = up; lower = down }

one-row-over :
    (k m : ℕ) (A B : Equations) (e r d : ℕ) (y z : ℕ → ℕ) → AllOut k m A → In k m r
    → ((i : ℕ) → In k m i → r ≢ i → A i ≡ B i)
    → NearRow e k m r (A r) (B r)
    → Solves k m A d y → Solves k m B d z
    → (i : ℕ) → In k m i → Near (e + e) (y i) (z i)
one-row-over k m A B e r d y z o lr same near s t = near_spread k m A B o e r d lr y z same near s t (e + e) at_row
  where
    o' : AllOut k m B
    o' = new_out k m A B o e r d lr y z same near s t

    same' : (i : ℕ) → In k m i → r ≢ i → B i ≡ A i
    same' i l n = sym (same i l n)

    at_row : Near (e + e) (y r) (z r)
    at_row =
        elim (dec_le (y r) (z r)) [
          | yes h ↦ near_if_larger k m A B o e r d lr y z same near s t h
          | no n ↦ near_sym (near_if_larger k m B A o' e r d lr z y same' (near_row_sym near) t s (omega arith))
        ]

pub one-row : OneRow
unfolding OneRow
one-row k m A B e r c d y z o lr same near s t i l =
    let s' : Solves k m A (c * d) (λ i. y i * d) = solves_scale d s in
    let t' : Solves k m B (c * d) (λ i. z i * c) = rw (mul_comm c d) (solves_scale c t) in
    let h = one-row-over k m A B e r (c * d) (λ i. y i * d) (λ i. z i * c) o lr same near s' t' i l in
    near_grow {e = e + e} (omega arith) h

-- B's rows before stage q, A's from there on.
module _ (A B : Equations) where
  pick : (i q : ℕ) → Dec (i < q) → Row
  pick i q (yes h) = B i
  pick i q (no n) = A i

  hybrid : ℕ → Equations
  hybrid q i = pick i q (dec_lt i q)

  hybrid_before : (q i : ℕ) → i < q → hybrid q i ≡ B i
  unfolding hybrid pick
  hybrid_before q i h = elim (dec_lt i q) as (λ t. pick i q t ≡ B i) [ yes l ↦ refl | no n ↦ absurd (n h) ]

  hybrid_after : (q i : ℕ) → q ≤ i → hybrid q i ≡ A i
  unfolding hybrid pick
  hybrid_after q i h = elim (dec_lt i q) as (λ t. pick i q t ≡ A i) [ yes l ↦ absurd (omega arith) | no n ↦ refl ]

  -- One step changes row q alone.
  hybrid_same : (q i : ℕ) → q ≢ i → hybrid q i ≡ hybrid (suc q) i
  hybrid_same q i n =
      elim (dec_lt i q) [
        | yes l ↦ hybrid_before q i l ∙ sym (hybrid_before (suc q) i (omega arith))
        | no m ↦ hybrid_after q i (omega arith) ∙ sym (hybrid_after (suc q) i (omega arith))
      ]

  module _ (k m e : ℕ) (o : AllOut k m A) (near : (i : ℕ) → In k m i → NearRow e k m i (A i) (B i)) where
    hybrid_step : (q : ℕ) → In k m q → NearRow e k m q (hybrid q q) (hybrid (suc q) q)
    hybrid_step q l = rw (hybrid_after q q (omega arith), hybrid_before (suc q) q (omega arith)) (near q l)

    hybrid_out : (q : ℕ) → AllOut k m (hybrid q)
    hybrid_out q = near_out o moves
      where
        moves : (i : ℕ) → In k m i → NearMoves e k m i (A i) (hybrid q i)
        moves i l =
            elim (dec_lt i q) [
              | yes h ↦ rw (hybrid_before q i h) (near i l).moves
              | no n ↦ rw (hybrid_after q i (omega arith)) near_moves_refl
            ]

    -- After t rows; each hybrid has a solution, to go on from.
    walk :
        (c : ℕ) (y : ℕ → ℕ) → Solves k m A c y → (t : ℕ) → t ≤ m
        → (d : ℕ) (z : ℕ → ℕ) → Solves k m (hybrid (k + t)) d z
        → (i : ℕ) → In k m i → Near (t * (2 * e)) (y i * d) (z i * c)
    unfolding Uniqueness Existence OneRow
    walk c y s zero h d z u i l =
        let u' = solves_cong (λ j lj. hybrid_after (k + 0) j (omega arith)) u in
        near_eq (uniqueness k m A c d y z o s u' i l)
    walk c y s (suc t) h d z u i l =
        let q = k + t in
        let (b, v, p, sv) = existence k m (hybrid q) (hybrid_out q) in
        let lq : In k m q = omega arith in
        let same : (j : ℕ) → In k m j → q ≢ j → hybrid q j ≡ hybrid (suc q) j = λ j lj n. hybrid_same q j n in
        let u' : Solves k m (hybrid (suc q)) d z = rw add-suc at u in
        let before = walk c y s t (omega arith) b v sv i l in
        let step = one-row k m (hybrid q) (hybrid (suc q)) e q b d v z (hybrid_out q) lq same (hybrid_step q lq) sv u' i l in
        near_grow {e = t * (2 * e) + 2 * e} (omega arith) (near_through c d (y i) (v i) (z i) p before step)

pub all-rows : AllRows
unfolding AllRows
all-rows k m A B e c d y z o near s t i l =
    let t' = solves_cong (λ i l. sym (hybrid_before A B (k + m) i l.high)) t in
    near_grow {e = m * (2 * e)} (omega arith) (walk A B k m e o near c y s m (le_refl m) d z t' i l)
