-- The scaled system of the margins gets out, and so the row form of reading 2 is regular.
use mathlib.Core.Path.{◌≡◌, refl, sym, ap, ◌∙◌, subst}
use mathlib.Core.Logic.{◌≢◌, ◌⊎◌, inl, inr}
use Prim.Native.Nat.{ℕ, zero, suc, ◌+◌, ◌*◌, ◌-◌, ◌/◌, ◌≤◌, ◌<◌, max}
use native.Mathlib.Nat.{mul_comm, mul-pos, pos_of_ne-zero, le-max_left, eq-or-lt_of_le, le_of_eq, le_antisymm, le_of_suc-le-suc, eq_of_mul-eq-mul_left, eq_of_mul-eq-mul_right}
use native.Mathlib.Decide.{ℕ_discrete}
use native.Mathlib.Omega.{arith}
use lib.Dec.{lt→ltb}
use Rattle.exact.specs.Chains.{In, GetsOut, stop, go}
use Rattle.exact.specs.Sums.{sum}
use Rattle.exact.specs.Systems.{diag, mix, AllOut, moves, exits}
use Rattle.exact.specs.Comparison.{Comparison, RowBelow}
use Rattle.exact.proofs.Sums.{first, later, sum_cong, sum_combine, term≤sum, zero-term}
use Rattle.exact.proofs.Near.{pos-left}
use Rattle.exact.proofs.CommonDenominator.{product, product-pos, over-product}
use Rattle.exact.proofs.Comparison.{comparison}
use Rattle.definitions.specs.Matrix.{Stage, every_stage}
use Rattle.inverse.specs.Reduction.{delta, Regular}
use Rattle.inverse.specs.ExactRatios.{H, ExactRatios, RatioLaws, RatiosObey}
use Rattle.inverse.specs.ExactScaled.{scaled, ScaledGetsOut, MarginsRegular}
use Rattle.inverse.proofs.PartialSums.{delta_same, delta_other, sum-at}
use Rattle.inverse.proofs.SignedFractions.{times, times_sums, max-one}
use Rattle.inverse.proofs.ExactRatios.{ratios_obey}

-- What holds of a stage where it holds of all before it holds of every stage.
rising : (P : ℕ → Type 0) (n : ℕ) → ((i : ℕ) → i < n → ((j : ℕ) → j < i → P j) → P i) → (i : ℕ) → i < n → P i
rising P zero step i l = absurd (omega arith)
rising P (suc n) step i l =
    let before : (j : ℕ) → j < n → P j = rising P n (λ j o. step j (omega arith)) in
    elim (eq-or-lt_of_le (le_of_suc-le-suc l)) [ inl e ↦ subst P (sym e) (step n (omega arith) before) | inr o ↦ before i o ]

-- A sum that is not zero has a term that is not.
sum_some : (f : ℕ → ℕ) (k m : ℕ) → 0 < sum f k m → (j : ℕ) × In k m j × (0 < f j)
unfolding sum
sum_some f k zero h = absurd (omega arith)
sum_some f k (suc m) h = elim (ℕ_discrete (f k) 0) [
  | yes e ↦ let (j, l, p) = sum_some f (suc k) m (omega arith) in (j, later l, p)
  | no n ↦ (k, first, omega arith)
]

module _ (n : ℕ) (t : ℕ → ℕ → ℕ) (d : ℕ → ℕ) (D : ℕ) (K : ℕ → ℕ) (r : ExactRatios n t d D K) where
  pub ratio_laws : (i : ℕ) → i < n → RatioLaws n t d D K i
  unfolding RatiosObey
  ratio_laws = ratios_obey n t d D K r

  Out : ℕ → Type 0
  Out i = GetsOut 0 n (moves (scaled n t D K)) (exits (scaled n t D K)) i

  -- A stage that is not kept, one with a size to a later stage, and one with a size to an earlier kept stage.
  out_not_kept : (i : ℕ) → K i ≡ 0 → Out i
  unfolding Out scaled
  out_not_kept i z =
      let e : delta (K i) 0 1 ≡ 1 = ap (λ k. delta k 0 1) z ∙ delta_same 0 1 in
      stop (lt→ltb 0 (scaled n t D K i).exit (omega arith))

  out_later : (i j : ℕ) → In (suc i) (n - suc i) j → 0 < t i j → Out i
  unfolding Out scaled
  out_later i j l p =
      let k = (ratio_laws j (omega arith)).below_one in
      let a : 0 < t i j * (D - K j) = mul-pos p (omega arith) in
      let b = term≤sum (λ j. t i j * (D - K j)) (suc i) (n - suc i) j l in
      stop (lt→ltb 0 (scaled n t D K i).exit (omega arith))

  out_earlier : (i j : ℕ) → j < n → 0 < t i j * K j → Out j → Out i
  unfolding Out scaled
  out_earlier i j l p o = go (lt→ltb 0 (t i j * K j) p) (omega arith) o

  out_kept : (i : ℕ) → i < n → ((j : ℕ) → j < i → Out j) → 0 < H n t D K i → Out i
  unfolding H
  out_kept i l before h =
      elim (ℕ_discrete (sum (λ j. t i j * K j) 0 i) 0) [
        | yes e ↦
            let (j, o, p) = sum_some (t i) (suc i) (n - suc i) (pos-left (sum (t i) (suc i) (n - suc i)) D (omega arith)) in
            out_later i j o p
        | no e ↦ let (j, o, p) = sum_some (λ j. t i j * K j) 0 i (omega arith) in out_earlier i j (omega arith) p (before j (omega arith))
      ]

  out_stage : (i : ℕ) → i < n → ((j : ℕ) → j < i → Out j) → Out i
  out_stage i l before =
      elim (ℕ_discrete (K i) 0) [
        | yes z ↦ out_not_kept i z
        | no k ↦ out_kept i l before (pos_of_ne-zero (λ z. k ((ratio_laws i l).zero.0 z)))
      ]

  out : AllOut 0 n (scaled n t D K)
  unfolding Out
  out = record { out = λ i l. rising Out n out_stage i (omega arith) }

  -- The diagonal of a kept row is h_i, with its t_ii K_i.
  pub scaled-diag : (i : ℕ) → i < n → K i ≢ 0 → diag 0 n (scaled n t D K i) ≡ H n t D K i + t i i * K i
  unfolding diag scaled
  scaled-diag i l o = omega (arith, (ratio_laws i l).scaled, delta_other (K i) 0 1 o)

  -- A stage that is not kept has sizes to earlier such stages alone.
  pub not-kept-low : (i : ℕ) → H n t D K i ≡ 0 → (j : ℕ) → j < i → t i j * K j ≡ 0
  unfolding H
  not-kept-low i h j l = zero-term (λ j. t i j * K j) 0 i j (omega arith) (omega arith)

  pub not-kept_high : (i : ℕ) → H n t D K i ≡ 0 → (j : ℕ) → In (suc i) (n - suc i) j → t i j ≡ 0
  unfolding H
  not-kept_high i h j l =
      zero-term (t i) (suc i) (n - suc i) j (eq_of_mul-eq-mul_right D r.positive (sum (t i) (suc i) (n - suc i)) 0 (omega arith)) l

-- ---- rows

-- t p = t q, where t k = 0 and p = q wherever k = 0.
same_term : (t k p q : ℕ) → t * k ≡ 0 → (k ≡ 0 → p ≡ q) → t * p ≡ t * q
same_term zero k p q e f = omega arith
same_term (suc t) k p q e f = ap (λ x. suc t * x) (f (omega arith))

-- A row whose terms but the one at i are the same for p and q.
same_row :
    (d D c p q s s' : ℕ) → 0 < d * D
    → (d * D + 0 + c) * p + (s + c * q + s') ≡ (d * D + 0 + c) * q + (s + c * p + s') → p ≡ q
same_row d D c p q s s' l e = eq_of_mul-eq-mul_left (d * D) l p q (omega arith)

-- A kept row, scaled: M p = k u and M q = k v at the row's own stage.
scaled_side : (d D h c k u : ℕ) → k * (d * D + h) ≡ D * h → (h + c * k) * u * D ≡ (d * D + h + c * D) * (k * u)
scaled_side d D h c k u e = omega (arith, times u e)

scaled_sums :
    (A B x y M Sp Sq Su Sv D : ℕ)
    → x * M + Sq * M ≡ y * M + Sp * M → Sp * M + D * Sv ≡ Sq * M + D * Su → A * D ≡ x * M → B * D ≡ y * M
    → (A + Sv) * D ≡ (B + Su) * D
scaled_sums A B x y M Sp Sq Su Sv D row s e f = omega arith

own_side : (A p k u M : ℕ) → M * p ≡ k * u → A * (k * u) ≡ A * p * M
own_side A p k u M e = omega (arith, times A e)

scaled-row :
    (d D h c k M p q u v Sp Sq Su Sv : ℕ)
    → 0 < D
    → k * (d * D + h) ≡ D * h
    → M * p ≡ k * u → M * q ≡ k * v
    → Sp * M + D * Sv ≡ Sq * M + D * Su
    → (d * D + h + c * D) * p + Sq ≡ (d * D + h + c * D) * q + Sp
    → (h + c * k) * u + Sv ≡ (h + c * k) * v + Su
scaled-row d D h c k M p q u v Sp Sq Su Sv l e f g s row =
    let A = d * D + h + c * D in
    eq_of_mul-eq-mul_right D l ((h + c * k) * u + Sv) ((h + c * k) * v + Su)
    (scaled_sums ((h + c * k) * u) ((h + c * k) * v) (A * p) (A * q) M Sp Sq Su Sv D
    (times_sums (A * p) Sq (A * q) Sp M row) s
    (scaled_side d D h c k u e ∙ own_side A p k u M f)
    (scaled_side d D h c k v e ∙ own_side A q k v M g))

pub scaled-mix :
    (n : ℕ) (t : ℕ → ℕ → ℕ) (D : ℕ) (K : ℕ → ℕ) (i : ℕ) (x : ℕ → ℕ)
    → mix 0 n (scaled n t D K i) x ≡ sum (λ j. t i j * K j * x j) 0 n
unfolding mix scaled
scaled-mix n t D K i x = refl

-- A multiple of every K_k that is not zero, and the factor at k.
multiple : ℕ → (ℕ → ℕ) → ℕ
multiple n K = product (λ k. max 1 (K k)) 0 n

factor : ℕ → (ℕ → ℕ) → ℕ → ℕ
factor n K k = multiple n K / max 1 (K k)

multiple-pos : (n : ℕ) (K : ℕ → ℕ) → 0 < multiple n K
unfolding multiple
multiple-pos n K = product-pos (λ k. max 1 (K k)) 0 n (λ k l. le-max_left 1 (K k))

factor_is : (n : ℕ) (K : ℕ → ℕ) (k : ℕ) → k < n → max 1 (K k) * factor n K k ≡ multiple n K
unfolding factor multiple
factor_is n K k l = over-product (λ k. max 1 (K k)) 0 n k (omega arith)

factor_pos : (n : ℕ) (K : ℕ → ℕ) (k : ℕ) → k < n → 0 < factor n K k
factor_pos n K k l = pos-left (factor n K k) (max 1 (K k)) (rw (mul_comm (factor n K k) (max 1 (K k)), factor_is n K k l) (multiple-pos n K))

-- x_k / K_k, times that multiple, at each k whose K_k is not zero.
unscaled : ℕ → (ℕ → ℕ) → (ℕ → ℕ) → ℕ → ℕ
unscaled n K x k = x k * factor n K k

unscaled_is :
    (n : ℕ) (K x : ℕ → ℕ) (k : ℕ) → k < n → K k ≢ 0 → multiple n K * x k ≡ K k * unscaled n K x k
unfolding unscaled
unscaled_is n K x k l o =
    let e : K k * factor n K k ≡ multiple n K = ap (λ c. c * factor n K k) (sym (max-one (K k) (pos_of_ne-zero o))) ∙ factor_is n K k l in
    omega (arith, times (x k) e)

scaled-term :
    (t D M k p q u v : ℕ) → M * p + k * v ≡ M * q + k * u
    → t * D * p * M + D * (t * k * v) ≡ t * D * q * M + D * (t * k * u)
scaled-term t D M k p q u v e = omega (arith, times (t * D) e)

-- Two vectors with the same image under every row.
module _
    (n : ℕ) (t : ℕ → ℕ → ℕ) (d : ℕ → ℕ) (D : ℕ) (K : ℕ → ℕ) (r : ExactRatios n t d D K) (p q : ℕ → ℕ)
    (same :
    (i : ℕ) → i < n
    → (d i * D + H n t D K i + t i i * D) * p i + sum (λ k. t i k * D * q k) 0 n
    ≡ (d i * D + H n t D K i + t i i * D) * q i + sum (λ k. t i k * D * p k) 0 n)
  where
    not-kept-row : (i : ℕ) → i < n → K i ≡ 0 → ((j : ℕ) → j < i → K j ≡ 0 → p j ≡ q j) → p i ≡ q i
    not-kept-row i l z before =
        let h = (ratio_laws n t d D K r i l).zero.1 z in
        let P : ℕ → ℕ = λ k. t i k * D * p k in
        let Q : ℕ → ℕ = λ k. t i k * D * q k in
        let a = sum-at P i n l in
        let b = sum-at Q i n l in
        let low = sum_cong P Q 0 i
        (λ j o. same_term (t i j * D) (K j) (p j) (q j)
        (omega (arith, times D (not-kept-low n t d D K r i h j (omega arith)))) (before j (omega arith))) in
        let high = sum_cong P Q (suc i) (n - suc i)
        (λ j o. let e = not-kept_high n t d D K r i h j o in omega (arith, times (D * p j) e, times (D * q j) e)) in
        let row : (d i * D + 0 + t i i * D) * p i + sum Q 0 n ≡ (d i * D + 0 + t i i * D) * q i + sum P 0 n = rw h at (same i l) in
        same_row (d i) D (t i i * D) (p i) (q i) (sum Q 0 i) (sum Q (suc i) (n - suc i)) (mul-pos (r.margin i l) r.positive)
        (omega arith)

    not-kept : (i : ℕ) → i < n → K i ≡ 0 → p i ≡ q i
    not-kept = rising (λ i. K i ≡ 0 → p i ≡ q i) n (λ i l before z. not-kept-row i l z before)

    abbrev M : ℕ
    M = multiple n K

    abbrev u : ℕ → ℕ
    u = unscaled n K p

    abbrev v : ℕ → ℕ
    v = unscaled n K q

    each-term : (k : ℕ) → k < n → M * p k + K k * v k ≡ M * q k + K k * u k
    each-term k l =
        elim (ℕ_discrete (K k) 0) [
          | yes z ↦
              let e = not-kept k l z in
              omega (arith, times (multiple n K) e, times (unscaled n K q k) z, times (unscaled n K p k) z)
          | no o ↦ omega (arith, unscaled_is n K p k l o, unscaled_is n K q k l o)
        ]

    all-terms :
        (i : ℕ)
        → sum (λ k. t i k * D * p k) 0 n * M + D * sum (λ k. t i k * K k * v k) 0 n
        ≡ sum (λ k. t i k * D * q k) 0 n * M + D * sum (λ k. t i k * K k * u k) 0 n
    all-terms i =
        let a = sum_combine (λ k. t i k * D * p k) (λ k. t i k * K k * v k) M D 0 n in
        let b = sum_combine (λ k. t i k * D * q k) (λ k. t i k * K k * u k) M D 0 n in
        let c = sum_cong (λ k. t i k * D * p k * M + D * (t i k * K k * v k)) (λ k. t i k * D * q k * M + D * (t i k * K k * u k)) 0 n
        (λ k h. scaled-term (t i k) D M (K k) (p k) (q k) (u k) (v k) (each-term k (omega arith))) in
        sym a ∙ c ∙ b

    kept_row :
        (i : ℕ) → i < n → K i ≢ 0
        → diag 0 n (scaled n t D K i) * u i + mix 0 n (scaled n t D K i) v
        ≡ diag 0 n (scaled n t D K i) * v i + mix 0 n (scaled n t D K i) u
    kept_row i l o =
        rw (scaled-diag n t d D K r i l o, scaled-mix n t D K i u, scaled-mix n t D K i v)
        (scaled-row (d i) D (H n t D K i) (t i i) (K i) M (p i) (q i) (u i) (v i)
        (sum (λ k. t i k * D * p k) 0 n) (sum (λ k. t i k * D * q k) 0 n)
        (sum (λ k. t i k * K k * u k) 0 n) (sum (λ k. t i k * K k * v k) 0 n)
        r.positive (r.each i l) (unscaled_is n K p i l o) (unscaled_is n K q i l o)
        (all-terms i) (same i l))

    ordered : (i : ℕ) → i < n → u i ≤ v i
    unfolding Comparison unscaled
    ordered i l = comparison 0 n (scaled n t D K) u v (out n t d D K r) row i (omega arith)
      where
        row : (i : ℕ) → In 0 n i → (u i ≤ v i) ⊎ RowBelow 0 n (scaled n t D K) u v i
        row i l =
            elim (ℕ_discrete (K i) 0) [
              | yes z ↦ inl (le_of_eq (times (factor n K i) (not-kept i (omega arith) z)))
              | no o ↦ inr (le_of_eq (kept_row i (omega arith) o))
            ]

pub scaled_gets_out : ScaledGetsOut
unfolding ScaledGetsOut
scaled_gets_out n t d D K r = out n t d D K r

pub margins_regular : MarginsRegular
unfolding MarginsRegular Regular unscaled
margins_regular n t d D K r p q same i s =
    let rows : (i : ℕ) (l : i < n) → Stage n every_stage i = λ i l. record { below = l; part = tt } in
    let a = ordered n t d D K r p q (λ i l. same i (rows i l)) i s.below in
    let b = ordered n t d D K r q p (λ i l. sym (same i (rows i l))) i s.below in
    eq_of_mul-eq-mul_right (factor n K i) (factor_pos n K i s.below) (p i) (q i) (le_antisymm a b)
