-- The exact ratios h_j / a_jj of the margins as whole numbers over one denominator: they exist, and their laws.
use mathlib.Core.Path.{◌≡◌, refl, sym, ap, subst}
use mathlib.Core.Logic.{◌↔◌, inl, inr}
use mathlib.Core.Bool.{cond}
use Prim.Native.Nat.{ℕ, zero, suc, ◌+◌, ◌*◌, ◌-◌, ◌≤◌, ◌<◌}
use native.Mathlib.Nat.{eq-or-lt_of_le, le_of_suc-le-suc, mul-pos, eq_of_mul-eq-mul_right, lt_of_mul-lt-mul_right}
use native.Mathlib.Omega.{arith}
use lib.Dec.{eqb, lit<}
use borrow.Author.Tests.{eq-eqb, ne_eqb}
use Rattle.exact.proofs.Sums.{sum-add, sum_cong, sum_scale, sum_factor}
use Rattle.inverse.specs.ExactRatios.{H, RatiosExist, RatiosObey}
use Rattle.inverse.proofs.PartialSums.{sum-at}
use Rattle.inverse.proofs.SignedFractions.{times}

-- Ratios of the first m stages.
record RatiosTo (n : ℕ) (t : ℕ → ℕ → ℕ) (d : ℕ → ℕ) (m D : ℕ) (K : ℕ → ℕ) : Type 0 where
  positive : 0 < D
  each : (i : ℕ) → i < m → K i * (d i * D + H n t D K i) ≡ D * H n t D K i

-- H with every ratio before i, and D, multiplied by c.
H_scale :
    (n : ℕ) (t : ℕ → ℕ → ℕ) (D : ℕ) (K L : ℕ → ℕ) (c i : ℕ) → ((j : ℕ) → j < i → L j ≡ K j * c)
    → H n t (D * c) L i ≡ H n t D K i * c
unfolding H
H_scale n t D K L c i h =
    let a = sum_cong (λ j. t i j * L j) (λ j. t i j * (K j * c)) 0 i (λ j o. ap (λ x. t i j * x) (h j (omega arith))) in
    let b = sum_factor (t i) K c 0 i in
    omega arith

before_each :
    (K d D H c L H' : ℕ) → L ≡ K * c → H' ≡ H * c → K * (d * D + H) ≡ D * H → L * (d * (D * c) + H') ≡ D * c * H'
before_each K d D H c L H' e f h = rw (e, f) (omega (arith, times (c * c) h))

last-each : (d D H c L H' : ℕ) → c ≡ d * D + H → L ≡ D * H → H' ≡ H * c → L * (d * (D * c) + H') ≡ D * c * H'
last-each d D H c L H' a e f = rw (e, f) (omega (arith, times (D * H * c) a))

-- One stage more: K_i becomes D H_i, over D (d_i D + H_i).
one_more :
    (n : ℕ) (t : ℕ → ℕ → ℕ) (d : ℕ → ℕ) (i D : ℕ) (K : ℕ → ℕ) → 0 < d i → RatiosTo n t d i D K
    → (c : ℕ) (L : ℕ → ℕ) → c ≡ d i * D + H n t D K i → ((j : ℕ) → j < i → L j ≡ K j * c) → L i ≡ D * H n t D K i
    → RatiosTo n t d (suc i) (D * c) L
one_more n t d i D K margin r c L e old new =
    let scale : (j : ℕ) → j ≤ i → H n t (D * c) L j ≡ H n t D K j * c = λ j l. H_scale n t D K L c j (λ k o. old k (omega arith)) in
    let Each : ℕ → Type 0 = λ j. L j * (d j * (D * c) + H n t (D * c) L j) ≡ D * c * H n t (D * c) L j in
    let last : Each i = last-each (d i) D (H n t D K i) c (L i) (H n t (D * c) L i) e new (scale i (omega arith)) in
    record {
      positive = let l = mul-pos margin r.positive in mul-pos r.positive (omega arith);
      each =
          λ j l.
          elim (eq-or-lt_of_le (le_of_suc-le-suc l)) [
            | inl q ↦ subst Each (sym q) last
            | inr q ↦ before_each (K j) (d j) D (H n t D K j) c (L j) (H n t (D * c) L j) (old j q) (scale j (omega arith)) (r.each j q)
          ];
    }

ratios_to :
    (n : ℕ) (t : ℕ → ℕ → ℕ) (d : ℕ → ℕ) → ((i : ℕ) → i < n → 0 < d i) → (m : ℕ) → m ≤ n
    → (D : ℕ) × (K : ℕ → ℕ) × RatiosTo n t d m D K
ratios_to n t d margins zero l = (1, λ j. 0, record { positive = lit< tt; each = λ i o. absurd (omega arith) })
ratios_to n t d margins (suc i) l =
    let (D, K, r) = ratios_to n t d margins i (omega arith) in
    let c = d i * D + H n t D K i in (
      D * c,
      λ j. cond (eqb j i) (D * H n t D K i) (K j * c),
      one_more n t d i D K (margins i l) r c (λ j. cond (eqb j i) (D * H n t D K i) (K j * c)) refl
          (λ j o. rw (ne_eqb j i (omega arith)))
          (rw (eq-eqb i i refl)),
    )

pub ratios_exist : RatiosExist
unfolding RatiosExist
ratios_exist n t d margins =
    let (D, K, r) = ratios_to n t d margins n (omega arith) in
    (D, K, record { positive = r.positive; margin = margins; each = r.each })

-- ---- what follows for them
ratio-rest : (k r d D h : ℕ) → k + r ≡ D → k * (d * D + h) ≡ D * h → r * (d * D + h) ≡ D * (d * D)
ratio-rest k r d D h f e = omega (arith, times (d * D + h) f)

module _ (k d D h : ℕ) (p : 0 < D) (q : 0 < d) (e : k * (d * D + h) ≡ D * h) where
  ratio-below : k < D
  ratio-below = lt_of_mul-lt-mul_right (d * D + h) (rw e (omega (arith, mul-pos p (mul-pos q p))))

  ratio-zero : (h ≡ 0) ↔ (k ≡ 0)
  ratio-zero =
      let l = mul-pos q p in (
        λ z. eq_of_mul-eq-mul_right (d * D + h) (omega arith) k 0 (omega (arith, times D z)),
        λ z. eq_of_mul-eq-mul_right D p h 0 (omega (arith, times (d * D + h) z)),
      )

  ratio-complement : (D - k) * (d * D + h) ≡ D * (d * D)
  ratio-complement = let l = ratio-below in ratio-rest k (D - k) d D h (omega arith) e

rest-term : (t k r D : ℕ) → k + r ≡ D → t * r + t * k ≡ t * D
rest-term t k r D e = omega (arith, times t e)

pub ratios_obey : RatiosObey
unfolding RatiosObey H
ratios_obey n t d D K r i l =
    let below : (j : ℕ) → j < n → K j < D = λ j o. ratio-below (K j) (d j) D (H n t D K j) r.positive (r.margin j o) (r.each j o) in
    let q = n - suc i in
    let a = sum-at (λ j. t i j * K j) i n l in
    let b = sum_scale (t i) D (suc i) q in
    let c = sum-add (λ j. t i j * (D - K j)) (λ j. t i j * K j) (suc i) q in
    let e = sum_cong (λ j. t i j * (D - K j) + t i j * K j) (λ j. t i j * D) (suc i) q
    (λ j o. let m = below j (omega arith) in rest-term (t i j) (K j) (D - K j) D (omega arith)) in
    record {
      below_one = below i l;
      zero = ratio-zero (K i) (d i) D (H n t D K i) r.positive (r.margin i l) (r.each i l);
      complement = ratio-complement (K i) (d i) D (H n t D K i) r.positive (r.margin i l) (r.each i l);
      scaled = omega arith;
    }
