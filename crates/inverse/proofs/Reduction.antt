-- The accuracy rule follows from its whole-number form. X has the entries z_ji / Z_j; a matrix Y that is inverse too has each
-- column over the product of its denominators, as P − Q over D, and Z-as-P is compared with Z-as-Q + D·z.
use mathlib.Core.Path.{◌≡◌, refl, sym, ap, ◌∙◌, subst, fun_ext}
use mathlib.Core.Logic.{◌≢◌, ◌⊎◌, inl, inr}
use mathlib.Core.Bool.{Bool, true, false, not, cond}
use Prim.Native.Nat.{ℕ, ◌+◌, ◌*◌, ◌/◌, ◌^◌, ◌≤◌, ◌<◌, zero-le}
use native.Mathlib.Nat.{zero-mul, mul-zero, mul_comm, mul_right_comm, mul-pos, le_antisymm, le_of_eq, le_of_mul-le-mul_right}
use native.Mathlib.Omega.{arith}
use lib.Dec.{T, T_not, eqb, lit<}
use lib.Ieee.{Float}
use lib.Ieee.Bits.{is_true}
use Rattle.exact.specs.Chains.{In}
use Rattle.exact.specs.Near.{base, next, Near}
use Rattle.exact.specs.Sums.{sum}
use Rattle.exact.specs.Systems.{Equations, diag, mix, AllOut}
use Rattle.exact.specs.Comparison.{RowBelow, Comparison}
use Rattle.exact.proofs.Cases.{by_bool}
use Rattle.exact.proofs.Comparison.{comparison}
use Rattle.exact.proofs.CommonDenominator.{product, product-pos, over-product}
use Rattle.exact.proofs.Sums.{sum-add, sum_cong, zero-sum, sum_scale, sum_factor}
use Rattle.definitions.specs.Fractions.{Fraction, ◌≈◌, whole, ◌*ᶠ◌, total}
use Rattle.definitions.specs.Matrix.{Stage, every_stage, Inverse}
use Rattle.definitions.specs.Numbers.{0·0, units}
use Rattle.definitions.specs.Accuracy.{growth, extended}
use Rattle.inverse.specs.Reduction.{plus_part, minus_part, Ratio, delta, RowForm, Columns, Regular, Apart, fraction, InverseReduction, NearFraction, EntryReduction, TableReduction, Reduction, SystemInverse}
use Rattle.inverse.proofs.PartialSums.{delta_other, delta-times, sum-delta, sum-mix}
use Rattle.rounding.specs.Good.{Good, one·units}
use Rattle.rounding.proofs.Laws.{one-pos, good-finite, zero_is_good, units-zero}
use Rattle.inverse.proofs.SignedFractions.{times, own-ratio, ratio_as, ratio_carry, ratios_agree, ratio_of_equal, same_ratio, ratio_scale, ratio-mul, plain_mul, ratio-total, plain_le, plain_sign, whole-ratio, max-one, value-ratio}
use Rattle.exact.proofs.Near.{base-pos, near_eq, pos-left}

-- The entry (i, j) of the identity.
delta-whole : (i j : ℕ) → Ratio (cond (eqb i j) (whole 1) (whole 0)) (delta i j 1) 0 1
delta-whole i j = go (eqb i j)
  where
    go : (b : Bool) → Ratio (cond b (whole 1) (whole 0)) (cond b 1 0) 0 1
    go true = whole-ratio 1
    go false = whole-ratio 0

-- ---- a column of fractions and its image

-- The terms of row i that p − q adds to its image; those of q − p it takes away.
added : ℕ → (ℕ → ℕ) → (ℕ → ℕ → ℕ) → (ℕ → ℕ) → (ℕ → ℕ) → ℕ → ℕ
added n a t p q i = a i * p i + sum (λ k. t i k * q k) 0 n

added_terms :
    (n : ℕ) (a : ℕ → ℕ) (t : ℕ → ℕ → ℕ) (p q : ℕ → ℕ) (i : ℕ) → i < n
    → sum (λ k. delta i k (a i) * p k + t i k * q k) 0 n ≡ added n a t p q i
unfolding added
added_terms n a t p q i l =
    sum-add (λ k. delta i k (a i) * p k) (λ k. t i k * q k) 0 n
    ∙ ap (λ x. x + sum (λ k. t i k * q k) 0 n) (sum-delta i (a i) n p l)

-- Row i of the matrix applied to a column.
abbrev applied : ℕ → (ℕ → Bool) → (ℕ → ℕ → Fraction) → (ℕ → Fraction) → ℕ → Fraction
applied n on A Y i = total on (λ k. A i k *ᶠ Y k) n

-- (P − Q)/D at each stage that takes part.
pub record SignedColumn (n : ℕ) (on : ℕ → Bool) (Y : ℕ → Fraction) (P Q : ℕ → ℕ) (D : ℕ) : Type 0 where
  pub positive : 0 < D
  pub ratio : (k : ℕ) → Stage n on k → Ratio (Y k) (P k) (Q k) D

module _
    (n : ℕ) (on : ℕ → Bool) (A : ℕ → ℕ → Fraction) (a : ℕ → ℕ) (t : ℕ → ℕ → ℕ) (c : ℕ → ℕ)
    (rows : RowForm n A a t c) (apart : Apart n on t)
  where
    off_terms :
        (P Q : ℕ → ℕ) (i k : ℕ) → Stage n on i → k < n → T (not (on k))
        → delta i k (a i) * P k + t i k * Q k ≡ delta i k (a i) * Q k + t i k * P k
    unfolding Apart
    off_terms P Q i k s l o =
        let ne : i ≢ k = λ e. T_not (on k) o (subst (λ j. T (on j)) e s.part) in
        rw (delta_other i k (a i) ne, apart i k s l o) (omega arith)

    module _ (Y : ℕ → Fraction) (P Q : ℕ → ℕ) (D : ℕ) (y : SignedColumn n on Y P Q D) (i j : ℕ) (s : Stage n on i) where
      image : Ratio (applied n on A Y i) (added n a t P Q i) (added n a t Q P i) (c i * D)
      image =
          ratio_as
          (ratio-total on (λ k. A i k *ᶠ Y k)
          (λ k. delta i k (a i) * P k + t i k * Q k) (λ k. delta i k (a i) * Q k + t i k * P k) (c i * D) n
          (λ k l o. ratio-mul (rows.entry i k s.below l) (y.ratio k (record { below = l; part = o })))
          (λ k l o. off_terms P Q i k s l o))
          (added_terms n a t P Q i s.below) (added_terms n a t Q P i s.below) refl

      -- It is 1 where i = j, and 0 elsewhere, exactly when the whole numbers say so.
      image_delta :
          added n a t P Q i ≡ delta i j (c i) * D + added n a t Q P i → applied n on A Y i ≈ cond (eqb i j) (whole 1) (whole 0)
      image_delta e =
          let d = delta-times i j (c i) D in
          same_ratio (lit< tt) (ratio_carry (mul-pos (rows.positive i s.below) y.positive) image (omega arith)) (delta-whole i j)

      delta_image :
          applied n on A Y i ≈ cond (eqb i j) (whole 1) (whole 0) → added n a t P Q i ≡ delta i j (c i) * D + added n a t Q P i
      delta_image e =
          let d = delta-times i j (c i) D in
          omega (arith, ratios_agree image (ratio_of_equal (applied n on A Y i) e (delta-whole i j)))

-- Any column of fractions, over the product of its denominators.
any-column : (n : ℕ) (on : ℕ → Bool) (Y : ℕ → Fraction) → (P : ℕ → ℕ) × (Q : ℕ → ℕ) × (D : ℕ) × SignedColumn n on Y P Q D
any-column n on Y =
    let d : ℕ → ℕ = λ k. (Y k).den in
    let D = product d 0 n in (
      λ k. plus_part (Y k).num * (D / d k),
      λ k. minus_part (Y k).num * (D / d k),
      D,
      record {
        positive = product-pos d 0 n (λ k l. (Y k).positive);
        ratio = λ k s. ratio_as (ratio_scale (D / d k) (own-ratio (Y k))) refl refl (over-product d 0 n k (omega arith));
      },
    )

-- ---- growth, and one entry
pub growth-ratio : (E : ℕ) → Ratio (growth E) (next ^ E) 0 (base ^ E)
unfolding growth base next
growth-ratio E = record { across = refl }

pub fraction-ratio : (z d : ℕ) → 0 < d → Ratio (fraction z d) z 0 d
fraction-ratio z d l = record { across = rw (max-one d l) (omega arith) }

pub entry_reduction : EntryReduction
unfolding EntryReduction
entry_reduction E x y a =
    let v = value-ratio a.good in
    record {
      number = good-finite a.good;
      x_sign = plain_sign one-pos v;
      y_sign = plain_sign a.positive a.ratio;
      upper = plain_le one-pos (mul-pos a.positive (base-pos E)) v (plain_mul a.ratio (growth-ratio E)) (omega (arith, a.near.upper));
      lower = plain_le a.positive (mul-pos one-pos (base-pos E)) a.ratio (plain_mul v (growth-ratio E)) (omega (arith, a.near.lower));
    }

pub table_reduction : TableReduction
unfolding TableReduction EntryReduction
table_reduction n on E A x a =
    record { X = a.X; exact = a.exact; within = λ i j l m. entry_reduction E (x i j) (extended on a.X i j) (a.entry i j l m) }

pub near_fraction : {E z d : ℕ} {x : Float} → 0 < d → Good x → Near E (units x * d) (z * one·units) → NearFraction E x (fraction z d)
near_fraction {z = z} {d} l g h = record { z = z; d = d; positive = l; ratio = fraction-ratio z d l; good = g; near = h }

-- Plus zero where the rule's y is zero.
pub zero_near : (E : ℕ) → NearFraction E 0·0 (whole 0)
zero_near E =
    record {
      z = 0;
      d = 1;
      positive = lit< tt;
      ratio = whole-ratio 0;
      good = zero_is_good;
      near = near_eq (rw (units-zero, zero-mul 1, zero-mul one·units));
    }

-- ---- the rule
-- One row of Z-as-P against Z-as-Q + D·z.
compare-row :
    (a P Q z e D Z SP SQ Sz : ℕ)
    → a * P + SQ ≡ e * D + (a * Q + SP) → a * z ≡ e * Z + Sz
    → a * (P * Z) + (SQ * Z + Sz * D) ≡ a * (Q * Z + z * D) + SP * Z
compare-row a P Q z e D Z SP SQ Sz f g = omega (arith, times Z f, times D g)

module _
    (n : ℕ) (on : ℕ → Bool) (A : ℕ → ℕ → Fraction)
    (a : ℕ → ℕ) (t : ℕ → ℕ → ℕ) (c : ℕ → ℕ) (Z : ℕ → ℕ) (z : ℕ → ℕ → ℕ)
    (rows : RowForm n A a t c) (apart : Apart n on t) (columns : Columns n on a t c Z z)
  where
    X-column : (j : ℕ) → Stage n on j → SignedColumn n on (λ i. fraction (z j i) (Z j)) (z j) (λ i. 0) (Z j)
    X-column j s =
        let l = columns.positive j s in
        record { positive = l; ratio = λ k o. fraction-ratio (z j k) (Z j) l }

    pub X_inverse : Inverse n on A (λ i j. fraction (z j i) (Z j))
    unfolding Inverse added
    X_inverse i j s o =
        image_delta n on A a t c rows apart (λ i. fraction (z j i) (Z j)) (z j) (λ i. 0) (Z j) (X-column j o) i j s
        (omega (arith, columns.row i j s o, zero-sum (λ k. t i k * 0) 0 n (λ k h. mul-zero (t i k))))

    -- Z-as-P = Z-as-Q + D·z for a column of another inverse, from regularity.
    column_unique :
        Regular n on a t → (Y : ℕ → Fraction) (P Q : ℕ → ℕ) (D j : ℕ) → SignedColumn n on Y P Q D → Stage n on j
        → ((i : ℕ) → Stage n on i → applied n on A Y i ≈ cond (eqb i j) (whole 1) (whole 0))
        → (i : ℕ) → Stage n on i → P i * Z j ≡ Q i * Z j + z j i * D
    unfolding Regular added
    column_unique regular Y P Q D j y o inverse =
        regular (λ k. P k * Z j) (λ k. Q k * Z j + z j k * D)
        (λ i s.
        rw (sum-mix (t i) Q (z j) (Z j) D 0 n, sum_factor (t i) P (Z j) 0 n)
        (compare-row (a i) (P i) (Q i) (z j i) (delta i j (c i)) D (Z j)
        (sum (λ k. t i k * P k) 0 n) (sum (λ k. t i k * Q k) 0 n) (sum (λ k. t i k * z j k) 0 n)
        (delta_image n on A a t c rows apart Y P Q D y i j s (inverse i s)) (columns.row i j s o)))

    pub X_unique :
        Regular n on a t → (Y : ℕ → ℕ → Fraction) → Inverse n on A Y
        → (i j : ℕ) → Stage n on i → Stage n on j → fraction (z j i) (Z j) ≈ Y i j
    unfolding Inverse
    X_unique regular Y inverse i j s o =
        let (P, Q, D, y) = any-column n on (λ k. Y k j) in
        let l = columns.positive j o in
        let e = column_unique regular (λ k. Y k j) P Q D j y o (λ i s. inverse i j s o) i s in
        same_ratio y.positive (ratio_carry l (fraction-ratio (z j i) (Z j) l) (omega (arith, e))) (y.ratio i s)

pub inverse_reduction : InverseReduction
unfolding InverseReduction
inverse_reduction n on A a t c Z z rows apart columns regular =
    record {
      inverse = X_inverse n on A a t c Z z rows apart columns;
      unique = X_unique n on A a t c Z z rows apart columns regular;
    }

pub reduction : Reduction
unfolding Reduction InverseReduction Apart extended
reduction n E A x a t c Z z rows columns regular table =
    record {
      X = λ i j. fraction (z j i) (Z j);
      exact = inverse_reduction n every_stage A a t c Z z rows (λ i j s l o. absurd o) columns regular;
      entry = λ i j l m. near_fraction (columns.positive j (record { below = m; part = tt })) (table.good i j l m) (table.near i j l m);
    }

-- ---- a system that gets out
module _ (n : ℕ) (on : ℕ → Bool) (S : Equations) (a : ℕ → ℕ)
    (diagonal : (i : ℕ) → Stage n on i → diag 0 n (S i) ≡ a i) (apart : Apart n on (λ i. (S i).size)) where
  -- A vector with zeros at the stages that do not take part; a row that takes part does not see the difference.
  on_these : (ℕ → ℕ) → ℕ → ℕ
  on_these p k = cond (on k) (p k) 0

  same_mix : (p : ℕ → ℕ) (i : ℕ) → Stage n on i → sum (λ k. (S i).size k * on_these p k) 0 n ≡ sum (λ k. (S i).size k * p k) 0 n
  unfolding on_these Apart
  same_mix p i s =
      sum_cong (λ k. (S i).size k * on_these p k) (λ k. (S i).size k * p k) 0 n (λ k l.
      by_bool (on k)
      (λ e. rw e)
      (λ e. let z = apart i k s (omega arith) (rw e tt) in rw (z, zero-mul (on_these p k), zero-mul (p k))))

  module _ (out : AllOut 0 n S) (p q : ℕ → ℕ)
      (same : (i : ℕ) → Stage n on i → a i * p i + sum (λ k. (S i).size k * q k) 0 n ≡ a i * q i + sum (λ k. (S i).size k * p k) 0 n) where
    below : (k : ℕ) → In 0 n k → (on_these p k ≤ on_these q k) ⊎ RowBelow 0 n S (on_these p) (on_these q) k
    unfolding on_these mix
    below k l =
        by_bool (on k)
        (λ e.
        let s : Stage n on k = record { below = omega arith; part = rw e tt } in
        inr (rw (diagonal k s, same_mix q k s, same_mix p k s, e) (le_of_eq (same k s))))
        (λ e. inl (rw e zero-le))

    pub below_everywhere : (i : ℕ) → Stage n on i → p i ≤ q i
    unfolding Comparison on_these
    below_everywhere i s = rw (is_true (on i) s.part) at (comparison 0 n S (on_these p) (on_these q) out below i (omega (arith, s.below)))

  pub system_regular : AllOut 0 n S → Regular n on a (λ i. (S i).size)
  unfolding Regular
  system_regular out p q same i s = le_antisymm (below_everywhere out p q same i s) (below_everywhere out q p (λ i s. sym (same i s)) i s)

-- ---- weights
-- A factor that is not zero is taken off.
factor_off : (p q y : ℕ) → 0 < y → p * y ≡ q * y → p ≡ q
factor_off p q y l e = le_antisymm (le_of_mul-le-mul_right (le_of_eq e) l) (le_of_mul-le-mul_right (le_of_eq (sym e)) l)

-- With x·y = w the sums of t·x·(q·y) are those of t·q times w, whether x and y stand in the row or in the column.
column-weights : (t x q y : ℕ → ℕ) (w n : ℕ) → ((k : ℕ) → k < n → x k * y k ≡ w) → sum (λ k. t k * x k * (q k * y k)) 0 n ≡ sum (λ k. t k * q k) 0 n * w
column-weights t x q y w n e =
    sum_cong (λ k. t k * x k * (q k * y k)) (λ k. t k * q k * w) 0 n (λ k l. column-weight (t k) (x k) (q k) (y k) (e k (omega arith)))
    ∙ sum_scale (λ k. t k * q k) w 0 n
  where
    column-weight : (t x q y : ℕ) → x * y ≡ w → t * x * (q * y) ≡ t * q * w
    column-weight t x q y e = omega (arith, ap (λ p. t * q * p) e)

row-weights : (t q : ℕ → ℕ) (x n : ℕ) → sum (λ k. t k * x * q k) 0 n ≡ sum (λ k. t k * q k) 0 n * x
row-weights t q x n = sum_cong (λ k. t k * x * q k) (λ k. t k * q k * x) 0 n (λ k l. mul_right_comm (t k) x (q k)) ∙ sum_scale (λ k. t k * q k) x 0 n

-- One row of the vectors p and q, and of those over the weights.
weigh_row : (a x y w p q P Q : ℕ) → x * y ≡ w → a * p + Q * x ≡ a * q + P * x → a * (p * y) + Q * w ≡ a * (q * y) + P * w
weigh_row a x y w p q P Q e f = omega (arith, times y f, ap (λ k. Q * k) e, ap (λ k. P * k) e)

module _ (n : ℕ) (on : ℕ → Bool) (t : ℕ → ℕ → ℕ) (x : ℕ → ℕ) (a : ℕ → ℕ) (positive : (j : ℕ) → j < n → 0 < x j) where
  -- The product of the weights over each of them.
  abbrev w : ℕ
  w = product x 0 n

  abbrev y : ℕ → ℕ
  y k = w / x k

  over-weight : (k : ℕ) → k < n → x k * y k ≡ w
  over-weight k l = over-product x 0 n k (omega arith)

  y-pos : (k : ℕ) → k < n → 0 < y k
  y-pos k l = pos-left (y k) (x k) (rw (mul_comm (y k) (x k), over-weight k l) (product-pos x 0 n (λ j h. positive j (omega arith))))

  weighted_regular : Regular n on a (λ i j. t i j * x j) → Regular n on a (λ i j. t i j * x i)
  unfolding Regular
  weighted_regular regular p q same i s =
      factor_off (p i) (q i) (y i) (y-pos i s.below)
      (regular (λ k. p k * y k) (λ k. q k * y k)
      (λ i s.
      rw (column-weights (t i) x q y w n over-weight, column-weights (t i) x p y w n over-weight)
      (weigh_row (a i) (x i) (y i) w (p i) (q i) (sum (λ k. t i k * p k) 0 n) (sum (λ k. t i k * q k) 0 n) (over-weight i s.below)
      (rw (row-weights (t i) q (x i) n, row-weights (t i) p (x i) n) at (same i s)))) i s)

-- Row i of a solution z, times the weights.
weighted_row_lem : (a z x d c Z m : ℕ) → a * z ≡ d * Z + m → d * x ≡ c → a * (z * x) ≡ c * Z + m * x
weighted_row_lem a z x d c Z m e f = omega (arith, times x e, ap (λ k. k * Z) f)

delta_factor : (i j c x : ℕ) → delta i j c * x ≡ delta i j (c * x)
delta_factor i j c x = go (eqb i j)
  where
    go : (b : Bool) → cond b c 0 * x ≡ cond b (c * x) 0
    go true = refl
    go false = zero-mul x

pub system_inverse : SystemInverse
unfolding SystemInverse InverseReduction Apart diag mix
system_inverse n on A S t x a c Z z positive sizes rows diagonal apart out columns =
    inverse_reduction n on A a (λ i j. t i j * x i) (λ i. c i * x i) Z (λ j i. z j i * x i) rows
    (λ i j s l o. rw (apart i j s l o) (zero-mul (x i)))
    (record {
      positive = λ j s. columns.positive j s.below;
      row = λ i j s o.
          rw (row-weights (t i) (λ k. z j k * x k) (x i) n)
          (weighted_row_lem (a i) (z j i) (x i) (delta i j (c i)) (delta i j (c i * x i)) (Z j) (sum (λ k. t i k * (z j k * x k)) 0 n) (own i j s o) (delta_factor i j (c i) (x i)));
    })
    (weighted_regular n on t x a positive
    (rw (fun_ext (λ i. fun_ext (λ j. sizes i j))) at
    (system_regular n on S a diagonal (λ i j s l o. sizes i j ∙ rw (apart i j s l o) (zero-mul (x j))) out)))
  where
    own : (i j : ℕ) → Stage n on i → Stage n on j → a i * z j i ≡ delta i j (c i) * Z j + sum (λ k. t i k * (z j k * x k)) 0 n
    own i j s o =
        rw (← (diagonal i s), ← (sum_cong (λ k. (S i).size k * z j k) (λ k. t i k * (z j k * x k)) 0 n (λ k l. ap (λ u. u * z j k) (sizes i k) ∙ column (t i k) (x k) (z j k))))
        ((columns.solves j o.below).row i (omega (arith, s.below)))
      where
        column : (t x z : ℕ) → t * x * z ≡ t * (z * x)
        column t x z = omega arith
