-- The joins, from the highest stage down: each adds n + 3 roundings to the entries of the known stages.
use Prim.Native.Nat.{ℕ, zero, suc, ◌+◌, ◌*◌, ◌-◌, ◌≤◌, ◌<◌}
use native.Mathlib.Nat.{mul_comm, zero-mul, le_refl}
use native.Mathlib.Decide.{ℕ_discrete}
use native.Mathlib.Omega.{arith}
use mathlib.Core.Bool.{Bool, true, false, true≢false, cond}
use mathlib.Core.Logic.{◌≢◌}
use mathlib.Core.Path.{◌≡◌, refl, sym, ap, ◌∙◌, subst, subst₂}
use lib.Ieee.{Float}
use Rattle.exact.specs.Near.{Near}
use Rattle.exact.proofs.Sums.{sum_scale}
use Rattle.exact.proofs.Near.{near_eq, near_sym, near_trans, near_grow, near_scale, near_scale_left, near_sum}
use Rattle.definitions.specs.Numbers.{◌⊗◌, ◌⊘◌, 0·0, 1·0, units}
use Rattle.definitions.specs.Compact.{rank}
use Rattle.definitions.specs.Margins.{sum_with, a, kept, known, x_after}
use Rattle.rounding.specs.Good.{Good, one·units}
use Rattle.steps.proofs.MarginsSteps.{known_from, known-below, known_next, x-kept, join_corner, join_row, join_column, join_other}
use Rattle.rates_accuracy.specs.LeavingRatesAccuracy.{Computed, EngineAccuracy}
use Rattle.rounding.proofs.Laws.{one-pos, product-good, product_rounds, quotient-good, quotient_rounds, zero_is_good, units-zero, one_is_good, units-one}
use Rattle.margins_accuracy.proofs.MarginsExact.{exact_h, exact_a, leads_to}
use Rattle.margins_accuracy.proofs.MarginsJoins.{Part, part_same, column_sum, corner, joined, joined_other, joined-corner, joined-column, joined-row, join_part}
use Rattle.margins_accuracy.proofs.MarginsStart.{start_over, start_table, start-part}
use Rattle.margins_accuracy.proofs.MarginsSums.{sum_with_lem}
use Rattle.margins_accuracy.proofs.MarginsRange.{JoinRange, KnownRange}
use Rattle.margins_accuracy.proofs.MarginsRatios.{Setting, ratio_near, a_near_unkept, kept_tells}
use Rattle.margins_accuracy.proofs.MarginsCounts.{answer_count, entry_count}
use Rattle.margins_accuracy.proofs.MarginsKept.{near_both, start_near}
use Rattle.exact.proofs.Cases.{by_bool}

-- m = t / a, and a is near A over D.
near_quotient : (m a A t D w : ℕ) → Near 1 (m * a) (t * w) → Near 1 (a * D) A → Near 2 (m * A) (t * D * w)
near_quotient m a A t D w h g =
    let b : Near 1 (m * A) (m * a * D) = subst (Near 1 (m * A)) (omega arith) (near_scale_left m (near_sym g)) in
    let c : Near 1 (m * a * D) (t * D * w) = subst (Near 1 (m * a * D)) (omega arith) (near_scale D h) in
    near_trans b c

-- A computed number with more roundings, over a longer denominator, and zero.
computed_grow : {E F : ℕ} {x : Float} {y z : ℕ} → E ≤ F → Computed E x y z → Computed F x y z
computed_grow l n = record { good = n.good; near = near_grow l n.near }

computed_scale : {E : ℕ} {x : Float} (c y z : ℕ) → Computed E x y z → Computed E x (y * c) (z * c)
computed_scale {E} {x} c y z n =
    record { good = n.good; near = subst₂ (Near E) (omega arith) (omega arith) (near_scale c n.near) }

computed_zero : {E : ℕ} (z : ℕ) → Computed E 0·0 0 z
computed_zero z =
    let none = ap (λ t. t * z) units-zero ∙ zero-mul z in
    record { good = zero_is_good; near = near_eq (none ∙ sym (zero-mul one·units)) }

module _ {n : ℕ} {t : ℕ → ℕ → Float} {d : ℕ → Float} {D : ℕ} {K : ℕ → ℕ} {k : ℕ → Float} (s : Setting n t d D K k) where
  -- After q joins: the exact inverse on the known stages, and each known entry within E of it.
  pub record Joined (E q : ℕ) : Type 0 where
    pub Z : ℕ
    pub X : ℕ → ℕ → ℕ
    pub part : Part s.exact (known n t d k q) Z X
    pub near :
        (i j : ℕ) → i < n → j < n → known n t d k q i ≡ true → known n t d k q j ≡ true
        → Computed E (x_after n t d k q i j) (X i j) Z

  unkept : (i : ℕ) → i < n → exact_h s.exact i ≡ 0 → kept n t d k i ≡ false
  unkept i b e = by_bool (kept n t d k i) (λ f. absurd (omega (arith, (kept_tells s).yes_kept i b f))) (λ f. f)

  -- Stage c = n - 1 - q joins, which is not kept.
  module _ (E q : ℕ) (bq : q < n) (left : kept n t d k (n - suc q) ≡ false) (before : Joined E q) where
    abbrev c : ℕ
    c = n - suc q

    abbrev Z : ℕ
    Z = before.Z

    abbrev X : ℕ → ℕ → ℕ
    X = before.X

    abbrev ac : Float
    ac = a n t d k (n - suc q)

    abbrev Ac : ℕ
    Ac = exact_a s.exact (n - suc q)

    bc : c < n
    bc = omega arith

    zero-h : exact_h s.exact c ≡ 0
    zero-h = (kept_tells s).not-kept c bc left

    unknown : known n t d k q c ≡ false
    unknown = known-below n t d k q c (omega arith) ∙ left

    away : (l : ℕ) → l < n → c ≢ l → 0 < units (t c l) → known n t d k q l ≡ false
    away l b o p =
        let (e, z) = leads_to s.exact c l bc b zero-h o p in
        known-below n t d k q l (omega arith) ∙ unkept l b z

    known_apart : (l : ℕ) → known n t d k q l ≡ true → l ≢ c
    known_apart l e f = true≢false (sym e ∙ ap (known n t d k q) f ∙ unknown)

    earlier-known : (i : ℕ) → i ≢ c → known n t d k (suc q) i ≡ true → known n t d k q i ≡ true
    earlier-known i e f = sym (known_next n t d k q i bq e) ∙ f

    abbrev table : ℕ → ℕ → ℕ
    table = joined before.part c bc unknown away

    -- a_c has one rounding.
    a-good : Good ac
    a-good = (ratio_near s c bc).a-good

    a_close : Near 1 (units ac * D) Ac
    a_close = a_near_unkept s c bc zero-h

    tests : JoinRange n t d k q c (x_after n t d k q)
    tests = s.range.join q bq left

    -- 1 / a_c
    corner_near : Computed 2 (1·0 ⊘ ac) (corner before.part c bc unknown away) (Z * Ac)
    corner_near =
        let h = (quotient_rounds 1·0 ac one_is_good a-good tests.corner).near in
        let m = near_quotient (units (1·0 ⊘ ac)) (units ac) Ac one·units D one·units (rw units-one at h) a_close in
        record {
          good = quotient-good one_is_good a-good tests.corner;
          near = subst₂ (Near 2) (omega arith) (omega arith) (near_scale Z m);
        }

    -- Σ_l x_il (t_lc / a_c), over the known l.
    module _ (i : ℕ) (bi : i < n) (ki : known n t d k q i ≡ true) where
      abbrev share : ℕ → Float
      share l = t l (n - suc q) ⊘ a n t d k (n - suc q)

      abbrev term : ℕ → Float
      term l = x_after n t d k q i l ⊗ (t l (n - suc q) ⊘ a n t d k (n - suc q))

      row-tests : KnownRange n t d k q c (x_after n t d k q) i
      row-tests = tests.row i bi ki

      module _ (l : ℕ) (bl : l < n) (kl : known n t d k q l ≡ true) where
        size-good : Good (t l c)
        size-good = s.good.size l c bl bc (known_apart l kl)

        share-good : Good (share l)
        share-good = quotient-good size-good a-good (row-tests.division l bl kl)

        x_near : Computed E (x_after n t d k q i l) (X i l) Z
        x_near = before.near i l bi bl ki kl

        term-good : Good (term l)
        term-good = product-good x_near.good share-good (row-tests.product l bl kl)

        term_near : Near (E + 3) (units (term l) * (Z * Ac)) (X i l * (units (t l c) * D) * one·units)
        term_near =
            let xil = x_after n t d k q i l in
            let p = (product_rounds xil (share l) x_near.good share-good (row-tests.product l bl kl)).near in
            let h = (quotient_rounds (t l c) ac size-good a-good (row-tests.division l bl kl)).near in
            let m = near_quotient (units (share l)) (units ac) Ac (units (t l c)) D one·units h a_close in
            let v = units (t l c) * D in
            let both = near_both (units (term l)) (units xil) (units (share l)) Z Ac (X i l) v one-pos p x_near.near m in
            rw (mul_comm Z Ac) (near_grow {e = 1 + (E + 2)} (omega arith) both)

      masked_near :
          (l : ℕ) → l < n → (b : Bool) → known n t d k q l ≡ b
          → Near (E + 3) (cond b (units (term l)) 0 * (Z * Ac)) (X i l * (units (t l c) * D) * one·units)
      masked_near l bl true e = term_near l bl e
      masked_near l bl false e =
          near_eq (empty (Z * Ac) (X i l) (units (t l c) * D) one·units (before.part.empty_column i l bl e))
        where
          empty : (z x s w : ℕ) → x ≡ 0 → 0 * z ≡ x * s * w
          empty z x s w f = omega (arith, ap (λ t. t * s * w) f)

      column_near :
          Computed (n + (E + 3)) (sum_with (known n t d k q) term n) (column_sum before.part c bc unknown away i) (Z * Ac)
      column_near =
          let summed = sum_with_lem (known n t d k q) term n term-good row-tests.sum in
          let mask : ℕ → ℕ = λ l. cond (known n t d k q l) (units (term l)) 0 in
          let exact : ℕ → ℕ = λ l. X i l * (units (t l c) * D) in
          let terms =
          near_sum (λ l. mask l * (Z * Ac)) (λ l. exact l * one·units) 0 n
          (λ l m. masked_near l (omega arith) (known n t d k q l) refl) in
          record {
            good = summed.good;
            near =
                near_trans (near_scale (Z * Ac) summed.near)
                (subst₂ (Near (E + 3)) (sum_scale mask (Z * Ac) 0 n) (sum_scale exact one·units 0 n) terms);
          }

    -- The four places of an entry.
    entry_near :
        (i j : ℕ) → i < n → j < n → known n t d k (suc q) i ≡ true → known n t d k (suc q) j ≡ true
        → Dec (i ≡ c) → Dec (j ≡ c)
        → Computed (E + (n + 3)) (x_after n t d k (suc q) i j) (table i j) (Z * Ac)
    entry_near i j bi bj ki kj (yes e) (yes f) =
        let same : x_after n t d k (suc q) i j ≡ 1·0 ⊘ ac =
        ap (x_after n t d k (suc q) i) (f ∙ sym e) ∙ join_corner n t d k q left i e bi ∙ ap (λ i. 1·0 ⊘ a n t d k i) e in
        rw (same, joined-corner before.part c bc unknown away i j e f) (computed_grow (omega arith) corner_near)
    entry_near i j bi bj ki kj (yes e) (no f) =
        rw (join_row n t d k q left i j e f bi bj, joined-row before.part c bc unknown away i j e f) (computed_zero (Z * Ac))
    entry_near i j bi bj ki kj (no e) (yes f) =
        rw (join_column n t d k q left i j e f bi bj, joined-column before.part c bc unknown away i j e f)
        (computed_grow {E = n + (E + 3)} (omega arith) (column_near i bi (earlier-known i e ki)))
    entry_near i j bi bj ki kj (no e) (no f) =
        let old = before.near i j bi bj (earlier-known i e ki) (earlier-known j f kj) in
        rw (join_other n t d k q left i j e f bi bj, joined_other before.part c bc unknown away i j f)
        (computed_grow (omega arith) (computed_scale Ac (X i j) Z old))

    join_step : Joined (E + (n + 3)) (suc q)
    join_step =
        record {
          Z = Z * Ac;
          X = table;
          part =
              join_part before.part c bc unknown away (λ i b e. known_next n t d k q i bq e)
              (known_from n t d k (suc q) c (le_refl c));
          near = λ i j bi bj ki kj. entry_near i j bi bj ki kj (ℕ_discrete i c) (ℕ_discrete j c);
        }

  -- A kept stage is known already.
  kept_step : (E q : ℕ) → q < n → kept n t d k (n - suc q) ≡ true → Joined E q → Joined (E + (n + 3)) (suc q)
  kept_step E q bq e before =
      record { Z = before.Z; X = before.X; part = part_same same before.part; near = near }
    where
      here : known n t d k q (n - suc q) ≡ true
      here = known-below n t d k q (n - suc q) (omega arith) ∙ e

      same : (i : ℕ) → i < n → known n t d k (suc q) i ≡ known n t d k q i
      same i b =
          elim (ℕ_discrete i (n - suc q)) [
            | yes f ↦ known_from n t d k (suc q) i (omega arith) ∙ sym here ∙ ap (known n t d k q) (sym f)
            | no f ↦ known_next n t d k q i bq f
          ]

      near :
          (i j : ℕ) → i < n → j < n → known n t d k (suc q) i ≡ true → known n t d k (suc q) j ≡ true
          → Computed (E + (n + 3)) (x_after n t d k (suc q) i j) (before.X i j) before.Z
      near i j bi bj ki kj =
          rw (ap (λ x. x i j) (x-kept n t d k q e))
          (computed_grow (omega arith) (before.near i j bi bj (sym (same i bi) ∙ ki) (sym (same j bj) ∙ kj)))

  module _ (engine : EngineAccuracy) where
    abbrev start_count : ℕ
    start_count = answer_count n (rank (kept n t d k) n) + n * (n + 3)

    join_start : Joined start_count 0
    join_start =
        let start : (i : ℕ) → i < n → known n t d k 0 i ≡ kept n t d k i = λ i b. known-below n t d k 0 i (omega arith) in
        record {
          Z = start_over s.exact;
          X = start_table s.exact (kept n t d k);
          part = part_same start (start-part s.exact (kept n t d k) (kept_tells s));
          near = λ i j bi bj ki kj. start_near s engine i j bi bj (sym (start i bi) ∙ ki) (sym (start j bj) ∙ kj);
        }

    joins_to : (q : ℕ) → q ≤ n → Joined (start_count + q * (n + 3)) q
    joins_to zero l = subst (λ e. Joined e 0) (omega arith) join_start
    joins_to (suc q) l =
        let before = joins_to q (omega arith) in
        subst (λ e. Joined e (suc q)) (omega arith)
        (by_bool (kept n t d k (n - suc q))
        (λ e. kept_step (start_count + q * (n + 3)) q l e before)
        (λ e. join_step (start_count + q * (n + 3)) q l e before))

    -- After n joins every stage is known.
    pub all_known : (i : ℕ) → known n t d k n i ≡ true
    all_known i = known_from n t d k n i (omega arith)

    pub all-joined : Joined (entry_count n (rank (kept n t d k) n)) n
    unfolding entry_count
    all-joined = joins_to n (le_refl n)
