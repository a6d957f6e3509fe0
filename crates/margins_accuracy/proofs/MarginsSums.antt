-- Sums over a common denominator, and sums over the stages that pass a test, counted in roundings.
use Prim.Native.Nat.{ℕ, zero, suc, ◌+◌, ◌*◌, ◌<◌}
use native.Mathlib.Omega.{arith}
use mathlib.Core.Bool.{Bool, true, false, cond}
use mathlib.Core.Path.{◌≡◌, refl, ap, ◌∙◌, subst}
use lib.Dec.{T}
use lib.Ieee.{Float}
use Rattle.exact.specs.Chains.{In}
use Rattle.exact.specs.Near.{Near}
use Rattle.exact.specs.Sums.{sum as total}
use Rattle.exact.proofs.Sums.{sum_end, sum_scale}
use Rattle.exact.proofs.Near.{near_eq, near_trans, near_grow, near_scale, near_add, near_addition, near_sum}
use Rattle.definitions.specs.Numbers.{sum, sum_in_range, units}
use Rattle.definitions.specs.Margins.{sum_with, sum_with_in_range}
use Rattle.rounding.specs.Good.{Good}
use Rattle.rounding.proofs.Laws.{sum-good, sum_rounds, zero_is_good, units-zero}
use Rattle.steps.proofs.FloatSums.{sum_with-none, sum_with-add, sum_with_pass, with_range_before, with_range_last}
use Rattle.rates_accuracy.proofs.OperationErrors.{sum_near}

-- Over a denominator c, where each term is within e of w_j.
module _ (start : Float) (f : ℕ → Float) (k : ℕ) (g : Good start) where
  pub near_sum_over :
      {e v : ℕ} (m c : ℕ) (w : ℕ → ℕ) → ((i : ℕ) → In k m i → Good (f i)) → T (sum_in_range start f k m)
      → Near e (units start * c) v → ((i : ℕ) → In k m i → Near e (units (f i) * c) (w i))
      → Near (m + e) (units (sum start f k m) * c) (v + total w k m)
  near_sum_over {e} {v} m c w h t b n =
      let scale = sum_scale (λ j. units (f j)) c k m in
      let eq : (units start + total (λ j. units (f j)) k m) * c ≡ units start * c + total (λ j. units (f j) * c) k m =
      omega arith in
      near_trans
      (subst (Near m (units (sum start f k m) * c)) eq (near_scale c (sum_near start f k g m h t)))
      (near_add b (near_sum (λ j. units (f j) * c) w k m n))

-- The sum over the stages that pass a test.
module _ (test : ℕ → Bool) (f : ℕ → Float) where
  -- The terms that count.
  abbrev counted : ℕ → ℕ
  counted l = cond (test l) (units (f l)) 0

  pub record SumWith (n : ℕ) : Type 0 where
    pub good : Good (sum_with test f n)
    pub near : Near n (units (sum_with test f n)) (total counted 0 n)

  pub sum_with_lem : (n : ℕ) → ((l : ℕ) → l < n → test l ≡ true → Good (f l)) → T (sum_with_in_range test f n) → SumWith n
  unfolding total
  sum_with_lem zero h t =
      let none = sum_with-none test f in
      record { good = rw none zero_is_good; near = near_eq (ap units none ∙ units-zero) }
  sum_with_lem (suc n) h t = go (test n) refl (sum_with_lem n (λ l b. h l (omega arith)) (with_range_before test f n t))
    where
      go : (b : Bool) → test n ≡ b → SumWith n → SumWith (suc n)
      go true e before =
          let here = h n (omega arith) e in
          let last = with_range_last test f n e t in
          let next = sum_with-add test f n e in
          let is : counted n ≡ units (f n) = rw e in
          let rounds = rw (← next) at (sum_rounds (sum_with test f n) (f n) before.good here last).near in
          let s = units (sum_with test f n) in
          let s' = units (sum_with test f (suc n)) in
          let whole : total counted 0 n + units (f n) ≡ total counted 0 (suc n) = omega (arith, sum_end counted n) in
          record {
            good = rw next (sum-good before.good here last);
            near = near_addition n s s' (units (f n)) (total counted 0 n) (total counted 0 (suc n)) rounds before.near whole;
          }
      go false e before =
          let next = sum_with_pass test f n e in
          let is : counted n ≡ 0 = rw e in
          let whole : total counted 0 n ≡ total counted 0 (suc n) = omega (arith, sum_end counted n) in
          record {
            good = rw next before.good;
            near = rw (next, ← whole) (near_grow (omega arith) before.near);
          }
