-- A pivot is good, with as many roundings as there are stages after it: its first addition, to plus zero, has none. With weights it has
-- a product and a division more.
use Prim.Native.Nat.{ℕ, zero, suc, ◌+◌, ◌-◌, ◌*◌, ◌≤◌, ◌<◌}
use mathlib.Core.Path.{◌≡◌, ap, ◌∙◌}
use native.Mathlib.Nat.{add-mul}
use native.Mathlib.Omega.{arith}
use lib.Dec.{T}
use lib.Ieee.{Float}
use Rattle.exact.specs.Chains.{In}
use Rattle.exact.specs.Near.{Near}
use Rattle.exact.specs.Run.{level_count, row_count}
use Rattle.exact.specs.Sums.{sum as total}
use Rattle.exact.specs.Systems.{diag}
use Rattle.exact.specs.Elimination.{pivot}
use Rattle.exact.proofs.Near.{near_refl, near_trans, near_scale, near_add}
use Rattle.exact.proofs.Sums.{first, later, sum-falling, sum_scale}
use Rattle.definitions.specs.Numbers.{◌⊕◌, ◌⊗◌, 0·0, add_in_range, mul_in_range, sum, sum_in_range, units}
use Rattle.definitions.specs.LeavingRates.{Weights, none, some, System, weighed, falling, over_weight, products_in_range, over_weight_in_range, pivot_in_range, p}
use Rattle.rounding.specs.Good.{Good, one·units}
use Rattle.rounding.proofs.Laws.{one-pos, zero_is_good, sum-good, product-good, product_rounds, quotient-good, quotient_rounds}
use Rattle.rounding.proofs.RoundedSums.{sum_is_good}
use Rattle.steps.proofs.All.{each}
use Rattle.steps.proofs.LeavingRatesSteps.{pivot_is}
use Rattle.steps.proofs.Pivot.{parts_of_range}
use Rattle.rates_accuracy.specs.LeavingRatesAccuracy.{weight_units, exit_units, in_units, GoodWeights, GoodSystem, stage_roundings, row_roundings}
use Rattle.rates_accuracy.proofs.OperationErrors.{sum_then_near, term_roundings, near_terms}

-- ---- weights, and none
pub weight-pos : (r : ℕ) (w : Weights) → GoodWeights r w → (j : ℕ) → j < r → 0 < weight_units w j
weight-pos r none g j l = omega arith
weight-pos r (some z) g j l = (g j l).positive

pub exit_pos : (w : Weights) → 0 < exit_units w
exit_pos none = omega arith
exit_pos (some z) = one-pos

-- A pivot with m stages after it, a stage that begins with it, and its row on the way up.
abbrev pub pivot_roundings : Weights → ℕ → ℕ
pivot_roundings none m = m
pivot_roundings (some z) m = 1 + (m + term_roundings 1 m)

pub stage_count : (w : Weights) (m : ℕ) → 0 < m → pivot_roundings w m + 3 ≤ stage_roundings w (suc m)
unfolding level_count
stage_count none m h = omega arith
stage_count (some z) zero h = omega arith
stage_count (some z) (suc m) h = omega arith

pub row_count_lem : (w : Weights) (m : ℕ) → pivot_roundings w m + (m + term_roundings 2 m) ≤ row_roundings w (suc m)
unfolding row_count
row_count_lem none zero = omega arith
row_count_lem none (suc m) = omega arith
row_count_lem (some z) zero = omega arith
row_count_lem (some z) (suc m) = omega arith

-- What the pivot adds for stage j of a row, good where its products are in range, and within one rounding of size times weight.
module _ (row : ℕ → Float) (j : ℕ) (g : Good (row j)) where
  term-good : (r : ℕ) (w : Weights) → GoodWeights r w → j < r → (lo m : ℕ) → In lo m j → T (products_in_range w row lo m) → Good (weighed w row j)
  term-good r none gw l lo m i t = g
  term-good r (some z) gw l lo m i t = product-good g (gw j l).good (each (λ j. mul_in_range (row j) (z j)) lo m j t i.low i.high)

-- The division of the sum x by the weight of stage k.
module _ (r k : ℕ) (l : k < r) (x : Float) (g : Good x) where
  over-good : (w : Weights) → GoodWeights r w → T (over_weight_in_range w k x) → Good (over_weight w k x)
  over-good none gw t = g
  over-good (some z) gw t = quotient-good g (gw k l).good t

-- Stage k, with m stages after it.
module _ (w : Weights) (r : ℕ) (gw : GoodWeights r w) (at : ℕ → System) (k m : ℕ) (e : suc (k + m) ≡ r) where
  after : r - suc k ≡ m
  after = omega arith

  -- The terms as the pivot adds them, and their sum.
  abbrev row : ℕ → Float
  row = (at k).t k

  abbrev term : ℕ → Float
  term = falling r (weighed w row)

  abbrev terms : Float
  terms = sum 0·0 term 0 m

  terms-total : total (λ q. units (term q)) 0 m ≡ total (λ j. units (weighed w row j)) (suc k) m
  terms-total =
      let from : r - m ≡ suc k = omega arith in
      sum-falling (λ j. units (weighed w row j)) r m (omega arith) ∙ ap (λ l. total (λ j. units (weighed w row j)) l m) from

  module _ (g : GoodSystem w k (suc m) (at k)) where
    pivot-sum : p r at k ≡ over_weight w k (terms ⊕ (at k).s k)
    pivot-sum = rw (← g.weights, ← after) (pivot_is r at k)

    pub row-good : (j : ℕ) → In (suc k) m j → Good ((at k).t k j)
    row-good j l = g.size k j first (later l) (omega arith)

    module _ (t : T (pivot_in_range r (at k) k)) where
      ranges : T (products_in_range w row (suc k) m) × T (sum_in_range 0·0 term 0 m) × T (add_in_range terms ((at k).s k)) × T (over_weight_in_range w k (terms ⊕ (at k).s k))
      ranges = rw (g.weights, after) at (parts_of_range r (at k) k t)

      weighed-good : (j : ℕ) → In (suc k) m j → Good (weighed w row j)
      weighed-good j l = term-good row j (row-good j l) r w gw (omega arith) (suc k) m l ranges.0

      terms-good : Good terms
      terms-good = sum_is_good 0·0 term 0 zero_is_good m (λ q l h. weighed-good (r - suc q) (omega arith)) ranges.1

      sum_good·total : Good (terms ⊕ (at k).s k)
      sum_good·total = sum-good terms-good (g.exit k first) ranges.2

      pub pivot-good : Good (p r at k)
      pivot-good = rw pivot-sum (over-good r k (omega arith) (terms ⊕ (at k).s k) sum_good·total w gw ranges.3)

      -- The sum has a rounding for each stage after k.
      sum_near : Near m (units (terms ⊕ (at k).s k)) (units ((at k).s k) + total (λ j. units (weighed w row j)) (suc k) m)
      sum_near =
          rw (← terms-total) (sum_then_near term ((at k).s k) m (λ q l. weighed-good (r - suc q) (omega arith)) (g.exit k first) ranges.1 ranges.2)

-- Without weights that is the pivot.
module _ (r : ℕ) (at : ℕ → System) (k m : ℕ) (e : suc (k + m) ≡ r) (g : GoodSystem none k (suc m) (at k)) (t : T (pivot_in_range r (at k) k)) where
  plain_near : (b : ℕ → ℕ) → Near m (units (p r at k) * 1) (pivot k m (in_units none (at k) b))
  unfolding pivot diag
  plain_near b =
      rw (pivot-sum none r tt at k m e g, sum_scale (λ j. units ((at k).t k j)) 1 (suc k) m, ← (add-mul (units ((at k).s k)) (total (λ j. units ((at k).t k j)) (suc k) m) 1))
      (near_scale 1 (sum_near none r tt at k m e g t))

-- With weights a product for each size, where there is one, and the division.
module _ (z : ℕ → Float) (r : ℕ) (gw : GoodWeights r (some z)) (at : ℕ → System) (k m : ℕ) (e : suc (k + m) ≡ r) (g : GoodSystem (some z) k (suc m) (at k)) (t : T (pivot_in_range r (at k) k)) where
  abbrev product : ℕ → ℕ
  product j = units ((at k).t k j ⊗ z j)

  abbrev exact : ℕ → ℕ
  exact j = units ((at k).t k j) * units (z j)

  products_near : Near (term_roundings 1 m) (total product (suc k) m * one·units) (total exact (suc k) m)
  products_near =
      rw (← (sum_scale product one·units (suc k) m))
      (near_terms 1 (λ j. product j * one·units) exact (suc k) m (λ j l.
      (product_rounds ((at k).t k j) (z j) (row-good (some z) r gw at k m e g j l) (gw j (omega arith)).good
      (each (λ j. mul_in_range ((at k).t k j) (z j)) (suc k) m j (ranges (some z) r gw at k m e g t).0 l.low l.high)).near))

  weighted_near : (b : ℕ → ℕ) → Near (1 + (m + term_roundings 1 m)) (units (p r at k) * units (z k)) (pivot k m (in_units (some z) (at k) b))
  unfolding pivot diag
  weighted_near b =
      let x = terms (some z) r gw at k m e ⊕ (at k).s k in
      let last = (quotient_rounds x (z k) (sum_good·total (some z) r gw at k m e g t) (gw k (omega arith)).good (ranges (some z) r gw at k m e g t).3).near in
      let sums = rw (add-mul (units ((at k).s k)) (total product (suc k) m) one·units) at (near_scale one·units (sum_near (some z) r gw at k m e g t)) in
      rw (pivot-sum (some z) r gw at k m e g)
      (near_trans last (near_trans sums (near_add (near_refl {x = units ((at k).s k) * one·units}) products_near)))

module _ (r : ℕ) (at : ℕ → System) (k m : ℕ) (e : suc (k + m) ≡ r) (t : T (pivot_in_range r (at k) k)) (b : ℕ → ℕ) where
  pub pivot_near : (w : Weights) → GoodWeights r w → GoodSystem w k (suc m) (at k) → Near (pivot_roundings w m) (units (p r at k) * weight_units w k) (pivot k m (in_units w (at k) b))
  pivot_near none gw g = plain_near r at k m e g t b
  pivot_near (some z) gw g = weighted_near z r gw at k m e g t b
