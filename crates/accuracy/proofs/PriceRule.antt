-- The accuracy rule of prices: entries near fractions, multiplied by prices and added.
use Prim.Native.Nat.{ℕ, zero, suc, ◌+◌, ◌≤◌, ◌<◌}
use native.Mathlib.Nat.{zero-add}
use native.Mathlib.Omega.{arith}
use mathlib.Core.Bool.{Bool, ◌&&◌}
use mathlib.Core.List.{List}
use mathlib.Core.Path.{◌≡◌, refl, sym, ◌∙◌}
use mathlib.Core.Logic.{◌⊎◌, inl, inr}
use lib.Dec.{T}
use lib.ListN.{get_or}
use lib.Ieee.{Float, nan, binary64, le, fits}
use lib.Ieee.Fits.{and_l, and_r}
use Rattle.definitions.specs.Numbers.{◌⊕◌, ◌⊗◌, 0·0, finite, is_zero, add_in_range, mul_in_range, sum, sum_in_range, all}
use Rattle.definitions.specs.Fractions.{Fraction, ◌+ᶠ◌, ◌*ᶠ◌, value, total}
use Rattle.definitions.specs.Matrix.{matrix, every_stage}
use Rattle.definitions.specs.Sheet.{takes_part, allowance}
use Rattle.definitions.specs.Table.{entry, every_step_in_range}
use Rattle.definitions.specs.Questions.{pass, large_enough}
use Rattle.definitions.specs.Accuracy.{Binary64, extended, exact_price, AccuratePrices}
use Rattle.definitions.specs.Prices.{unit_price, good_price, question19, request_price, price_in_range, prices_in_range, price_allowance}
use Rattle.rounding.specs.Good.{Good}
use Rattle.rounding.proofs.Reversed.{le-not_above}
use Rattle.rounding.proofs.RoundedSums.{range_before, range_last}
use Rattle.rounding.proofs.Laws.{good-finite, zero_is_good}
use Rattle.rounding.proofs.Zeros.{plus_zero}
use Rattle.rounding.proofs.AnyNumbers.{good_or_zero, plus_zero_of_sign, times-zero_of_sign}
use Rattle.steps.proofs.All.{each_below}
use Rattle.steps.proofs.QuestionLaws.{stages_yes}
use Rattle.steps.proofs.AcceptedCalls.{AcceptedSheet, price_accepted, prices_fine}
use Rattle.inverse.specs.Reduction.{NearFraction, EntryReduction}
use Rattle.inverse.proofs.Reduction.{entry_reduction, zero_near}
use Rattle.inverse.proofs.NearFractions.{near_more, near_plus, near_first, near_times, near_times_zero}
use Rattle.accuracy.specs.PriceRule.{PriceSum, PriceRule}
use Rattle.accuracy.proofs.Rule.{near_table}

-- Wherever t is added it counts as a number that is within e of a fraction: a product with a price of minus zero is minus zero.
record Term (e : ℕ) (t : Float) (p : Fraction) : Type 0 where
  number : Float
  near : NearFraction e number p
  same : {s : Float} → Good s → s ⊕ t ≡ s ⊕ number

module _ {e : ℕ} {x : Float} {p : Fraction} (a : NearFraction e x p) (c : Float) where
  product_term : Good c ⊎ T (is_zero c) → T (mul_in_range x c) → Term (suc e) (x ⊗ c) (p *ᶠ value c)
  product_term (inl g) t = record { number = x ⊗ c; near = near_times a g t; same = λ h. refl }
  product_term (inr z) t =
      record {
        number = 0·0;
        near = near_times_zero (suc e) c a z;
        same = λ h. plus_zero_of_sign (x ⊗ c) h (times-zero_of_sign x c (good-finite a.good) z) ∙ sym (plus_zero h);
      }

-- One term more is one rounding more.
next-term : {e d : ℕ} {s t : Float} {p q : Fraction} → e ≤ d → NearFraction d s p → Term e t q → T (add_in_range s t) → NearFraction (suc d) (s ⊕ t) (p +ᶠ q)
unfolding add_in_range
next-term few before term range =
    let is = term.same before.good in
    rw is (near_plus before (near_more few term.near) (rw is at range))

-- Terms within e of fractions: the sum of m + 1 of them has m roundings.
terms_near :
    (e : ℕ) (f : ℕ → Float) (g : ℕ → Fraction) (m : ℕ) → ((j : ℕ) → j < suc m → Term e (f j) (g j)) → T (sum_in_range 0·0 f 0 (suc m))
    → NearFraction (e + m) (sum 0·0 f 0 (suc m)) (total every_stage g (suc m))
unfolding sum total
terms_near e f g zero h t = let first = h 0 (omega arith) in rw (first.same zero_is_good) (near_more (omega arith) (near_first first.near))
terms_near e f g (suc m) h t =
    let before = terms_near e f g m (λ j l. h j (omega arith)) (range_before 0·0 f 0 (suc m) t) in
    let last : Term e (f (0 + suc m)) (g (suc m)) = rw (zero-add (suc m)) (h (suc m) (omega arith)) in
    near_more (omega arith) (next-term {e = e} (omega arith) before last (range_last 0·0 f 0 (suc m) t))

-- What passes question 19.
pub price_kind : (c : Float) → T (fits binary64 c) → T (good_price c) → Good c ⊎ T (is_zero c)
unfolding good_price
price_kind c held t =
    let first = and_l (finite c && le 0·0 c) (large_enough c) t in
    good_or_zero c held (and_l (finite c) (le 0·0 c) first) (le-not_above 0·0 c (and_r (finite c) (le 0·0 c) first))

pub price_sum : PriceSum
unfolding PriceSum request_price exact_price price_in_range sum total
price_sum zero E x y c i near fine t = zero_near _
price_sum (suc m) E x y c i near fine t =
    let product : ℕ → Bool = λ j. mul_in_range (x i j) (c j) in
    let f : ℕ → Float = λ j. x i j ⊗ c j in
    near_more (omega arith)
    (terms_near (suc E) f (λ j. y i j *ᶠ value (c j)) m
    (λ j l. product_term (near j l) (c j) (price_kind (c j) (fine j l).0 (fine j l).1) (each_below (suc m) product (and_l (all product 0 (suc m)) (sum_in_range 0·0 f 0 (suc m)) t) j l))
    (and_r (all product 0 (suc m)) (sum_in_range 0·0 f 0 (suc m)) t))

-- ---- the rule
pub price_fine : (n : ℕ) (prices : List Float) → Binary64 prices → question19 n prices ≡ pass → (j : ℕ) → j < n
    → T (fits binary64 (unit_price prices j)) × T (good_price (unit_price prices j))
unfolding Binary64 question19 unit_price
price_fine n prices held q j l = (held j, stages_yes (λ j. good_price (get_or prices j nan)) 19 n q j l)

-- The steps of the table, and of each price.
pub price_steps : (reading n : ℕ) (sheet prices : List Float) → T (prices_in_range reading n sheet prices)
    → T (every_step_in_range reading n sheet) × ((i : ℕ) → i < n → T (price_in_range n (entry reading n sheet) (unit_price prices) i))
unfolding prices_in_range
price_steps reading n sheet prices t =
    let each = price_in_range n (entry reading n sheet) (unit_price prices) in
    let table = every_step_in_range reading n sheet in
    (and_l table (all each 0 n) t, each_below n each (and_r table (all each 0 n) t))

module _ (reading n : ℕ) (sheet prices : List Float) (fit : Binary64 sheet) (held : Binary64 prices)
    (a : AcceptedSheet reading n sheet (prices_in_range reading n sheet prices)) (fine : question19 n prices ≡ pass) where
  abbrev x : ℕ → ℕ → Float
  x = entry reading n sheet

  pub accurate_prices : AccuratePrices n (takes_part reading n sheet) (price_allowance reading n) (matrix reading n sheet) (unit_price prices) (request_price n x (unit_price prices))
  unfolding price_allowance EntryReduction PriceSum
  accurate_prices =
      let c = unit_price prices in
      let E = allowance reading n in
      let steps = price_steps reading n sheet prices a.in_range_lem in
      let table = near_table reading n sheet fit (record { known = a.known; in_range_lem = steps.0 }) in
      let y = extended (takes_part reading n sheet) table.X in
      record {
        X = table.X;
        exact = table.exact;
        within = λ i l.
            entry_reduction (E + n) (request_price n x c i) (exact_price n y c i)
            (price_sum n E x y c i (λ j m. table.entry i j l m) (price_fine n prices held fine) (steps.1 i l));
      }

pub price_rule : PriceRule
unfolding PriceRule
price_rule reading n e sheet prices room fit held asked =
    accurate_prices reading n sheet prices fit held (price_accepted reading n e sheet prices room asked) (prices_fine reading n e sheet prices room asked)
