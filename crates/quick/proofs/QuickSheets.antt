-- The quick pass of a sheet: the diagonal, and the n numbers before each diagonal place but the first.
use mathlib.Core.Path.{◌≡◌, subst, ap, ◌∙◌}
use mathlib.Core.Bool.{Bool, ◌&&◌}
use mathlib.Core.List.{List}
use Prim.Native.Nat.{ℕ, suc, ◌+◌, ◌*◌, ◌-◌, ◌≤◌, ◌<◌}
use native.Mathlib.Nat.{suc-mul, mul-le-mul_right, le_of_lt}
use native.Mathlib.Omega.{arith}
use lib.Dec.{T}
use lib.ListN.{length, get_or, drop, length-drop}
use lib.Seq.{get_or-take, get_or-drop}
use lib.Ieee.{Float, nan}
use lib.Ieee.Fits.{and_l, and_r}
use borrow.Author.Count.{below_more}
use borrow.Rule.Slice.PartMut.{mid_of, mid_len}
use Rattle.exact.proofs.Cases.{by_equal, by_order}
use Rattle.definitions.specs.Sheet.{sheet_rows, place}
use Rattle.definitions.specs.Questions.{pass, place_questions}
use Rattle.steps.proofs.QuestionLaws.{rows_pass}
use Rattle.counts.proofs.Counts.{rows_few}
use Rattle.shape.specs.Square.{Square, WholeSheet}
use Rattle.shape.proofs.Square.{place_inside, row_inside}
use Rattle.places.specs.PlaceQuestions.{passes, ask_places}
use Rattle.places.proofs.PlaceQuestions.{in_order_lem}
use Rattle.quick.specs.QuickPass.{PassesOff, DiagonalPasses, StretchPasses, SizesPass, WeightsPass}

-- A loop's flag, which says of every number before i that it has p, and the test of i.
pub flag_more : (p : ℕ → Type 0) (i : ℕ) (a b : Bool) → (T a → (k : ℕ) → k < i → p k) → (T b → p i) → T (a && b) → (k : ℕ) → k < i + 1 → p k
flag_more p i a b f g t = below_more p i (f (and_l a b t)) (g (and_r a b t))

-- ---- the stretches
pub record PassesBefore (n : ℕ) (sheet : List Float) (i : ℕ) : Type 0 where
  pub before : (k : ℕ) → i * n + i ≤ k + n → k < i * n + i → PassesOff (get_or sheet k nan)

-- Diagonal place i lies in the sheet, and so do n numbers before it.
pub stretch_inside : {n i : ℕ} {sheet : List Float} → Square n sheet → 1 ≤ i → i < n
    → (n ≤ i * n + i) × (i * n + i ≤ length sheet) × (i * n + i < 1024)
stretch_inside {n} {i} q some l =
    let k = mul-le-mul_right n some in
    let p = place_inside q l l in
    (omega arith, le_of_lt p.0, p.1)

pub stretch_passes : (n i : ℕ) (sheet : List Float) → n ≤ i * n + i → i * n + i ≤ length sheet
    → StretchPasses (mid_of (i * n + i - n) (i * n + i - (i * n + i - n)) sheet) → PassesBefore n sheet i
stretch_passes n i sheet room fits h =
    let from = i * n + i - n in
    let size = i * n + i - from in
    let long = mid_len from (i * n + i) sheet fits in
    record {
      before = λ k low high.
          let at : from + (k - from) ≡ k = omega arith in
          let same : get_or (mid_of from size sheet) (k - from) nan ≡ get_or sheet k nan = get_or-take size (drop from sheet) (k - from) nan (omega arith) ∙ get_or-drop from sheet (k - from) nan ∙ ap (λ m. get_or sheet m nan) at in
          subst PassesOff same (h (k - from) (rw long (omega arith)));
    }

pub sizes_pass : {n : ℕ} {sheet : List Float} → ((k : ℕ) → k < n → PassesBefore n sheet k) → SizesPass n sheet
sizes_pass {n} {sheet} h i j hi hj d =
    by_order (suc i) j
    (λ l. let e = suc-mul i n in (h (suc i) (omega arith)).before (i * n + j) (omega arith) (omega arith))
    (λ g. (h i hi).before (i * n + j) (omega arith) (omega arith))

-- ---- all places
module _ (reading n : ℕ) (sheet : List Float) (on : DiagonalPasses reading n sheet) (off : SizesPass n sheet) (whole : WholeSheet reading n sheet) (weights : WeightsPass (drop (n * n) sheet)) where
  stage-passes : (question i j : ℕ) → i < n → j < n → T (passes question reading n i j (place n sheet i j))
  stage-passes question i j hi hj =
      by_equal i j
      (λ e. subst (λ k. T (passes question reading n i k (place n sheet i k))) e ((on i hi).at question n i (λ o. omega arith)))
      (λ d. (off i j hi hj d).at question reading n i j (λ o. omega arith) d)

  weight-passes : (question j : ℕ) → n < sheet_rows reading n → j < n → T (passes question reading n n j (place n sheet n j))
  weight-passes question j h hj =
      rw (← (get_or-drop (n * n) sheet j nan))
      ((weights j (rw length-drop (let l = row_inside whole {i = n} {j = j} h hj in omega arith))).at question reading n j)

  place-passes : (question i j : ℕ) → i < sheet_rows reading n → j < n → T (passes question reading n i j (place n sheet i j))
  place-passes question i j hi hj =
      by_order n i
      (λ l. by_equal i n
      (λ e. rw e (weight-passes question j (rw e at hi) hj))
      (λ o. absurd (let few = rows_few reading n in omega arith)))
      (λ l. stage-passes question i j l hj)

  places_pass : (question : ℕ) → ask_places question reading n sheet ≡ pass
  unfolding ask_places
  places_pass question = rows_pass (λ i j. passes question reading n i j (place n sheet i j)) question n (sheet_rows reading n) (place-passes question)

  pub sheet_passes : place_questions reading n sheet ≡ pass
  sheet_passes = rw (← (in_order_lem reading n sheet)) (rw (places_pass 6, places_pass 7, places_pass 8))
