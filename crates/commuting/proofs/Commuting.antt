-- Moving units commutes with the services: the larger of the two sheets has the smaller numbers.
use Prim.Native.Nat.{ℕ, suc, ◌*◌, ◌-◌, ◌<◌}
use native.Mathlib.Omega.{arith}
use mathlib.Core.Bool.{Bool}
use mathlib.Core.List.{List, map}
use mathlib.Core.Path.{◌≡◌, sym, ap, ◌∙◌}
use lib.Dec.{T}
use lib.IntN.{ℤ, pos, negsuc, neg_ℤ}
use lib.ListN.{length, get_or, drop}
use lib.Seq.{take_at}
use lib.Ieee.{Float, nan}
use Rattle.definitions.specs.Sheet.{allowance}
use Rattle.definitions.specs.Tables.{list, rows}
use Rattle.definitions.specs.Table.{entry, every_step_in_range}
use Rattle.definitions.specs.Questions.{Asked, pass, question10, table_questions, entry_input, entry_questions}
use Rattle.definitions.specs.Accuracy.{Binary64}
use Rattle.definitions.specs.Services.{given, answer, filled, table, table_answer, table_area, entry_answer}
use Rattle.definitions.specs.Column.{column_in_range, column_questions, stage_column, column_answer, column_area}
use Rattle.definitions.specs.Prices.{unit_price, request_price, prices_in_range, price_questions, price_allowance, price_answer, request_prices, price_area}
use Rattle.definitions.specs.Moving.{times_power}
use Rattle.rounding.specs.Scaling.{Scaled}
use Rattle.rounding.proofs.TimesPower.{times_back, times_forth, scaled_is_times_power}
use Rattle.steps.proofs.QuestionLaws.{then_first, given_passes, given_is}
use Rattle.steps.proofs.AcceptedCalls.{AcceptedSheet, table_accepted, entry_accepted, column_accepted, accepted_stage, price_accepted, prices_fine}
use Rattle.steps.proofs.TableLaws.{length-list, length-rows, list_same, rows_same, list-map, rows-map}
use Rattle.shape.proofs.ShapeQuestions.{entry-input-passed}
use Rattle.commuting.specs.Commuting.{Moved, TimesBack, MovingCommutes}
use Rattle.commuting.proofs.Moves.{rate_is, weights_are, held_too}
use Rattle.commuting.proofs.LargerSheet.{Larger}
use Rattle.commuting.proofs.LargerTable.{column_scales, table_scales}
use Rattle.commuting.proofs.LargerPrices.{prices_scale}

-- A law of every larger sheet, for a move by k of either sign: where k is below zero the first sheet is the larger one.
module _ {reading n : ℕ} (in_range : List Float → Bool) (value : List Float → Float)
    (law : (c : ℕ) (sheet big : List Float) → Larger c reading n sheet big → T (in_range sheet) → T (in_range big) → Scaled c (value big) (value sheet)) where
  back : (k : ℤ) (sheet sheet' : List Float) → ((at : ℕ) → at < n * n → get_or sheet' at nan ≡ times_power k (get_or sheet at nan)) → drop (n * n) sheet' ≡ drop (n * n) sheet → Binary64 sheet → Binary64 sheet'
      → AcceptedSheet reading n sheet (in_range sheet) → AcceptedSheet reading n sheet' (in_range sheet')
      → value sheet' ≡ times_power (neg_ℤ k) (value sheet)
  back (pos c) sheet sheet' rate weights held held' a a' =
      let larger : Larger c reading n sheet sheet' = record { rate = rate; weights = weights; held = held; held' = held'; asked = a.known.numbers; asked' = a'.known.numbers } in
      sym (times_forth (pos c) (value sheet'))
      ∙ ap (times_power (neg_ℤ (pos c))) (sym (scaled_is_times_power c (value sheet') (value sheet) (law c sheet sheet' larger a.in_range_lem a'.in_range_lem)))
  back (negsuc j) sheet sheet' rate weights held held' a a' =
      let c = suc j in
      let rates : (at : ℕ) → at < n * n → get_or sheet at nan ≡ times_power (pos c) (get_or sheet' at nan) =
      λ at l. sym (ap (times_power (pos c)) (rate at l) ∙ times_back (pos c) (get_or sheet at nan)) in
      let larger : Larger c reading n sheet' sheet = record { rate = rates; weights = sym weights; held = held'; held' = held; asked = a'.known.numbers; asked' = a.known.numbers } in
      scaled_is_times_power c (value sheet) (value sheet') (law c sheet' sheet larger a'.in_range_lem a.in_range_lem)

-- Each number times 2^-k.
abbrev each : ℤ → List Float → List Float
each k numbers = map (λ number. times_power (neg_ℤ k) number) numbers

-- A call that fills m places where its questions pass, on the one sheet and on the other.
filled_back : {m : ℕ} (k : ℤ) (asked asked' : Asked) (E : ℕ) (new new' area area' : List Float) → length new ≡ m → length new' ≡ m
    → (asked ≡ pass → asked' ≡ pass → new' ≡ each k new)
    → TimesBack m k (answer asked E) (filled asked new area) (answer asked' E) (filled asked' new' area')
unfolding TimesBack
filled_back {m} k asked asked' E new new' area area' l l' same F F' a a' =
    let p = given_passes asked F E (sym a) in
    let p' = given_passes asked' F' E (sym a') in (
      given_is asked' F' E (sym a') ∙ sym (given_is asked F E (sym a)),
      rw (p, p') (take_at new' _ m l' ∙ same p p' ∙ sym (ap (each k) (take_at new _ m l))),
    )

module _ (k : ℤ) (n : ℕ) (asked asked' : Asked) (E : ℕ) (area area' : List Float) where
  rows_back : (f f' : ℕ → ℕ → Float) → (asked ≡ pass → asked' ≡ pass → (i j : ℕ) → i < n → j < n → f' i j ≡ times_power (neg_ℤ k) (f i j))
      → TimesBack (n * n) k (answer asked E) (filled asked (rows f n n) area) (answer asked' E) (filled asked' (rows f' n n) area')
  rows_back f f' h =
      filled_back k asked asked' E (rows f n n) (rows f' n n) area area' (length-rows f n n) (length-rows f' n n)
      (λ p p'. rows_same f' (λ i j. times_power (neg_ℤ k) (f i j)) n n (h p p') ∙ sym (rows-map (λ number. times_power (neg_ℤ k) number) f n n))

  list_back : (f f' : ℕ → Float) → (asked ≡ pass → asked' ≡ pass → (i : ℕ) → i < n → f' i ≡ times_power (neg_ℤ k) (f i))
      → TimesBack n k (answer asked E) (filled asked (list f n) area) (answer asked' E) (filled asked' (list f' n) area')
  list_back f f' h =
      filled_back k asked asked' E (list f n) (list f' n) area area' (length-list f n) (length-list f' n)
      (λ p p'. list_same f' (λ i. times_power (neg_ℤ k) (f i)) n (h p p') ∙ sym (list-map (λ number. times_power (neg_ℤ k) number) f n))

module _ {reading n : ℕ} {e : ℤ} {sheet : List Float} {k e' : ℤ} {sheet' : List Float} (held : Binary64 sheet) (m : Moved reading n e sheet k e' sheet') where
  entry_back : (i j : ℕ) → i < n → j < n
      → AcceptedSheet reading n sheet (every_step_in_range reading n sheet) → AcceptedSheet reading n sheet' (every_step_in_range reading n sheet')
      → entry reading n sheet' i j ≡ times_power (neg_ℤ k) (entry reading n sheet i j)
  entry_back i j hi hj a =
      back (every_step_in_range reading n) (λ sheet. entry reading n sheet i j) (λ c small big l t t'. table_scales a.known.first l t t' i j hi hj)
      k sheet sheet' (rate_is m) (weights_are m) held (held_too m held) a

  table_back : (area area' : List Float)
      → TimesBack (n * n) k
      (table_answer reading n e sheet (length area)) (table_area reading n e sheet area)
      (table_answer reading n e' sheet' (length area')) (table_area reading n e' sheet' area')
  unfolding table_answer table_area table
  table_back area area' =
      rows_back k n (table_questions reading n e sheet (length area)) (table_questions reading n e' sheet' (length area')) (allowance reading n) area area'
      (entry reading n sheet) (entry reading n sheet')
      (λ p p' i j hi hj. entry_back i j hi hj (table_accepted reading n e sheet (length area) p) (table_accepted reading n e' sheet' (length area') p'))

  one-entry_back : (i j : ℕ) (x x' : Float) → entry_answer reading n e sheet i j ≡ given x → entry_answer reading n e' sheet' i j ≡ given x'
      → x' ≡ times_power (neg_ℤ k) x
  unfolding entry_answer entry_questions
  one-entry_back i j x x' a a' =
      let asked = entry_questions reading n e sheet i j in
      let asked' = entry_questions reading n e' sheet' i j in
      let due = entry reading n sheet (i - 1) (j - 1) in
      let due' = entry reading n sheet' (i - 1) (j - 1) in
      let p = given_passes asked x due (sym a) in
      let p' = given_passes asked' x' due' (sym a') in
      let stages = entry-input-passed reading n e sheet i j (then_first (entry_input reading n e sheet i j) (question10 reading n sheet) p) in
      given_is asked' x' due' (sym a')
      ∙ entry_back (i - 1) (j - 1) (omega (arith, stages.1)) (omega (arith, stages.2)) (entry_accepted reading n e sheet i j p) (entry_accepted reading n e' sheet' i j p')
      ∙ ap (times_power (neg_ℤ k)) (sym (given_is asked x due (sym a)))

  column_back : (stage : ℕ) (area area' : List Float)
      → TimesBack n k
      (column_answer reading n e sheet (length area) stage) (column_area reading n e sheet stage area)
      (column_answer reading n e' sheet' (length area') stage) (column_area reading n e' sheet' stage area')
  unfolding column_answer column_area stage_column
  column_back stage area area' =
      let j = stage - 1 in
      list_back k n (column_questions reading n e sheet (length area) stage) (column_questions reading n e' sheet' (length area') stage) (allowance 1 n) area area'
      (λ i. entry 1 n sheet i j) (λ i. entry 1 n sheet' i j)
      (λ p p' i hi.
      back (λ sheet. column_in_range n sheet j) (λ sheet. entry 1 n sheet i j)
      (λ c small big l t t'. column_scales l j (accepted_stage reading n e sheet (length area) stage p) t t' i hi)
      k sheet sheet' (rate_is m) (weights_are m) held (held_too m held)
      (column_accepted reading n e sheet (length area) stage p) (column_accepted reading n e' sheet' (length area') stage p'))

  prices_back : (unit_prices area area' : List Float) → Binary64 unit_prices
      → TimesBack n k
      (price_answer reading n e sheet unit_prices (length area)) (price_area reading n e sheet unit_prices area)
      (price_answer reading n e' sheet' unit_prices (length area')) (price_area reading n e' sheet' unit_prices area')
  unfolding price_answer price_area request_prices
  prices_back unit_prices area area' fit =
      let price : List Float → ℕ → Float = λ sheet. request_price n (entry reading n sheet) (unit_price unit_prices) in
      list_back k n (price_questions reading n e sheet unit_prices (length area)) (price_questions reading n e' sheet' unit_prices (length area')) (price_allowance reading n) area area'
      (price sheet) (price sheet')
      (λ p p' i hi.
      let a = price_accepted reading n e sheet unit_prices (length area) p in
      back (λ sheet. prices_in_range reading n sheet unit_prices) (λ sheet. price sheet i)
      (λ c small big l t t'. prices_scale reading n a.known.first unit_prices fit (prices_fine reading n e sheet unit_prices (length area) p) l t t' i hi)
      k sheet sheet' (rate_is m) (weights_are m) held (held_too m held) a (price_accepted reading n e' sheet' unit_prices (length area') p'))

pub moving_commutes : MovingCommutes
unfolding MovingCommutes
moving_commutes reading n e sheet k e' sheet' held m =
    record { table = table_back held m; entry = one-entry_back held m; column = column_back held m; prices = prices_back held m }
