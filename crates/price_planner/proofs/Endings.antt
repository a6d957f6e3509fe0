-- The service's promise for each way that a call can end.
use mathlib.Core.Path.{◌≡◌, refl, sym, ap, ◌∙◌}
use Prim.Native.Nat.{ℕ}
use mathlib.Core.Bool.{Bool, true, false}
use mathlib.Core.List.{List, ◌++◌}
use lib.IntN.{ℤ}
use lib.ListN.{length, get_or, drop}
use lib.Ieee.{Float, nan}
use Rattle.exact.proofs.Bools.{holds}
use Rattle.definitions.specs.Tables.{list}
use Rattle.definitions.specs.Table.{entry}
use Rattle.definitions.specs.Questions.{pass, refuse, ask, ◌then◌}
use Rattle.definitions.specs.Accuracy.{Binary64}
use Rattle.definitions.specs.Services.{given, answer, filled}
use Rattle.definitions.specs.Prices.{unit_price, question19, price_input, request_price, prices_in_range, price_questions, price_allowance, price_answer, request_prices, price_area}
use Rattle.steps.proofs.QuestionLaws.{never_both, then_assoc, then_first, then_next}
use Rattle.steps.proofs.AcceptedCalls.{price_known}
use Rattle.tables.specs.Vectors.{vector}
use Rattle.accuracy.proofs.PriceRule.{accurate_prices}
use Rattle.accuracy.proofs.Same.{same_vector}
use Rattle.writing.proofs.AcceptedArea.{vector_area}
use Rattle.std.specs.Prelude.{Result, Ok, Err}
use Rattle.answers.specs.declared.Question.TheVariants as question
use Rattle.answers.specs.declared.Refusal.{Refusal}
use Rattle.answers.specs.Answers.{number, of_call, told}
use Rattle.price_planner.specs.Promises.{PriceStepped, PricesDone}

module _ (reading n : ℕ) (e : ℤ) (sheet prices before : List Float) where
  refused_with : {r : Result ℕ Refusal} {refusal : Refusal} → r ≡ Err refusal → price_questions reading n e sheet prices (length before) ≡ refuse (number refusal.question) refusal.row refusal.column
      → PricesDone reading n e sheet prices prices before before r
  unfolding price_answer price_area
  refused_with r is =
      record {
        kept = refl;
        answered = ap told r ∙ ap (λ q. answer q (price_allowance reading n)) (sym is);
        area = ap (λ q. filled q (request_prices reading n sheet prices) before) (sym is);
        accurate = λ p. absurd (never_both is p);
      }

  pub prices_refused : {r : Result ℕ Refusal} {refusal : Refusal} → r ≡ Err refusal → (price_input reading n e sheet (length prices) (length before) then question19 n prices) ≡ refuse (number refusal.question) refusal.row refusal.column
      → PricesDone reading n e sheet prices prices before before r
  unfolding price_questions
  prices_refused r is =
      let ten = ask (prices_in_range reading n sheet prices) 10 0 0 in
      refused_with r (sym (then_assoc (price_input reading n e sheet (length prices) (length before)) (question19 n prices) ten) ∙ ap (λ q. q then ten) is)

  module _ (passed : (price_input reading n e sheet (length prices) (length before) then question19 n prices) ≡ pass)
      {ps : List Float} {ok : Bool} (stepped : PriceStepped reading n sheet prices ok ps) where
    input : price_input reading n e sheet (length prices) (length before) ≡ pass
    input = then_first (price_input reading n e sheet (length prices) (length before)) (question19 n prices) passed

    fine : question19 n prices ≡ pass
    fine = then_next (price_input reading n e sheet (length prices) (length before)) (question19 n prices) passed

    pub prices_out_of_range : {r : Result ℕ Refusal} → r ≡ Err (of_call question.InRange) → ok ≡ false → PricesDone reading n e sheet prices prices before before r
    unfolding price_questions
    prices_out_of_range r bad = refused_with r (rw (input, fine, ← stepped.range, bad))

    pub prices_given : {after : List Float} {allowed : ℕ} → Binary64 sheet → Binary64 prices → ok ≡ true
        → after ≡ list (vector ps) n ++ drop n before → allowed ≡ price_allowance reading n
        → PricesDone reading n e sheet prices prices before after (Ok allowed)
    unfolding price_answer price_area price_questions request_prices
    prices_given {after} fit held good written a =
        let asked : price_questions reading n e sheet prices (length before) ≡ pass = rw (input, fine, ← stepped.range, good) in
        let placed = vector_area asked n before (request_price n (entry reading n sheet) (unit_price prices)) ps (stepped.price (holds good)) written in
        record {
          kept = refl;
          answered = ap given a ∙ ap (λ q. answer q (price_allowance reading n)) (sym asked);
          area = placed.area;
          accurate = λ p.
              same_vector (λ i. get_or after i nan) placed.at
              (accurate_prices reading n sheet prices fit held
              (record { known = price_known reading n e sheet (length prices) (length before) input; in_range_lem = holds (sym stepped.range ∙ good) }) fine);
        }
