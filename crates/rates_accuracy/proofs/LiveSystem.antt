-- Readings 1 and 3: the stages that take part (document 02, U3 and U10). With an exit of 1 at each idle stage the sheet's system gets out
-- as a whole, and in compact order it is the system that goes through the steps.
use Prim.Native.Nat.{ℕ, zero, ◌+◌, ◌*◌, ◌<◌}
use mathlib.Core.Bool.{Bool, true, false, not}
use mathlib.Core.List.{List}
use mathlib.Core.Logic.{⊎_elim}
use mathlib.Core.Path.{◌≡◌, refl, sym, ap, ap₂, ◌∙◌}
use native.Mathlib.Nat.{add-zero, zero-mul, mul-pos}
use native.Mathlib.Omega.{arith}
use lib.Dec.{T, eqb, eqb→eq, lt→ltb, ltb→lt}
use lib.ListN.{get_or}
use lib.Ieee.{Float}
use lib.Ieee.Bits.{is_true}
use Rattle.exact.specs.Chains.{In, GetsOut, stop}
use Rattle.exact.specs.Sums.{bit}
use Rattle.exact.specs.Systems.{Equations, Solves, AllOut, moves, exits}
use Rattle.exact.proofs.Bools.{holds, or_cases}
use Rattle.exact.proofs.Cases.{by_bool, by_equal}
use Rattle.exact.proofs.Chains.{gets_out_mono}
use Rattle.exact.proofs.Systems.{SameRow, solves_same, all_out_same}
use Rattle.definitions.specs.Numbers.{units}
use Rattle.definitions.specs.LeavingRates.{Weights, none, some, System}
use Rattle.definitions.specs.Compact.{stages_with, rank, weights_of}
use Rattle.definitions.specs.Sheet.{place, size, diagonal, weights, idle, takes_part}
use Rattle.definitions.specs.Table.{live_system}
use Rattle.definitions.specs.Accuracy.{Binary64}
use Rattle.definitions.specs.Questions.{pass, gets_out, not_trapped, question9, number_questions}
use Rattle.rounding.proofs.AnyNumbers.{zero-units}
use Rattle.rounding.proofs.Laws.{units-zero}
use Rattle.steps.proofs.CompactOrder.{listed}
use Rattle.steps.specs.Trapped.{Idle}
use Rattle.steps.proofs.LiveStages.{live_is, left_out_idle, live-size, live_exit, live-weights}
use Rattle.steps.proofs.QuestionLaws.{stages_yes}
use Rattle.steps.proofs.Sizes.{size-own}
use Rattle.steps.proofs.Trapped.{out_decided, idle_decided}
use Rattle.rates_accuracy.specs.LeavingRatesAccuracy.{weight_units, exit_units, in_units, GoodWeights, GoodSystem, StagesGetOut}
use Rattle.rates_accuracy.proofs.CompactEquations.{stage, packed, packed_solves, packed_out, stage_apart}
use Rattle.rates_accuracy.proofs.Input.{size_is, diagonal_is, last_question, input_positive, input-weights, move_kept, exit_kept}
use Rattle.rates_accuracy.proofs.PivotErrors.{weight-pos, exit_pos}

-- The sheet's numbers in units of 2^-1074, with right sides b, for unknowns that are divided by their weights.
abbrev pub sheet_equations : ℕ → ℕ → List Float → (ℕ → ℕ) → Equations
sheet_equations reading n sheet b i =
    let w = weights reading n sheet in
    record {
      size = λ j. units (size n sheet i j) * weight_units w j;
      exit = units (diagonal n sheet i) * exit_units w + bit (not (takes_part reading n sheet i));
      right = b i;
    }

-- The weights in compact order.
weights_listed : (stages : List ℕ) (w : Weights) (p : ℕ) → weight_units (weights_of stages w) p ≡ weight_units w (get_or stages p 0)
weights_listed stages none p = refl
weights_listed stages (some z) p = refl

exits_listed : (stages : List ℕ) (w : Weights) → exit_units (weights_of stages w) ≡ exit_units w
exits_listed stages none = refl
exits_listed stages (some z) = refl

weights-good_listed : (on : ℕ → Bool) (n : ℕ) (w : Weights) → GoodWeights n w → GoodWeights (rank on n) (weights_of (stages_with on n) w)
weights-good_listed on n none g = tt
weights-good_listed on n (some z) g = λ j l. g (stage on n j) (listed on n j l).below

module _ (reading n : ℕ) (sheet : List Float) (fit : Binary64 sheet) (e : number_questions reading n sheet ≡ pass) where
  abbrev on : ℕ → Bool
  on = takes_part reading n sheet

  abbrev w : Weights
  w = weights reading n sheet

  abbrev equations : (ℕ → ℕ) → Equations
  equations = sheet_equations reading n sheet

  pub size_to_idle : (i j : ℕ) → i < n → j < n → takes_part reading n sheet j ≡ false → units (size n sheet i j) ≡ 0
  unfolding Idle
  size_to_idle i j l m f =
      by_equal i j
      (λ s. rw (s, size-own n sheet j) units-zero)
      (λ o. (size_is reading n sheet fit e i j l m o).same ∙ zero-units (place n sheet i j) ((idle_decided n sheet j).0 (holds (left_out_idle n sheet reading j f)) i l).1)

  no_size : (i j : ℕ) → i < n → j < n → takes_part reading n sheet j ≡ false → units (size n sheet i j) * weight_units (weights reading n sheet) j ≡ 0
  no_size i j l m f = rw (size_to_idle i j l m f) (zero-mul (weight_units w j))

  pub exit_live : (i : ℕ) → takes_part reading n sheet i ≡ true
      → units (diagonal n sheet i) * exit_units (weights reading n sheet) + bit (not (takes_part reading n sheet i)) ≡ units (diagonal n sheet i) * exit_units (weights reading n sheet)
  exit_live i t = rw t (add-zero (units (diagonal n sheet i) * exit_units w))

  -- Reading 1: question 9, and an exit of 1 at an idle stage. The others: every exit is positive.
  first_out : (b : ℕ → ℕ) → eqb reading 1 ≡ true → AllOut 0 n (sheet_equations reading n sheet b)
  unfolding question9 not_trapped
  first_out b first =
      let asked = stages_yes (not_trapped n sheet) 9 n (rw first at (last_question reading n sheet fit e)) in
      record { out = λ i l. ⊎_elim (idle_out i) (live_out i l) (or_cases (idle n sheet i) (gets_out n sheet i) (asked i (omega arith))) }
    where
      one : reading ≡ 1
      one = eqb→eq reading 1 (holds first)

      idle_out : (i : ℕ) → T (idle n sheet i) → GetsOut 0 n (moves (equations b)) (exits (equations b)) i
      idle_out i t =
          let out : on i ≡ false = rw one (live_is n sheet i ∙ ap not (is_true (idle n sheet i) t)) in
          let h : bit (not (on i)) ≡ 1 = ap (λ b. bit (not b)) out in
          stop (lt→ltb zero (equations b i).exit (omega arith))

      live_out : (i : ℕ) → In 0 n i → T (gets_out n sheet i) → GetsOut 0 n (moves (equations b)) (exits (equations b)) i
      live_out i l t =
          gets_out_mono
          (λ i j hi hj d u.
          lt→ltb zero ((equations b i).size j)
          (mul-pos (ltb→lt zero (units (size n sheet i j)) (move_kept n sheet fit (rw one at e) i j hi hj d u)) (weight-pos n w (input-weights reading n sheet fit e) j (omega arith))))
          (λ i h u.
          lt→ltb zero (equations b i).exit
          (let z = mul-pos (ltb→lt zero (units (diagonal n sheet i)) (exit_kept n sheet fit (rw one at e) i h u)) (exit_pos w) in omega arith))
          l ((out_decided n sheet i (omega arith)).0 t)

  other_out : (b : ℕ → ℕ) → eqb reading 1 ≡ false → AllOut 0 n (sheet_equations reading n sheet b)
  other_out b other =
      record {
        out = λ i l.
            (let z = mul-pos (input_positive reading n sheet other fit e i (omega arith)) (exit_pos w) in
            stop (lt→ltb zero (equations b i).exit (omega arith)));
      }

  pub sheet_out : (b : ℕ → ℕ) → AllOut 0 n (sheet_equations reading n sheet b)
  sheet_out b = by_bool (eqb reading 1) (first_out b) (other_out b)

  -- In compact order.
  abbrev live : System
  live = live_system reading n sheet

  pub live-weights-good : GoodWeights (rank (takes_part reading n sheet) n) (live_system reading n sheet).z
  live-weights-good = rw (live-weights reading n sheet) (weights-good_listed on n w (input-weights reading n sheet fit e))

  pub live-good : GoodSystem (live_system reading n sheet).z zero (rank (takes_part reading n sheet) n) (live_system reading n sheet)
  live-good =
      record {
        size = λ p q hp hq d.
            (let bp : p < rank on n = omega arith in
            let bq : q < rank on n = omega arith in
            rw (live-size reading n sheet p q bp bq) (size_is reading n sheet fit e (stage on n p) (stage on n q) (listed on n p bp).below (listed on n q bq).below (stage_apart on n p q bp bq d)).good);
        exit = λ p hp.
            (let bp : p < rank on n = omega arith in
            rw (live_exit reading n sheet p bp) (diagonal_is reading n sheet fit e (stage on n p) (listed on n p bp).below).good);
        weights = refl;
      }

  pub live-weight : (p : ℕ) → weight_units (live_system reading n sheet).z p ≡ weight_units (weights reading n sheet) (stage (takes_part reading n sheet) n p)
  live-weight p = rw (live-weights reading n sheet) (weights_listed (stages_with on n) w p)

  live-row : (b c : ℕ → ℕ) (p : ℕ) → p < rank on n → b (stage on n p) ≡ c p → SameRow 0 (rank on n) (packed on n (equations b) p) (in_units live.z live c p)
  live-row b c p l f =
      record {
        size = λ q h. sym (ap₂ (λ t z. units t * z) (live-size reading n sheet p q l (omega arith)) (live-weight q));
        exit =
            exit_live (stage on n p) (listed on n p l).passes
            ∙ sym (ap₂ (λ s c. units s * c) (live_exit reading n sheet p l) (ap exit_units (live-weights reading n sheet) ∙ exits_listed (stages_with on n) w));
        right = f;
      }

  pub live_solves : (b c : ℕ → ℕ) (d : ℕ) (z : ℕ → ℕ) → ((p : ℕ) → p < rank (takes_part reading n sheet) n → b (stage (takes_part reading n sheet) n p) ≡ c p)
      → Solves 0 n (sheet_equations reading n sheet b) d z
      → Solves 0 (rank (takes_part reading n sheet) n) (in_units (live_system reading n sheet).z (live_system reading n sheet) c) d (λ p. z (stage (takes_part reading n sheet) n p))
  live_solves b c d z f s =
      solves_same (λ p h. live-row b c p (omega arith) (f p (omega arith)))
      (packed_solves on n (equations b) no_size d z s)

  pub live_out : StagesGetOut (live_system reading n sheet).z zero (rank (takes_part reading n sheet) n) (live_system reading n sheet)
  live_out =
      all_out_same (λ p h. live-row (λ i. zero) (λ i. zero) p (omega arith) refl)
      (packed_out on n (equations (λ i. zero)) no_size (sheet_out (λ i. zero)))
