-- What is known once the first questions passed, and the service's promise for each way that a call can end.
use mathlib.Core.Path.{◌≡◌, refl, sym, ap, ◌∙◌}
use Prim.Native.Nat.{ℕ, suc, ◌+◌, ◌*◌, ◌-◌, ◌≤◌, ◌<◌}
use native.Mathlib.Nat.{le_trans, le_of_eq}
use native.Mathlib.Omega.{arith}
use mathlib.Core.Bool.{Bool, true, false}
use mathlib.Core.List.{List, [], ◌++◌, map, append_assoc, append-nil}
use lib.Dec.{T, ltb}
use lib.IntN.{ℤ, pos, negsuc, sub_ℕ, ◌+ℤ◌}
use lib.Signed.{mag}
use mir.Syntax.{w64}
use mir.Val.{SFits}
use lib.ListN.{length, get_or, take, drop, length-append, length-drop, length-map, take-append-drop, drop_of_length-le, get_or-map}
use lib.Seq.{length-take-le, take_all, take-append_seam, drop-append_seam, drop-drop, get_or-take, ext_get_or}
use borrow.Rule.Slice.PartMut.{mid_of, post_of, put_mid}
use lib.Ieee.{Float, nan, binary64, fits, mul}
use Rattle.exact.proofs.Bools.{holds}
use Rattle.exact.proofs.Cases.{by_bool}
use Rattle.definitions.specs.Numbers.{◌⊗◌, finite}
use Rattle.definitions.specs.Sheet.{sheet_rows, place}
use Rattle.definitions.specs.Questions.{pass, refuse, ask, exponent_in_range, large_enough}
use Rattle.definitions.specs.Services.{filled}
use Rattle.definitions.specs.Moving.{times_power, question15, question17, has_room, rates_have_room, question16, move_input, move_questions, move_answer, moved_sheet, moved_area}
use Rattle.rounding.specs.Scaling.{power}
use Rattle.rounding.proofs.TimesPower.{product_with_power}
use Rattle.rounding.proofs.SizeWithin.{room_held}
use Rattle.steps.proofs.All.{each_below, all-below}
use Rattle.steps.proofs.QuestionLaws.{exponent_small, number-finite, number_large}
use Rattle.shape.specs.Square.{Square, WholeSheet}
use Rattle.shape.proofs.Square.{is_square, every_number}
use Rattle.shape.proofs.ShapeQuestions.{move_input-passed, move_unit}
use Rattle.std.specs.Prelude.{Result, Ok, Err}
use Rattle.answers.specs.declared.Question.TheVariants as question
use Rattle.answers.specs.declared.Refusal.{Refusal}
use Rattle.answers.specs.Answers.{number, of_call}
use Rattle.moving.specs.Promises.{have_room, Movable, MoveDone}

-- ---- e + k fits
mag-difference : (a b : ℕ) → mag (sub_ℕ a b) ≤ a + b
mag-difference a b =
    by_bool (ltb a b)
    (λ t. rw t (omega arith))
    (λ f. rw f (omega arith))

mag_sum : (a b : ℤ) → mag (a +ℤ b) ≤ mag a + mag b + 1
mag_sum (pos a) (pos b) = omega arith
mag_sum (pos a) (negsuc b) = omega (arith, mag-difference a (suc b))
mag_sum (negsuc a) (pos b) = omega (arith, mag-difference b (suc a))
mag_sum (negsuc a) (negsuc b) = omega arith

pub unit-fits : (e k : ℤ) → T (exponent_in_range e) → T (exponent_in_range k) → SFits w64 (e +ℤ k)
unit-fits e k a b = record { sfits = omega (arith, mag_sum e k, exponent_small e a, exponent_small k b) }

-- ---- the numbers
module _ {k : ℤ} {rates : List Float} (known : Movable k (power k) rates) (held : (at : ℕ) → T (fits binary64 (get_or rates at nan))) where
  number-moved : have_room k rates ≡ true → (at : ℕ) → at < length rates → get_or rates at nan ⊗ power k ≡ times_power k (get_or rates at nan)
  unfolding have_room
  number-moved good at h =
      let x = get_or rates at nan in
      let f = known.finites at h in
      product_with_power k x f (room_held k x f (held at) (each_below (length rates) (λ at. has_room (times_power k (get_or rates at nan))) (holds good) at h))

  rates_moved : have_room k rates ≡ true → map (λ number. number ⊗ power k) rates ≡ map (λ number. times_power k number) rates
  unfolding times_power mul
  rates_moved good =
      let rounded : Float → Float = λ number. number ⊗ power k in
      let exact : Float → Float = λ number. times_power k number in
      ext_get_or nan (map rounded rates) (map exact rates) (length-map rates rounded ∙ sym (length-map rates exact))
      (λ at h. get_or-map rounded rates at nan ∙ number-moved good at (rw (length-map rates rounded) at h) ∙ sym (get_or-map exact rates at nan))

  pub rates_written : {factor : Float} (before : List Float) {after : List Float} → factor ≡ power k → have_room k rates ≡ true
      → after ≡ filled pass (map (λ number. number ⊗ factor) rates) before → after ≡ filled pass (map (λ number. times_power k number) rates) before
  rates_written before is good written = rw (is, rates_moved good) at written

-- New numbers at an area's start, and behind them others at the start of what is left of it: both lists at its start.
pub both_written : (new others before : List Float) {after part : List Float} {at : ℕ} → at ≡ length new
    → after ≡ filled pass new before → part ≡ filled pass others (mid_of at (length after - at) after)
    → put_mid at (length after - at) after part ≡ filled pass (new ++ others) before
both_written new others before {after} {part} {at} count first second =
    let rest = drop (length new) before in
    let from : drop at after ≡ rest = rw (first, count) (drop-append_seam new rest) in
    let whole : mid_of at (length after - at) after ≡ rest = take_all (length after - at) (drop at after) (le_of_eq (length-drop at after)) ∙ from in
    let none : post_of at (length after - at) after ≡ [] = drop_of_length-le (drop at after) (le_of_eq (length-drop at after)) in
    let front : take at after ≡ new = rw (first, count) (take-append_seam new rest) in
    rw (front, none, append-nil, second, whole)
    (sym (append_assoc new others (drop (length others) rest)) ∙ ap (λ tail. (new ++ others) ++ tail) (drop-drop (length others) (length new) before ∙ ap (λ i. drop i before) (sym (length-append new others))))

-- ---- the service
module _ (reading n : ℕ) (e : ℤ) (sheet : List Float) (k : ℤ) (before : List Float) where
  pub input_refused : {r : Result ℤ Refusal} {refusal : Refusal} → r ≡ Err refusal → move_input reading n e sheet (length before) ≡ refuse (number refusal.question) refusal.row refusal.column
      → MoveDone reading n e sheet k before before r
  unfolding move_questions move_answer moved_area
  input_refused e is = record { answered = rw (e, is); area = rw is }

  module _ (input : move_input reading n e sheet (length before) ≡ pass) where
    whole : WholeSheet reading n sheet
    whole = (move_input-passed reading n e sheet (length before) input).0

    pub its_square : Square n sheet
    its_square = is_square whole

    rates_length : length (take (n * n) sheet) ≡ n * n
    rates_length = length-take-le (n * n) sheet its_square.held

    -- What holds at every place holds of every rate.
    each-rate : (P : Float → Type 0) → ((i j : ℕ) → i < sheet_rows reading n → j < n → P (place n sheet i j)) → (at : ℕ) → at < length (take (n * n) sheet) → P (get_or (take (n * n) sheet) at nan)
    each-rate P h at l =
        let below : at < n * n = rw rates_length at l in
        rw (get_or-take (n * n) sheet at nan below) (every_number whole P h at (omega (arith, its_square.held)))

    pub movable : T (exponent_in_range k) → Movable k (power k) (take (n * n) sheet)
    movable inside =
        let p = move_input-passed reading n e sheet (length before) input in
        record {
          in_range = inside;
          is = refl;
          finites = each-rate (λ x. T (finite x)) (number-finite reading n sheet p.2);
          larges = each-rate (λ x. T (large_enough x)) (number_large reading n sheet p.2);
        }

    pub fits_area : length (take (n * n) sheet) + length (drop (n * n) sheet) ≤ length before
    fits_area =
        let p = move_input-passed reading n e sheet (length before) input in
        rw (← (length-append (take (n * n) sheet) (drop (n * n) sheet)), take-append-drop (n * n) sheet) (le_trans (le_of_eq p.0.held) p.1)

    rates_room : have_room k (take (n * n) sheet) ≡ rates_have_room n k sheet
    unfolding have_room rates_have_room
    rates_room =
        rw rates_length
        (all-below (λ at. has_room (times_power k (get_or (take (n * n) sheet) at nan))) (λ at. has_room (times_power k (get_or sheet at nan))) (λ at l. ap (λ x. has_room (times_power k x)) (get_or-take (n * n) sheet at nan l)))

    pub its_unit : T (exponent_in_range e)
    its_unit = move_unit reading n e sheet (length before) input

    pub exponent_refused : {r : Result ℤ Refusal} → r ≡ Err (of_call question.Exponent) → exponent_in_range k ≡ false → MoveDone reading n e sheet k before before r
    unfolding move_questions move_answer moved_area question15
    exponent_refused is out = record { answered = rw (is, input, out); area = rw (input, out) }

    module _ (inside : exponent_in_range k ≡ true) where
      pub unit_refused : {r : Result ℤ Refusal} → r ≡ Err (of_call question.MovedUnit) → exponent_in_range (e +ℤ k) ≡ false → MoveDone reading n e sheet k before before r
      unfolding move_questions move_answer moved_area question15 question17
      unit_refused is out = record { answered = rw (is, input, inside, out); area = rw (input, inside, out) }

      module _ (unit : exponent_in_range (e +ℤ k) ≡ true) {after : List Float} {ok : Bool} (room : ok ≡ have_room k (take (n * n) sheet)) (written : after ≡ filled (ask ok 16 0 0) (map (λ number. times_power k number) (take (n * n) sheet) ++ drop (n * n) sheet) before) where
        pub room_refused : {r : Result ℤ Refusal} → r ≡ Err (of_call question.RoomToMove) → ok ≡ false → MoveDone reading n e sheet k before after r
        unfolding move_questions move_answer moved_area question15 question17 question16
        room_refused is none =
            let asked : rates_have_room n k sheet ≡ false = sym (room ∙ rates_room) ∙ none in
            record { answered = rw (is, input, inside, unit, asked); area = rw (input, inside, unit, asked) (rw none at written) }

        pub moved_given_lem : ok ≡ true → MoveDone reading n e sheet k before after (Ok (e +ℤ k))
        unfolding move_questions move_answer moved_area moved_sheet question15 question17 question16
        moved_given_lem some =
            let asked : rates_have_room n k sheet ≡ true = sym (room ∙ rates_room) ∙ some in
            record { answered = rw (input, inside, unit, asked); area = rw (input, inside, unit, asked) (rw some at written) }
