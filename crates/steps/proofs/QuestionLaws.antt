-- Laws of the questions: one after another, and what it says of a sheet that they are answered yes.
use Prim.Native.Nat.{ℕ, zero, suc, ◌+◌, ◌≤◌, ◌<◌}
use mathlib.Core.Bool.{Bool, true, false, ◌&&◌, ◌||◌}
use mathlib.Core.List.{List}
use mathlib.Core.Path.{◌≡◌, refl, ap₂, ◌∙◌}
use native.Mathlib.Omega.{arith}
use lib.Dec.{T, leb, leb→le, eqb, eqb→eq}
use lib.IntN.{ℤ, pos, negsuc}
use lib.Signed.{mag}
use lib.Ieee.{Float}
use lib.Ieee.Fits.{and_l, and_r}
use lib.Ieee.Bits.{is_true}
use Rattle.exact.specs.Chains.{In}
use Rattle.exact.proofs.Sums.{none_in, on_range}
use Rattle.definitions.specs.Numbers.{finite}
use Rattle.definitions.specs.Sheet.{sheet_rows, place}
use Rattle.definitions.specs.Services.{given, answer}
use Rattle.definitions.specs.Questions.{Asked, pass, refuse, ◌then◌, ask, ask_row, ask_rows, ask_stages, exponent_in_range, known_reading, question1, size_questions, shape_questions, question5, question6, right_sign, question7, large_enough, question8, place_questions}

-- An answer is a pass or a refusal.
pub never_both : {q : Asked} {number row column : ℕ} → q ≡ refuse number row column → q ≡ pass → ⊥
never_both e p = let z : ◌≡◌ {A = ℕ} 0 1 = cc in omega arith

pub then_assoc : (p q r : Asked) → ((p then q) then r) ≡ (p then q then r)
then_assoc pass q r = refl
then_assoc (refuse number row column) q r = refl

-- Questions one after another, each answered yes.
pub then_first : (a b : Asked) → a then b ≡ pass → a ≡ pass
then_first pass b e = refl
then_first (refuse n i j) b e = e

pub then_next : (a b : Asked) → a then b ≡ pass → b ≡ pass
then_next pass b e = e
then_next (refuse n i j) b e = cc

-- The reading is asked first.
pub reading-passed : (reading n : ℕ) (e : ℤ) (held : ℕ) (rest : Asked) → (shape_questions reading n e held then rest) ≡ pass → question1 reading ≡ pass
unfolding shape_questions
reading-passed reading n e held rest q = then_first (question1 reading) (size_questions reading n e held) (then_first (question1 reading then size_questions reading n e held) rest q)

-- Question 12: the exponent is a small number.
pub exponent_small : (e : ℤ) → T (exponent_in_range e) → mag e ≤ 512
unfolding exponent_in_range
exponent_small (pos n) t = leb→le n 512 t
exponent_small (negsuc n) t = omega (arith, leb→le n 511 (and_l (leb n 511) true t))

-- What an answer that hands something over says of its questions.
pub given_passes : {A : Type 0} (asked : Asked) (value due : A) → given value ≡ answer asked due → asked ≡ pass
given_passes pass value due e = refl
given_passes (refuse number row column) value due e = cc

pub given_is : {A : Type 0} (asked : Asked) (value due : A) → given value ≡ answer asked due → value ≡ due
given_is pass value due e = cc
given_is (refuse number row column) value due e = cc

pub ask_yes : (b : Bool) (n i j : ℕ) → ask b n i j ≡ pass → T b
ask_yes true n i j e = tt
ask_yes false n i j e = absurd (let z : ◌≡◌ {A = ℕ} 0 1 = cc in omega arith)

-- Question 1 leaves three readings.
pub data Reading (reading : ℕ) : Type 0 where
  leaving_rates : reading ≡ 1 → Reading reading
  margins : reading ≡ 2 → Reading reading
  with_weights : reading ≡ 3 → Reading reading

pub known_is : (reading : ℕ) → T (known_reading reading) → Reading reading
unfolding known_reading
known_is reading =
    go (eqb reading 1) (eqb reading 2) (eqb reading 3) (eqb→eq reading 1) (eqb→eq reading 2) (eqb→eq reading 3)
  where
    go : (a b c : Bool) → (T a → reading ≡ 1) → (T b → reading ≡ 2) → (T c → reading ≡ 3) → T (a || b || c) → Reading reading
    go true b c f g h t = leaving_rates (f tt)
    go false true c f g h t = margins (g tt)
    go false false true f g h t = with_weights (h tt)
    go false false false f g h t = absurd t

pub reading_is : (reading : ℕ) → question1 reading ≡ pass → Reading reading
unfolding question1
reading_is reading e = known_is reading (ask_yes (known_reading reading) 1 0 0 e)

-- Question 5, of one stage.
pub is_stage : (k n : ℕ) → T (leb 1 k && leb k n) → (1 ≤ k) × (k ≤ n)
is_stage k n t = (leb→le 1 k (and_l (leb 1 k) (leb k n) t), leb→le k n (and_r (leb 1 k) (leb k n) t))

pub one-stage : (n stage : ℕ) → question5 n stage stage ≡ pass → (1 ≤ stage) × (stage ≤ n)
unfolding question5
one-stage n stage e =
    let inside = leb 1 stage && leb stage n in
    is_stage stage n (and_l inside inside (ask_yes (inside && inside) 5 0 0 e))

yes_ask : (b : Bool) (n i j : ℕ) → T b → ask b n i j ≡ pass
yes_ask b n i j t = rw (is_true b t)

-- A question of m places from i on, one place after another.
scan_yes :
    (one : ℕ → Asked) (scan : ℕ → ℕ → Asked) → ((i m : ℕ) → scan i (suc m) ≡ one i then scan (suc i) m)
    → (i m : ℕ) → scan i m ≡ pass → (k : ℕ) → In i m k → one k ≡ pass
scan_yes one scan step i zero e = λ k h. absurd (none_in h)
scan_yes one scan step i (suc m) e =
    let both = rw (step i m) at e in
    on_range (λ k. one k ≡ pass) (then_first (one i) (scan (suc i) m) both)
    (scan_yes one scan step (suc i) m (then_next (one i) (scan (suc i) m) both))

-- Of m rows of n places.
module _ (good : ℕ → ℕ → Bool) (number n : ℕ) where
  row_yes : (i : ℕ) → ask_row good number i 0 n ≡ pass → (j : ℕ) → j < n → T (good i j)
  unfolding ask_row
  row_yes i e j h =
      ask_yes (good i j) number (suc i) (suc j)
      (scan_yes (λ j. ask (good i j) number (suc i) (suc j)) (ask_row good number i) (λ j m. refl) 0 n e j (omega arith))

  pub rows_yes : (m : ℕ) → ask_rows good number n 0 m ≡ pass → (i j : ℕ) → i < m → j < n → T (good i j)
  unfolding ask_rows
  rows_yes m e i j hi hj =
      row_yes i (scan_yes (λ i. ask_row good number i 0 n) (ask_rows good number n) (λ i m. refl) 0 m e i (omega arith)) j hj

pub stages_yes : (good : ℕ → Bool) (number n : ℕ) → ask_stages good number 0 n ≡ pass → (i : ℕ) → i < n → T (good i)
unfolding ask_stages
stages_yes good number n e i h =
    ask_yes (good i) number (suc i) 0 (scan_yes (λ i. ask (good i) number (suc i) 0) (ask_stages good number) (λ i m. refl) 0 n e i (omega arith))

-- Questions 6, 7 and 8, of each number, the weights included.
module _ (reading n : ℕ) (sheet : List Float) (e : place_questions reading n sheet ≡ pass) where
  after-finite : question7 reading n sheet then question8 reading n sheet ≡ pass
  unfolding place_questions
  after-finite = then_next (question6 reading n sheet) (question7 reading n sheet then question8 reading n sheet) e

  pub number-finite : (i j : ℕ) → i < sheet_rows reading n → j < n → T (finite (place n sheet i j))
  unfolding place_questions question6
  number-finite =
      rows_yes (λ i j. finite (place n sheet i j)) 6 n (sheet_rows reading n)
      (then_first (question6 reading n sheet) (question7 reading n sheet then question8 reading n sheet) e)

  pub number_sign : (i j : ℕ) → i < sheet_rows reading n → j < n → T (right_sign reading n sheet i j)
  unfolding question7
  number_sign = rows_yes (right_sign reading n sheet) 7 n (sheet_rows reading n) (then_first (question7 reading n sheet) (question8 reading n sheet) after-finite)

  pub number_large : (i j : ℕ) → i < sheet_rows reading n → j < n → T (large_enough (place n sheet i j))
  unfolding question8
  number_large =
      rows_yes (λ i j. large_enough (place n sheet i j)) 8 n (sheet_rows reading n) (then_next (question7 reading n sheet) (question8 reading n sheet) after-finite)

-- The other way round.
scan_pass :
    (one : ℕ → Asked) (scan : ℕ → ℕ → Asked) → ((i : ℕ) → scan i 0 ≡ pass) → ((i m : ℕ) → scan i (suc m) ≡ one i then scan (suc i) m)
    → (i m : ℕ) → ((k : ℕ) → k < i + m → one k ≡ pass) → scan i m ≡ pass
scan_pass one scan none step i zero h = none i
scan_pass one scan none step i (suc m) h = step i m ∙ rw (h i (omega arith)) (scan_pass one scan none step (suc i) m (λ k l. h k (omega arith)))

pub rows_pass : (good : ℕ → ℕ → Bool) (number n m : ℕ) → ((i j : ℕ) → i < m → j < n → T (good i j)) → ask_rows good number n 0 m ≡ pass
unfolding ask_row ask_rows
rows_pass good number n m h =
    scan_pass (λ i. ask_row good number i 0 n) (ask_rows good number n) (λ i. refl) (λ i m. refl) 0 m
    (λ i hi. scan_pass (λ j. ask (good i j) number (suc i) (suc j)) (ask_row good number i) (λ j. refl) (λ j m. refl) 0 n
    (λ j hj. yes_ask (good i j) number (suc i) (suc j) (h i j (omega arith) (omega arith))))

pub stages_pass : (good : ℕ → Bool) (number n : ℕ) → ((i : ℕ) → i < n → T (good i)) → ask_stages good number 0 n ≡ pass
unfolding ask_stages
stages_pass good number n h =
    scan_pass (λ i. ask (good i) number (suc i) 0) (ask_stages good number) (λ i. refl) (λ i m. refl) 0 n (λ i hi. yes_ask (good i) number (suc i) 0 (h i (omega arith)))

-- A search looks at its own stages alone.
pub stages_same : (p q : ℕ → Bool) (number i m : ℕ) → ((k : ℕ) → k < i + m → p k ≡ q k) → ask_stages p number i m ≡ ask_stages q number i m
unfolding ask_stages
stages_same p q number i zero e = refl
stages_same p q number i (suc m) e =
    ap₂ (λ yes rest. ask yes number (suc i) 0 then rest) (e i (omega arith)) (stages_same p q number (suc i) m (λ k h. e k (omega arith)))
