-- What the questions before 10 came to, and question 10 after them.
use mathlib.Core.Path.{◌≡◌}
use Prim.Native.Nat.{ℕ}
use mathlib.Core.Bool.{Bool, true, false}
use mathlib.Core.List.{List}
use lib.Ieee.{Float}
use Rattle.definitions.specs.Table.{every_step_in_range}
use Rattle.definitions.specs.Questions.{Asked, pass, refuse, ◌then◌, question10}

pub after_refusal : {q : Asked} {number row column : ℕ} (next : Asked) → q ≡ refuse number row column → (q then next) ≡ refuse number row column
after_refusal next e = rw e

-- q stands for the questions before 10.
module _ (reading n : ℕ) (sheet : List Float) {q : Asked} (passed : q ≡ pass) {ok : Bool} (range : ok ≡ every_step_in_range reading n sheet) where
  pub out_of_range : ok ≡ false → (q then question10 reading n sheet) ≡ refuse 10 0 0
  unfolding question10
  out_of_range e = rw (passed, ← range, e)

  pub in_range_lem : ok ≡ true → (q then question10 reading n sheet) ≡ pass
  unfolding question10
  in_range_lem e = rw (passed, ← range, e)
