-- What the call promises, from the promise of the service and what is handed over in its out places.
use mathlib.Core.List.{List}
use Prim.Native.Nat.{ℕ}
use lib.IntN.{ℤ}
use lib.Ieee.{Float}
use Rattle.std.specs.Prelude.{Result}
use Rattle.answers.specs.declared.Refusal.{Refusal}
use Rattle.answers.specs.Answers as answers
use Rattle.out_places.specs.OutPlaces.{ValueHanded}
use Rattle.moving.specs.Promises.{MoveDone}
use Rattle.move_calls.specs.MoveCalls.{MoveCall}

pub move_call : {reading n : ℕ} {e : ℤ} {sheet : List Float} {k : ℤ} {before after : List Float} {r : Result ℤ Refusal} {was is : ℤ} {row column number : ℕ}
    → MoveDone reading n e sheet k before after r → ValueHanded (answers.told r) was is row column number → MoveCall reading n e sheet k before after was is row column number
move_call done told = record { answer = rw done.answered at told; area = done.area }
