-- What moving promises of every call with out places, refused calls too: what is returned, and every place that the call may write.
use Rattle.std.specs.Prelude.{◌≡◌, List, ℕ, ℤ, length, Float}
use Rattle.definitions.specs.Moving.{move_answer, moved_area}
use Rattle.out_places.specs.OutPlaces.{ValueHanded}

-- The second area and the place for the moved sheet's e before and after, the places for the row and the column after, and the number
-- returned.
pub record MoveCall (reading n : ℕ) (e : ℤ) (sheet : List Float) (k : ℤ) (before after : List Float) (was is : ℤ) (row column returned : ℕ) : Type 0 where
  pub answer : ValueHanded (move_answer reading n e sheet k (length before)) was is row column returned
  pub area : after ≡ moved_area reading n e sheet k before
