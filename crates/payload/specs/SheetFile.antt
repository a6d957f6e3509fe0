-- Which files the functions behind the readers assume.
use Rattle.std.specs.Prelude.{ℕ, List, ◌≡◌}
use Rattle.definitions.specs.Questions.{pass}
use Rattle.definitions.specs.File.{head_stages, file_questions}

-- A file of n stages that is accepted with some room.
pub record SheetFile (bytes : List ℕ) (n : ℕ) : Type 0 where
  pub room : ℕ
  pub passes : file_questions bytes room ≡ pass
  pub stages : head_stages bytes ≡ n
