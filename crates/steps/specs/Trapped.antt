-- Question 9 in the words of the documents (01, "The questions, in order", 9; 02, U3), with the theorem that `question9` answers it.
use Rattle.std.specs.Prelude.{ℕ, suc, ◌<◌, not, List, ◌≢◌, ◌↔◌, ◌⊎◌, ◌≡◌, T, Float}
use Rattle.std.specs.Float.Ieee.{lt}
use Rattle.definitions.specs.Numbers.{0·0, is_zero}
use Rattle.definitions.specs.Sheet.{place, size, diagonal}
use Rattle.definitions.specs.Questions.{pass, refuse, question9}

-- "A chain of nonzero moves, the empty chain included, leads from it to a stage with s > 0."
pub data Chain (n : ℕ) (sheet : List Float) : ℕ → Type 0 where
  empty : {i : ℕ} → T (lt 0·0 (diagonal n sheet i)) → Chain n sheet i
  move : {i j : ℕ} → i < n → j < n → i ≢ j → T (not (is_zero (size n sheet i j))) → Chain n sheet j → Chain n sheet i

-- "A stage whose row and column are all zero is idle."
unfoldable pub Idle : ℕ → List Float → ℕ → Type 0
Idle n sheet i = (j : ℕ) → j < n → T (is_zero (place n sheet i j)) × T (is_zero (place n sheet j i))

-- "The lowest trapped stage", where an idle stage is not trapped: no chain leads out of it, and it is not idle; every lower stage is
-- idle, or a chain leads out of it.
pub record LowestTrapped (n : ℕ) (sheet : List Float) (i : ℕ) : Type 0 where
  pub below : i < n
  pub trapped : Chain n sheet i → ⊥
  pub busy : Idle n sheet i → ⊥
  pub lower : (k : ℕ) → k < i → Idle n sheet k ⊎ Chain n sheet k

-- Theorem: "Reading 1: can every stage get out? No: 9, the lowest trapped stage as row." There is no other answer.
pub record DecidesTrapped (n : ℕ) (sheet : List Float) : Type 0 where
  pub passes : (question9 1 n sheet ≡ pass) ↔ ((i : ℕ) → i < n → Idle n sheet i ⊎ Chain n sheet i)
  pub refuses : (i : ℕ) → ((question9 1 n sheet ≡ refuse 9 (suc i) 0) ↔ LowestTrapped n sheet i)
  pub answers : (question9 1 n sheet ≡ pass) ⊎ ((i : ℕ) × (question9 1 n sheet ≡ refuse 9 (suc i) 0))
  pub other_reading : (reading : ℕ) → reading ≢ 1 → question9 reading n sheet ≡ pass
