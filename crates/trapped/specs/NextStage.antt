-- The stage that the search of document 01's question 9 takes next.
use Rattle.std.specs.Prelude.{Bool, true, false, Option, Some, None, ◌≡◌, ℕ, ◌<◌}

-- One of n stages that has p and not q, if there is one.
abbrev pub NextStage : (ℕ → Bool) → (ℕ → Bool) → ℕ → Option ℕ → Type 0
NextStage p q n (Some j) = (j < n) × (p j ≡ true) × (q j ≡ false)
NextStage p q n None = (i : ℕ) → i < n → p i ≡ true → q i ≡ true
