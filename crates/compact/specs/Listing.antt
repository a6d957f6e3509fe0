-- A rising list of stages at the front of 32 places (document 01, "Compact order" in the steps for margins).
use Rattle.std.specs.Prelude.{◌≡◌, ℕ, ◌<◌, Bool, false, List, Option, length, get_or, take}
use Rattle.std.specs.Option.{MatchOption}
use Rattle.definitions.specs.Compact.{stages_with, rank}

-- A mark for each of the 32 places; and the stages that a mask marks.
abbrev pub IsMask : List Bool → Type 0
IsMask mask = length mask ≡ 32

abbrev pub marked : List Bool → ℕ → Bool
marked mask i = get_or mask i false

-- Of the first m stages exactly those that pass a test are marked.
pub record MaskOf (test : ℕ → Bool) (m : ℕ) (mask : List Bool) : Type 0 where
  pub long : IsMask mask
  pub is : (i : ℕ) → i < m → marked mask i ≡ test i

-- The stage at place q of a list of stages.
abbrev pub stage_at : List ℕ → ℕ → ℕ
stage_at stages q = get_or stages q 0

-- The stages below n that pass a test, and their count.
pub record Listing (test : ℕ → Bool) (n count : ℕ) (stages : List ℕ) : Type 0 where
  pub long : length stages ≡ 32
  pub counted : count ≡ rank test n
  pub front : take count stages ≡ stages_with test n

-- The stages at the first r places are below n; and they differ from each other.
abbrev pub StagesBelow : ℕ → ℕ → List ℕ → Type 0
StagesBelow n r stages = (q : ℕ) → q < r → stage_at stages q < n

abbrev pub StagesDiffer : ℕ → List ℕ → Type 0
StagesDiffer r stages = (p q : ℕ) → p < r → q < r → stage_at stages p ≡ stage_at stages q → p ≡ q

-- The place of stage i among the first r of the list; none where it stands at none of them.
abbrev pub Found : ℕ → List ℕ → ℕ → Option ℕ → Type 0
Found r stages i place = MatchOption place ((q : ℕ) → q < r → stage_at stages q ≡ i → ⊥) (λ q. (q < r) × (stage_at stages q ≡ i))
