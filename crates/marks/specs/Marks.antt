-- The marked stages beside their count (document 01, question 9).
use Rattle.std.specs.Prelude.{Bool, false, ◌≡◌, ℕ, ◌<◌, length, get_or}
use Rattle.exact.specs.Sums.{sum, bit}
use Rattle.marks.specs.declared.Marks.{Marks}

abbrev pub is_marked : Marks → ℕ → Bool
is_marked marks i = get_or marks.marked i false

-- How many of the first m stages have p.
unfoldable pub count_of : (ℕ → Bool) → ℕ → ℕ
count_of p m = sum (λ i. bit (p i)) 0 m

-- Of the first m stages exactly those with p are marked, and counted.
pub record Marked (p : ℕ → Bool) (m : ℕ) (marks : Marks) : Type 0 where
  pub sized : length marks.marked ≡ 32
  pub each : (i : ℕ) → i < m → is_marked marks i ≡ p i
  pub counted : marks.count ≡ count_of p m

-- The count is that of the marked stages.
abbrev pub Counted : ℕ → Marks → Type 0
Counted n marks = Marked (is_marked marks) n marks
