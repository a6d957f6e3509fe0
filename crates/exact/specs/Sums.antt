-- Sums over a range of whole numbers.
use Rattle.std.specs.Prelude.{Bool, true, false, ℕ, zero, suc, ◌+◌}

-- f k + f (k+1) + … , m terms.
unfoldable pub sum : (ℕ → ℕ) → ℕ → ℕ → ℕ
sum f k zero = zero
sum f k (suc m) = f k + sum f (suc k) m

-- 1 where a test passes, so that a sum counts.
abbrev pub bit : Bool → ℕ
bit true = 1
bit false = 0
