-- A list of numbers, one for each stage, read as a function, plus zero outside it. The working vectors have 32 numbers.
use Rattle.std.specs.Prelude.{◌≡◌, ℕ, List, length, get_or, Float}
use Rattle.definitions.specs.Numbers.{0·0}

unfoldable pub vector : List Float → ℕ → Float
vector xs i = get_or xs i 0·0

-- A list of `limit` numbers that is the function f.
pub record VectorIn (limit : ℕ) (xs : List Float) (f : ℕ → Float) : Type 0 where
  pub long : length xs ≡ limit
  pub is : vector xs ≡ f

-- The working vectors.
abbrev pub IsVector : List Float → Type 0
IsVector xs = length xs ≡ 32

abbrev pub VectorHolds : List Float → (ℕ → Float) → Type 0
VectorHolds xs f = VectorIn 32 xs f

-- A working vector of zeros.
abbrev pub ZeroVector : List Float → Type 0
ZeroVector xs = VectorHolds xs (λ _. 0·0)
