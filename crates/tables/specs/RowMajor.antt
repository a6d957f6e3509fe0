-- A list of limit × width numbers read as a table of `limit` rows: place (i, j) stands at i·width + j. The working tables have 32 rows of 32.
use Rattle.std.specs.Prelude.{◌≡◌, ℕ, ◌+◌, ◌*◌, Bool, ◌&&◌, cond, List, ltb, length, get_or, Float}
use Rattle.definitions.specs.Numbers.{0·0}

-- The whole list as one function, plus zero outside its places: equal functions are equal lists.
unfoldable pub table_of : ℕ → ℕ → List Float → ℕ → ℕ → Float
table_of limit width xs i j = cond (ltb i limit && ltb j width) (get_or xs (i * width + j) 0·0) 0·0

-- A list that is such a table, and is the function f.
pub record HoldsIn (limit width : ℕ) (xs : List Float) (f : ℕ → ℕ → Float) : Type 0 where
  pub long : length xs ≡ limit * width
  pub is : table_of limit width xs ≡ f

-- The working tables.
abbrev pub IsTable : List Float → Type 0
IsTable xs = length xs ≡ 1024

abbrev pub table : List Float → ℕ → ℕ → Float
table xs = table_of 32 32 xs

abbrev pub Holds : List Float → (ℕ → ℕ → Float) → Type 0
Holds xs f = HoldsIn 32 32 xs f

-- A working table of zeros.
abbrev pub ZeroTable : List Float → Type 0
ZeroTable xs = Holds xs (λ _ _. 0·0)

-- A function that changes a working table, and tells by ok whether its steps are in range.
pub record Gives (ok test : Bool) (xs : List Float) (f : ℕ → ℕ → Float) : Type 0 where
  pub range : ok ≡ test
  pub holds : Holds xs f
