-- The steps on b row by row (document 01, "Steps for leaving rates"): the rows take turns, and each gets the rows before it added, one after another, with its own multipliers.
use Rattle.std.specs.Prelude.{◌≡◌, ℕ, zero, suc, ◌-◌, ◌<◌, Bool, cond, T, eqb, Float}
use Rattle.definitions.specs.Numbers.{0·0, 1·0, finite, all}
use Rattle.tables.specs.Operators.{replace, between}
use Rattle.tables.specs.Rows.{plus_multiple, plus_multiple_in_range, over, over_in_range}

-- The row of turn q among r: downward the rows rise, upward they fall. It is added in its first `reach` columns: downward it has zeros right of them.
unfoldable pub turn : ℕ → Bool → ℕ → ℕ
turn r falling q = cond falling (r - suc q) q

unfoldable pub reach : ℕ → Bool → ℕ → ℕ
reach r falling q = cond falling r (suc q)

-- Row i of a table f after n rows are added, those of the turns κ 0, κ 1 and so on, with the multipliers of row i in g.
unfoldable pub staged : (ℕ → ℕ) → (ℕ → ℕ → Float) → (ℕ → ℕ → Float) → ℕ → ℕ → ℕ → Float
staged κ g f i zero = f i
staged κ g f i (suc q) = plus_multiple (g i (κ q)) (staged κ g f i q) (f (κ q))

-- Whether these steps are in range, those of turn q in the first w q columns.
unfoldable pub staged_in_range : (ℕ → ℕ) → (ℕ → ℕ) → (ℕ → ℕ → Float) → (ℕ → ℕ → Float) → ℕ → ℕ → Bool
staged_in_range κ w g f i n = all (λ q. all (plus_multiple_in_range (g i (κ q)) (staged κ g f i q) (f (κ q))) 0 (w q)) 0 n

-- The table after s turns, and whether all steps of s turns are in range.
unfoldable pub passed : (ℕ → ℕ) → (ℕ → ℕ → Float) → (ℕ → ℕ → Float) → ℕ → ℕ → ℕ → Float
passed κ g f zero = f
passed κ g f (suc s) = let h = passed κ g f s in replace (κ s) (staged κ g h (κ s) s) h

unfoldable pub pass_in_range : (ℕ → ℕ) → (ℕ → ℕ) → (ℕ → ℕ → Float) → (ℕ → ℕ → Float) → ℕ → Bool
pass_in_range κ w g f n = all (λ s. staged_in_range κ w g (passed κ g f s) (κ s) s) 0 n

-- The r × r places of a table that is the identity there; multipliers that are finite below the diagonal.
abbrev pub IsIdentity : ℕ → (ℕ → ℕ → Float) → Type 0
IsIdentity r f = (i j : ℕ) → i < r → j < r → f i j ≡ cond (eqb i j) 1·0 0·0

abbrev pub FiniteBelow : ℕ → (ℕ → ℕ → Float) → Type 0
FiniteBelow r g = (k i : ℕ) → k < i → i < r → T (finite (g i k))

-- The rows before hi of the identity of r × r.
unfoldable pub identity_row : ℕ → ℕ → Float
identity_row i j = cond (eqb i j) 1·0 0·0

unfoldable pub identity_rows : ℕ → ℕ → (ℕ → ℕ → Float) → ℕ → ℕ → Float
identity_rows r hi f = between 0 hi (λ i. between 0 r (identity_row i) (f i)) f

-- The last division, in the rows before hi.
unfoldable pub divided_rows : ℕ → ℕ → (ℕ → ℕ → Float) → (ℕ → ℕ → Float) → ℕ → ℕ → Float
divided_rows r hi g f = between 0 hi (λ i. between 0 r (over (g i i) (f i)) (f i)) f

unfoldable pub quotients_in_range : ℕ → (ℕ → ℕ → Float) → (ℕ → ℕ → Float) → Bool
quotients_in_range r g f = all (λ i. all (over_in_range (g i i) (f i)) 0 r) 0 r
