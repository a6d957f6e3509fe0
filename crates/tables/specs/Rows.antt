-- Operations on a row of numbers, and their range tests (document 01, "Steps for leaving rates" and question 10).
use Rattle.std.specs.Prelude.{◌≡◌, ℕ, Bool, Float}
use Rattle.definitions.specs.Numbers.{◌⊕◌, ◌⊗◌, ◌⊘◌, 0·0, mul_in_range, div_in_range, add_product_in_range, sum, all}

-- A row with m times another row.
unfoldable pub plus_multiple : Float → (ℕ → Float) → (ℕ → Float) → ℕ → Float
plus_multiple m own other j = own j ⊕ m ⊗ other j

unfoldable pub plus_multiple_in_range : Float → (ℕ → Float) → (ℕ → Float) → ℕ → Bool
plus_multiple_in_range m own other j = add_product_in_range (own j) m (other j)

-- The products alone.
unfoldable pub times_in_range : Float → (ℕ → Float) → ℕ → Bool
times_in_range m other j = mul_in_range m (other j)

-- A row over a number p.
unfoldable pub over : Float → (ℕ → Float) → ℕ → Float
over p own j = own j ⊘ p

unfoldable pub over_in_range : Float → (ℕ → Float) → ℕ → Bool
over_in_range p own j = div_in_range (own j) p

-- A row times a vector, in m columns from lo on: the sum of the products, and whether these are in range.
pub record Dot (row v : ℕ → Float) (lo m : ℕ) (value : Float) (ok : Bool) : Type 0 where
  pub sums : value ≡ sum 0·0 (λ j. row j ⊗ v j) lo m
  pub tests : ok ≡ all (λ j. mul_in_range (row j) (v j)) lo m
