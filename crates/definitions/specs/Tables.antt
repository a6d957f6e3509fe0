-- Lists and tables of numbers, by rows. `stored` changes no number in range: it only has each one computed once, so that the
-- definitions run.
use Rattle.std.specs.Prelude.{ℕ, zero, suc, List, [], ◌∷◌, ◌++◌, get_or}

module _ {A : Type 0} where
  -- f 0, f 1, …, f (m - 1).
  unfoldable pub list : (ℕ → A) → ℕ → List A
  list f zero = []
  list f (suc m) = list f m ++ (f m ∷ [])

  -- The first m rows of n places each, row by row.
  unfoldable pub rows : (ℕ → ℕ → A) → ℕ → ℕ → List A
  rows f n zero = []
  rows f n (suc m) = rows f n m ++ list (f m) n

  -- f at each of 0 to n - 1, and the other value beyond.
  unfoldable pub stored : A → ℕ → (ℕ → A) → ℕ → A
  stored other n f = let values = list f n in λ i. get_or values i other

-- f at each place (i, j) of n rows of n.
unfoldable pub stored_table : {A : Type 0} → A → ℕ → (ℕ → ℕ → A) → ℕ → ℕ → A
stored_table other n f = stored (λ j. other) n (λ i. stored other n (f i))
