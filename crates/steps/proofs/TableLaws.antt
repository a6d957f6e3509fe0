-- Laws of lists and tables of numbers: `stored` changes no value in range.
use Prim.Native.Nat.{ℕ, zero, suc, ◌+◌, ◌*◌, ◌<◌}
use native.Mathlib.Nat.{suc-mul, zero-mul, mul-le-mul_right}
use native.Mathlib.Numerals.{add-one}
use native.Mathlib.Omega.{arith}
use mathlib.Core.List.{List, [], ◌∷◌, ◌++◌, map, map-append}
use mathlib.Core.Path.{◌≡◌, refl, sym, ap, ◌∙◌, ap₂}
use lib.ListN.{length, get_or, length-append, get_or-append}
use lib.Seq.{get_or_at, get_or-append-add}
use native.Mathlib.Decide.{dec_lt}
use lib.Ieee.{Float, nan}
use Rattle.definitions.specs.Sheet.{place}
use Rattle.definitions.specs.Tables.{list, rows, stored, stored_table}

module _ {A : Type 0} where
  pub length-list : (f : ℕ → A) (n : ℕ) → length (list f n) ≡ n
  unfolding list
  length-list f zero = refl
  length-list f (suc n) = length-append (list f n) (f n ∷ []) ∙ ap (λ (k : ℕ). k + 1) (length-list f n) ∙ add-one n

  pub list_at : (f : ℕ → A) (other : A) (n i : ℕ) → i < n → get_or (list f n) i other ≡ f i
  unfolding list
  list_at f other zero i h = absurd (omega arith)
  list_at f other (suc n) i h = go (dec_lt i n) (list_at f other n i)
    where
      last : ¬ (i < n) → i ≡ n
      last g = omega arith

      go : Dec (i < n) → (i < n → get_or (list f n) i other ≡ f i) → get_or (list f n ++ (f n ∷ [])) i other ≡ f i
      go (yes g) earlier = get_or-append (list f n) (f n ∷ []) other i (rw length-list g) ∙ earlier g
      go (no g) earlier = get_or_at (list f n) (f n) [] other i (length-list f n ∙ sym (last g)) ∙ ap f (sym (last g))

  pub length-rows : (f : ℕ → ℕ → A) (n m : ℕ) → length (rows f n m) ≡ m * n
  unfolding rows
  length-rows f n zero = rw zero-mul
  length-rows f n (suc m) =
      let e : length (rows f n m) + length (list (f m) n) ≡ suc m * n = rw (length-rows f n m, length-list (f m) n, suc-mul) refl in
      length-append (rows f n m) (list (f m) n) ∙ e

  rows_more :
      (f : ℕ → ℕ → A) (other : A) (n m i j : ℕ) → i < suc m → j < n → (i < m → get_or (rows f n m) (i * n + j) other ≡ f i j) → Dec (i < m)
      → get_or (rows f n (suc m)) (i * n + j) other ≡ f i j
  unfolding rows
  rows_more f other n m i j h k before (yes l) =
      let inside : i * n + j < length (rows f n m) = omega (arith, length-rows f n m, suc-mul i n, mul-le-mul_right n l) in
      get_or-append (rows f n m) (list (f m) n) other (i * n + j) inside ∙ before l
  rows_more f other n m i j h k before (no l) =
      let last : i ≡ m = omega arith in
      rw (last, ← length-rows f n m) (get_or-append-add (rows f n m) (list (f m) n) j other ∙ list_at (f m) other n j k)

  pub rows_at : (f : ℕ → ℕ → A) (other : A) (n m i j : ℕ) → i < m → j < n → get_or (rows f n m) (i * n + j) other ≡ f i j
  rows_at f other n zero i j h k = absurd (omega arith)
  rows_at f other n (suc m) i j h k = rows_more f other n m i j h k (λ l. rows_at f other n m i j l k) (dec_lt i m)

  -- Equal entries make equal rows.
  pub list_same : (f g : ℕ → A) (n : ℕ) → ((j : ℕ) → j < n → f j ≡ g j) → list f n ≡ list g n
  unfolding list
  list_same f g zero e = refl
  list_same f g (suc n) e = ap₂ (λ xs x. xs ++ (x ∷ [])) (list_same f g n (λ j l. e j (omega arith))) (e n (omega arith))

  pub rows_same : (f g : ℕ → ℕ → A) (n m : ℕ) → ((i j : ℕ) → i < m → j < n → f i j ≡ g i j) → rows f n m ≡ rows g n m
  unfolding rows
  rows_same f g n zero e = refl
  rows_same f g n (suc m) e =
      ap₂ (λ xs ys. xs ++ ys) (rows_same f g n m (λ i j l k. e i j (omega arith) k)) (list_same (f m) (g m) n (λ j l. e m j (omega arith) l))

  -- A function at each number.
  pub list-map : (change : A → A) (f : ℕ → A) (n : ℕ) → map change (list f n) ≡ list (λ j. change (f j)) n
  unfolding list
  list-map change f zero = refl
  list-map change f (suc n) = map-append change (list f n) (f n ∷ []) ∙ ap (λ xs. xs ++ (change (f n) ∷ [])) (list-map change f n)

  pub rows-map : (change : A → A) (f : ℕ → ℕ → A) (n m : ℕ) → map change (rows f n m) ≡ rows (λ i j. change (f i j)) n m
  unfolding rows
  rows-map change f n zero = refl
  rows-map change f n (suc m) = map-append change (rows f n m) (list (f m) n) ∙ ap₂ (λ xs ys. xs ++ ys) (rows-map change f n m) (list-map change (f m) n)

  pub stored_at : (other : A) (n : ℕ) (f : ℕ → A) (i : ℕ) → i < n → stored other n f i ≡ f i
  unfolding stored
  stored_at other n f i h = list_at f other n i h

pub stored_table-at : {A : Type 0} (other : A) (n : ℕ) (f : ℕ → ℕ → A) (i j : ℕ) → i < n → j < n → stored_table other n f i j ≡ f i j
unfolding stored_table
stored_table-at other n f i j hi hj =
    ap (λ g. g j) (stored_at (λ j. other) n (λ i. stored other n (f i)) i hi) ∙ stored_at other n (f i) j hj

-- An area that starts with a table has each entry at its place.
pub place_of-rows : (f : ℕ → ℕ → Float) (n : ℕ) (rest : List Float) (i j : ℕ) → i < n → j < n → place n (rows f n n ++ rest) i j ≡ f i j
place_of-rows f n rest i j hi hj =
    let inside : i * n + j < length (rows f n n) = omega (arith, length-rows f n n, suc-mul i n, mul-le-mul_right n hi) in
    get_or-append (rows f n n) rest nan (i * n + j) inside ∙ rows_at f nan n n i j hi hj

-- And one that starts with a column has each of its numbers.
pub place_of-list : (f : ℕ → Float) (n : ℕ) (rest : List Float) (i : ℕ) → i < n → get_or (list f n ++ rest) i nan ≡ f i
place_of-list f n rest i l = get_or-append (list f n) rest nan i (rw length-list l) ∙ list_at f nan n i l
