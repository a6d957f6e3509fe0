-- A list that is filled from its start, place by place and row by row: the invariants of the two loops, and what a turn does to each.
use mathlib.Core.Path.{◌≡◌, refl, sym, ap, ◌∙◌}
use Prim.Native.Nat.{ℕ, suc, ◌+◌, ◌*◌, ◌-◌, ◌≤◌, ◌<◌}
use native.Mathlib.Nat.{zero-mul, suc-mul, mul-le-mul_right}
use native.Mathlib.Numerals.{add-one}
use native.Mathlib.Omega.{arith}
use mathlib.Core.List.{List, [], ◌∷◌, ◌++◌, append_assoc}
use lib.ListN.{length, get_or, drop, set, length-set}
use lib.Seq.{drop-cons, set_at, take_at, drop_at}
use borrow.Rule.Slice.PartMut.{put_mid, Post-is, mid_len, same_len_mid, mid_of}
use Rattle.definitions.specs.Tables.{list, rows}
use Rattle.steps.proofs.TableLaws.{length-list, length-rows}

-- The places of xs before j have become f.
pub record Filled {A : Type 0} (f : ℕ → A) (xs ys : List A) (j : ℕ) : Type 0 where
  pub inside : j ≤ length xs
  pub long : length ys ≡ length xs
  pub is : ys ≡ list f j ++ drop j xs

-- The rows of n places before i have become those of f.
pub record FilledRows {A : Type 0} (f : ℕ → ℕ → A) (n : ℕ) (xs ys : List A) (i : ℕ) : Type 0 where
  pub inside : i ≤ n
  pub long : length ys ≡ length xs
  pub is : ys ≡ rows f n i ++ drop (i * n) xs

-- Row i lies inside a list with room for n rows.
pub row_fits : {i n room : ℕ} → i < n → n * n ≤ room → i * n + n ≤ room
row_fits {i} {n} {room} l m = let k = mul-le-mul_right n l in omega (arith, suc-mul i n)

module _ {A : Type 0} where
  pub filled_begins : {f : ℕ → A} {xs : List A} → Filled f xs xs 0
  unfolding list
  filled_begins = record { inside = omega arith; long = refl; is = refl }

  next_place : (f : ℕ → A) (xs : List A) (j : ℕ) → j < length xs → set (list f j ++ drop j xs) j (f j) ≡ list f (suc j) ++ drop (suc j) xs
  unfolding list
  next_place f xs j h =
      rw (drop-cons xs j (f j) h, set_at (list f j) (get_or xs j (f j)) (drop (suc j) xs) (f j) j (length-list f j))
      (sym (append_assoc (list f j) (f j ∷ []) (drop (suc j) xs)))

  module _ {f : ℕ → A} {xs ys : List A} {j : ℕ} (h : Filled f xs ys j) where
    pub filled_turns : {x : A} → j < length ys → x ≡ f j → Filled f xs (set ys j x) (j + 1)
    filled_turns {x} l e =
        let m : j < length xs = omega (arith, h.long) in
        record {
          inside = omega arith;
          long = length-set ys j x ∙ h.long;
          is = rw (add-one, e, h.is) (next_place f xs j m);
        }

  pub rows_begin : {f : ℕ → ℕ → A} {n : ℕ} {xs : List A} → FilledRows f n xs xs 0
  unfolding rows
  rows_begin {f} {n} {xs} = record { inside = omega arith; long = refl; is = rw zero-mul }

  -- Row i is written to its own part, and the part put back.
  next_row : (f : ℕ → ℕ → A) (n i : ℕ) (xs : List A)
      → put_mid (i * n) (i * n + n - i * n) (rows f n i ++ drop (i * n) xs) (list (f i) n) ≡ rows f n (suc i) ++ drop (suc i * n) xs
  unfolding rows
  next_row f n i xs =
      rw (take_at (rows f n i) (drop (i * n) xs) (i * n) (length-rows f n i), drop_at (rows f n i) (drop (i * n) xs) (i * n) (length-rows f n i), Post-is (i * n) (i * n + n) xs (omega arith), suc-mul i n)
      (sym (append_assoc (rows f n i) (list (f i) n) (drop (i * n + n) xs)))

  module _ {f : ℕ → ℕ → A} {n : ℕ} {xs ys : List A} {i : ℕ} (h : FilledRows f n xs ys i) where
    pub rows-turn : {part : List A} → i < n → n * n ≤ length xs → part ≡ list (f i) (length (mid_of (i * n) (i * n + n - i * n) ys))
        → FilledRows f n xs (put_mid (i * n) (i * n + n - i * n) ys part) (i + 1)
    rows-turn {part} l room e =
        let fits : i * n + n ≤ length ys = rw h.long (row_fits l room) in
        let count : length (mid_of (i * n) (i * n + n - i * n) ys) ≡ i * n + n - i * n = mid_len (i * n) (i * n + n) ys fits in
        let row : part ≡ list (f i) n = e ∙ ap (list (f i)) (count ∙ omega arith) in
        record {
          inside = omega arith;
          long = same_len_mid (i * n) (i * n + n - i * n) ys part (ap length e ∙ length-list (f i) (length (mid_of (i * n) (i * n + n - i * n) ys))) ∙ h.long;
          is = rw (add-one, row, h.is) (next_row f n i xs);
        }
