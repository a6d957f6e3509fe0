-- The places of a table: one that is read, and one that is written.
use mathlib.Core.Path.{◌≡◌, sym, ◌∙◌, fun_ext}
use Prim.Native.Nat.{ℕ, suc, ◌+◌, ◌*◌, ◌≤◌, ◌<◌}
use native.Mathlib.Nat.{mul-le-mul_right}
use native.Mathlib.Omega.{arith}
use mathlib.Core.List.{List}
use lib.ListN.{length, get_or, set, length-set}
use lib.Seq.{get_or-set_same, get_or-set_other}
use Rattle.std.proofs.lemmas.List.{get_or_default}
use lib.Ieee.{Float}
use borrow.Author.Tests.{lt-ltb, le-ltb}
use Rattle.exact.proofs.Cases.{by_equal, by_order}
use mathlib.Core.Bool.{and-false}
use Rattle.definitions.specs.Numbers.{0·0}
use Rattle.tables.specs.RowMajor.{table_of, HoldsIn}
use Rattle.tables.specs.Operators.{replace, put}
use Rattle.tables.proofs.Operators.{replace_same, replace_other}

-- Two places of one index are one place.
same_row : (w i a j b : ℕ) → i < a → j < w → a * w + b ≡ i * w + j → ⊥
same_row w i a j b h l e = let m : suc i * w ≤ a * w = mul-le-mul_right w h in omega arith

module _ (limit width i j : ℕ) (xs : List Float) where
  table_at : i < limit → j < width → table_of limit width xs i j ≡ get_or xs (i * width + j) 0·0
  unfolding table_of
  table_at hi hj = rw (lt-ltb i limit hi, lt-ltb j width hj)

  table_below : limit ≤ i → table_of limit width xs i j ≡ 0·0
  unfolding table_of
  table_below h = rw (le-ltb i limit h)

  table_right : width ≤ j → table_of limit width xs i j ≡ 0·0
  unfolding table_of
  table_right h = rw (le-ltb j width h, and-false)

module _ {limit width i j : ℕ} (xs : List Float) (long : length xs ≡ limit * width) (hi : i < limit) (hj : j < width) where
  index_fits : i * width + j < length xs
  index_fits = let m : suc i * width ≤ limit * width = mul-le-mul_right width hi in omega arith

  pub read_holds : (d : Float) → get_or xs (i * width + j) d ≡ table_of limit width xs i j
  read_holds d = get_or_default xs (i * width + j) d 0·0 index_fits ∙ sym (table_at limit width i j xs hi hj)

  module _ (x : Float) where
    after : List Float
    after = set xs (i * width + j) x

    written : get_or after (i * width + j) 0·0 ≡ x
    unfolding after
    written = get_or-set_same xs (i * width + j) x 0·0 index_fits

    kept_index : (a b : ℕ) → (a * width + b ≡ i * width + j → ⊥) → get_or after (a * width + b) 0·0 ≡ get_or xs (a * width + b) 0·0
    unfolding after
    kept_index a b n = get_or-set_other xs (i * width + j) (a * width + b) x 0·0 n

    -- at place (a, b) inside
    kept_row : (a b : ℕ) → b < width → (a ≡ i → ⊥) → get_or after (a * width + b) 0·0 ≡ get_or xs (a * width + b) 0·0
    kept_row a b hb n =
        by_order a i
        (λ l. kept_index a b (λ e. same_row width a i b j (omega arith) hb (sym e)))
        (λ l. kept_index a b (λ e. same_row width i a j b l hj e))

    kept-column : (b : ℕ) → (b ≡ j → ⊥) → get_or after (i * width + b) 0·0 ≡ get_or xs (i * width + b) 0·0
    kept-column b n = kept_index i b (λ e. n (omega arith))

    outside_row : (a b : ℕ) → limit ≤ a → table_of limit width after a b ≡ put i j x (table_of limit width xs) a b
    unfolding put
    outside_row a b h = table_below limit width a b after h ∙ sym (table_below limit width a b xs h) ∙ rw (replace_other i (replace j x (table_of limit width xs i)) (table_of limit width xs) a (omega arith))

    outside_column : (a b : ℕ) → width ≤ b → table_of limit width after a b ≡ put i j x (table_of limit width xs) a b
    unfolding put
    outside_column a b h =
        table_right limit width a b after h
        ∙ by_equal a i
        (λ e. rw e (rw (replace_same i (replace j x (table_of limit width xs i)) (table_of limit width xs), replace_other j x (table_of limit width xs i) b (omega arith), table_right limit width i b xs h)))
        (λ n. rw (replace_other i (replace j x (table_of limit width xs i)) (table_of limit width xs) a n, table_right limit width a b xs h))

    inside : (a b : ℕ) → a < limit → b < width → table_of limit width after a b ≡ put i j x (table_of limit width xs) a b
    unfolding put
    inside a b ha hb =
        table_at limit width a b after ha hb
        ∙ by_equal a i
        (λ e. rw e (rw (replace_same i (replace j x (table_of limit width xs i)) (table_of limit width xs)) (by_equal b j
        (λ q. rw q (written ∙ sym (replace_same j x (table_of limit width xs i))))
        (λ n. kept-column b n ∙ sym (table_at limit width i b xs hi hb) ∙ sym (replace_other j x (table_of limit width xs i) b n)))))
        (λ n. kept_row a b hb n ∙ sym (table_at limit width a b xs ha hb) ∙ rw (replace_other i (replace j x (table_of limit width xs i)) (table_of limit width xs) a n))

    pub write_holds : HoldsIn limit width (set xs (i * width + j) x) (put i j x (table_of limit width xs))
    unfolding after
    write_holds =
        record {
          long = length-set xs (i * width + j) x ∙ long;
          is = fun_ext (λ a. fun_ext (λ b. by_order limit a (outside_row a b) (λ ha. by_order width b (outside_column a b) (λ hb. inside a b ha hb))));
        }
