-- The places of a vector: one that is read, one that is written; vectors and tables of zeros.
use mathlib.Core.Path.{◌≡◌, sym, ap, ◌∙◌, fun_ext}
use Prim.Native.Nat.{ℕ, ◌+◌, ◌*◌, ◌≤◌, ◌<◌}
use native.Mathlib.Nat.{le_refl, le_antisymm}
use native.Mathlib.Omega.{arith}
use mathlib.Core.Bool.{◌&&◌}
use mathlib.Core.List.{List}
use lib.Dec.{ltb}
use lib.ListN.{length, get_or, set, replicate, length-set, length-replicate, get_or-replicate, get_or-eq_default}
use lib.Seq.{get_or-set_same, get_or-set_other}
use Rattle.std.proofs.lemmas.List.{get_or_default}
use lib.Ieee.{Float}
use Rattle.definitions.specs.Numbers.{0·0}
use Rattle.tables.specs.Operators.{replace, between}
use Rattle.exact.proofs.Cases.{by_equal, by_order, by_bool}
use Rattle.tables.proofs.Operators.{replace_same, replace_other, between_none, between_past, between_step}
use Rattle.tables.specs.RowMajor.{table_of, HoldsIn}
use Rattle.tables.specs.Vectors.{vector, VectorIn}

module _ {limit i : ℕ} (xs : List Float) (long : length xs ≡ limit) (hi : i < limit) where
  within : i < length xs
  within = omega arith

  pub read_vector : (d : Float) → get_or xs i d ≡ vector xs i
  unfolding vector
  read_vector d = get_or_default xs i d 0·0 within

  pub write_vector : (x : Float) → VectorIn limit (set xs i x) (replace i x (vector xs))
  unfolding vector
  write_vector x =
      record {
        long = length-set xs i x ∙ long;
        is =
            fun_ext (λ j. by_equal j i
            (λ e. rw e (get_or-set_same xs i x 0·0 within ∙ sym (replace_same i x (vector xs))))
            (λ n. get_or-set_other xs i j x 0·0 n ∙ sym (replace_other i x (vector xs) j n)));
      }

-- m zeros, whatever m is.
pub zero-vector : (m : ℕ) {x : Float} → x ≡ 0·0 → vector (replicate m x) ≡ (λ _. 0·0)
unfolding vector
zero-vector m {x} e =
    rw e (fun_ext (λ i. by_order m i
    (λ l. get_or-eq_default (replicate m 0·0) 0·0 (rw (length-replicate m 0·0) l))
    (λ h. get_or-replicate m i 0·0 0·0 h)))

pub new_vector : {limit : ℕ} {x : Float} → x ≡ 0·0 → VectorIn limit (replicate limit x) (λ _. 0·0)
new_vector {limit} {x} e = record { long = length-replicate limit x; is = zero-vector limit e }

pub zero-table : (limit width m : ℕ) {x : Float} → x ≡ 0·0 → table_of limit width (replicate m x) ≡ (λ _ _. 0·0)
unfolding table_of vector
zero-table limit width m {x} e =
    fun_ext (λ i. fun_ext (λ j. by_bool (ltb i limit && ltb j width)
    (λ t. rw t (ap (λ (v : ℕ → Float). v (i * width + j)) (zero-vector m e)))
    (λ t. rw t)))

-- A table of zeros.
pub new_table : {limit width : ℕ} {x : Float} → x ≡ 0·0 → HoldsIn limit width (replicate (limit * width) x) (λ _ _. 0·0)
new_table {limit} {width} {x} e = record { long = length-replicate (limit * width) x; is = zero-table limit width (limit * width) e }

-- Along a vector from lo: the places before i are done. They become g, and f was the vector at the start.
pub record AlongVectorIn (limit lo : ℕ) (g f : ℕ → Float) (xs : List Float) (i : ℕ) : Type 0 where
  pub from : lo ≤ i
  pub holds : VectorIn limit xs (between lo i g f)

pub vector_begins : {limit lo i : ℕ} {g : ℕ → Float} {xs : List Float} → i ≡ lo → length xs ≡ limit → AlongVectorIn limit lo g (vector xs) xs i
vector_begins {limit} {lo} {i} {g} {xs} q e =
    rw q (record { from = le_refl lo; holds = record { long = e; is = sym (between_none lo lo g (vector xs) (le_refl lo)) } })

module _ {limit lo : ℕ} {g f : ℕ → Float} {xs : List Float} {i : ℕ} (h : AlongVectorIn limit lo g f xs i) where
  -- The place that is due is as at the start.
  pub vector_due : vector xs i ≡ f i
  vector_due = ap (λ (v : ℕ → Float). v i) h.holds.is ∙ between_past lo i g f i (le_refl i)

  pub vector_turns : {x : Float} {ys : List Float} → VectorIn limit ys (replace i x (vector xs)) → x ≡ g i → AlongVectorIn limit lo g f ys (i + 1)
  vector_turns k e =
      record { from = omega (arith, h.from); holds = record { long = k.long; is = k.is ∙ rw (e, h.holds.is) (between_step lo i g f h.from) } }

  pub vector_ends : {n : ℕ} → i ≤ n → n ≤ i → VectorIn limit xs (between lo n g f)
  vector_ends l m = rw (le_antisymm l m) at h.holds

-- In the working vectors.
abbrev pub AlongVector : ℕ → (ℕ → Float) → (ℕ → Float) → List Float → ℕ → Type 0
AlongVector lo g f xs i = AlongVectorIn 32 lo g f xs i
