-- The shares and the rows of the kept system, as they are filled.
use mathlib.Core.Path.{◌≡◌, sym, ◌∙◌}
use Prim.Native.Nat.{ℕ, ◌+◌, ◌-◌}
use native.Mathlib.Numerals.{add-one}
use mathlib.Core.List.{List}
use lib.Ieee.{Float}
use mathlib.Core.Bool.{Bool, ◌&&◌}
use Rattle.exact.proofs.Bools.{and_assoc}
use Rattle.definitions.specs.Numbers.{finite}
use Rattle.tables.specs.RowMajor.{table, Holds}
use Rattle.tables.specs.Operators.{between, put, span}
use Rattle.tables.specs.Rows.{Dot}
use Rattle.tables.proofs.Operators.{put_replaced}
use Rattle.compact.specs.Listing.{stage_at}
use Rattle.kept.specs.Scaled.{in_order, times, SizesScaled, rate, rate_in_range, scaled_row, scaled_row_in_range, RowScaled}

-- ---- row p: its sizes, then its leaving rate
pub row_scaled : (n r : ℕ) (stages : List ℕ) (t : ℕ → ℕ → Float) (k w : ℕ → Float) (f : ℕ → ℕ → Float) (p i : ℕ) {x : Float} {sizes products ends : Bool} {xs ys : List Float}
    → i ≡ stage_at stages p
    → SizesScaled r (in_order stages k) p sizes f xs
    → Dot (t i) w (i + 1) (n - (i + 1)) x products
    → Holds ys (put p p x (table xs))
    → ends ≡ finite x
    → RowScaled n r stages t k w p (sizes && products && ends) f ys
unfolding span scaled_row rate scaled_row_in_range rate_in_range
row_scaled n r stages t k w f p i {x} {sizes} {products} {ends} e g dot v z =
    let own = between 0 r (times (in_order stages k) (f p)) (f p) in
    let step = rw (add-one i, e) at dot in
    record {
      range = sym (and_assoc sizes products ends) ∙ rw (g.range, z, step.tests, step.sums);
      holds = record { long = v.long; is = v.is ∙ rw (g.holds.is, put_replaced p p x own f, step.sums) };
    }
