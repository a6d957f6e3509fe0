-- Numbers and their 64-bit words, there and back.
use Prim.Native.Nat.{ℕ, suc, ◌^◌, ◌<◌}
use mathlib.Core.Bool.{Bool, true, false}
use mathlib.Core.List.{List, [], ◌∷◌, map}
use mathlib.Core.Path.{◌≡◌, refl, sym, ap, ap₂, ◌∙◌}
use native.Mathlib.Omega.{arith}
use lib.Dec.{T}
use lib.Ieee.{Float, binary64, of_bits, to_bits, fits, nan, nan_bits}
use lib.Ieee.Bits.{of_bits-to_bits, to_bits-lt, to_bits-of_bits, nan_bits_is}
use Rattle.definitions.specs.Accuracy.{Binary64}
use Rattle.definitions.specs.Saving.{sheet_words}
use Rattle.exact.proofs.Bools.{holds}
use Rattle.rounding.proofs.Words.{nan-value}
use Rattle.round_trip.specs.RoundTrip.{Below, OneNan}
use Rattle.round_trip.proofs.Bytes.{below_nothing, below_more, below_first, below_rest}

-- A number's word is a word, and gives the number again, a NaN too.
sheet_first : (x : Float) (sheet : List Float) → Binary64 (x ∷ sheet) → T (fits binary64 x)
unfolding Binary64
sheet_first x sheet b = b 0

sheet_rest : (x : Float) (sheet : List Float) → Binary64 (x ∷ sheet) → Binary64 sheet
unfolding Binary64
sheet_rest x sheet b i = b (suc i)

pub words-below : (sheet : List Float) → Binary64 sheet → Below (2 ^ 64) (sheet_words sheet)
unfolding sheet_words
words-below [] b = below_nothing
words-below (x ∷ sheet) b = below_more (to_bits binary64 x) (sheet_words sheet) (to_bits-lt binary64 x (sheet_first x sheet b)) (words-below sheet (sheet_rest x sheet b))

pub numbers_back : (sheet : List Float) → Binary64 sheet → map (λ word. of_bits binary64 word) (sheet_words sheet) ≡ sheet
unfolding sheet_words
numbers_back [] b = refl
numbers_back (x ∷ sheet) b = ap₂ (λ first more. first ∷ more) (of_bits-to_bits binary64 x (sheet_first x sheet b)) (numbers_back sheet (sheet_rest x sheet b))

-- A word gives itself again unless it is a NaN pattern other than the one that is written.
word_back : (word : ℕ) → word < 2 ^ 64 → (nan_bits binary64 word ≡ true → word ≡ to_bits binary64 nan) → (t : Bool) → nan_bits binary64 word ≡ t → to_bits binary64 (of_bits binary64 word) ≡ word
word_back word h one true e = ap (to_bits binary64) (nan-value (of_bits binary64 word) (rw (nan_bits_is binary64 word) at (holds e))) ∙ sym (one e)
word_back word h one false e = to_bits-of_bits binary64 word h (rw (← nan_bits_is binary64 word, e) tt)

pub words-kept : (list : List ℕ) → Below (2 ^ 64) list → OneNan list → sheet_words (map (λ word. of_bits binary64 word) list) ≡ list
unfolding sheet_words
words-kept [] b one = refl
words-kept (word ∷ list) b one =
    let first = word_back word (below_first word list b) (one.at 0 (omega arith)) (nan_bits binary64 word) refl in
    ap₂ (λ first more. first ∷ more) first (words-kept list (below_rest word list b) (record { at = λ i h. one.at (suc i) (omega arith) }))
