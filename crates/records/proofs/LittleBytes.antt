-- Laws of `little_bytes`, a number in little-endian bytes: how many there are, and one byte more at the end.
use Prim.Native.Nat.{ℕ, zero, suc, ◌+◌, ◌/◌, ◌%◌, ◌^◌}
use mathlib.Core.List.{[], ◌∷◌, ◌++◌}
use mathlib.Core.Path.{◌≡◌, refl, sym, ap, ◌∙◌}
use native.Mathlib.Nat.{pow-suc, pow-succ', div-one, div-div-eq-div-mul}
use native.Mathlib.Numerals.{add-one}
use lib.ListN.{length}
use Rattle.definitions.specs.Saving.{little_bytes}
use Rattle.buffer.specs.declared.Writer.{Writer}
use Rattle.buffer.specs.Pasted.{Written}
use Rattle.buffer.proofs.Pasting.{written_nothing}

pub length-little : (w number : ℕ) → length (little_bytes w number) ≡ w
unfolding little_bytes
length-little zero number = refl
length-little (suc w) number = ap suc (length-little w (number / 256))

-- What is left of a number once k bytes are taken off, and the next byte.
abbrev pub after : ℕ → ℕ → ℕ
after k number = number / 256 ^ k

pub after_none : (number : ℕ) → number ≡ after 0 number
after_none number = sym (div-one number)

pub after-one_more : (k number : ℕ) → after k number / 256 ≡ after (k + 1) number
after-one_more k number = div-div-eq-div-mul number (256 ^ k) 256 ∙ rw (add-one, pow-suc)

pub little_grows : (number k : ℕ) → little_bytes (suc k) number ≡ little_bytes k number ++ (after k number % 256 ∷ [])
unfolding little_bytes
little_grows number zero = ap (λ m. m % 256 ∷ []) (after_none number)
little_grows number (suc k) =
    let same : after k (number / 256) ≡ after (suc k) number = div-div-eq-div-mul number 256 (256 ^ k) ∙ ap (λ m. number / m) (sym (pow-succ' 256 k)) in
    ap (λ l. number % 256 ∷ l) (little_grows (number / 256) k ∙ ap (λ m. little_bytes k (number / 256) ++ (m % 256 ∷ [])) same)

-- No byte is written before the first.
pub little-begun : (number : ℕ) (out : Writer) → Written (little_bytes 0 number) out out
unfolding little_bytes
little-begun number out = written_nothing out
