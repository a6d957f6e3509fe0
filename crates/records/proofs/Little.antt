-- Laws of `little`, the little-endian number in the first bytes of a list: reading it from the last byte to the first, and inside a part of a file.
use Prim.Native.Nat.{ℕ, zero, suc, ◌+◌, ◌*◌, ◌^◌, ◌≤◌, ◌<◌}
use mathlib.Core.List.{List, [], ◌∷◌, ◌++◌}
use mathlib.Core.Path.{◌≡◌, refl, ap}
use native.Mathlib.Nat.{pow-succ', one-le-pow, le_of_suc-le-suc, not-suc-le-zero}
use native.Mathlib.Numerals.{add-one}
use native.Mathlib.Omega.{arith}
use lib.Dec.{lit<}
use lib.ListN.{replicate, take, drop, get_or}
use Rattle.std.specs.Int.{from_le_bytes, w64}
use Rattle.definitions.specs.File.{little}

zeros : (w n : ℕ) → little w (replicate n 0) ≡ 0
unfolding little
zeros zero n = refl
zeros (suc w) zero = refl
zeros (suc w) (suc n) = rw (zeros w n)

-- The byte at `at`, and 256 times the number that starts behind it.
one_more : (w at : ℕ) (bytes : List ℕ) → little (suc w) (drop at bytes) ≡ get_or bytes at 0 + 256 * little w (drop (suc at) bytes)
unfolding little
one_more w zero [] = rw (zeros w 0)
one_more w zero (x ∷ xs) = refl
one_more w (suc at) [] = rw (zeros w 0)
one_more w (suc at) (x ∷ xs) = one_more w at xs

pub below : (w : ℕ) (bytes : List ℕ) → ((i : ℕ) → get_or bytes i 0 < 256) → little w bytes < 256 ^ w
unfolding little
below zero bytes b = lit< tt
below (suc w) [] b = one-le-pow (suc w) 256 (lit< tt)
below (suc w) (x ∷ xs) b =
    let first : x < 256 = b 0 in
    let later = below w xs (λ i. b (suc i)) in
    rw pow-succ' (omega arith)

-- The number in eight bytes, as the library reads it; and in fewer, with zeros above them.
pub eight_bytes : (bytes : List ℕ) → from_le_bytes w64 bytes ≡ little 8 bytes
unfolding little
eight_bytes bytes = omega (arith, one_more 7 0 bytes, one_more 6 1 bytes, one_more 5 2 bytes, one_more 4 3 bytes, one_more 3 4 bytes, one_more 2 5 bytes, one_more 1 6 bytes, one_more 0 7 bytes)

pub two_bytes : (at : ℕ) (bytes : List ℕ) → little 2 (drop at bytes) ≡ get_or bytes at 0 + get_or bytes (at + 1) 0 * 256
unfolding little
two_bytes at bytes = rw add-one (omega (arith, one_more 1 at bytes, one_more 0 (suc at) bytes))

pub zeros_above : (w m n : ℕ) (bytes : List ℕ) → w ≤ m → little m (take w bytes ++ replicate n 0) ≡ little w bytes
unfolding little
zeros_above zero m n bytes h = zeros m n
zeros_above (suc w) zero n bytes h = absurd (not-suc-le-zero h)
zeros_above (suc w) (suc m) n [] h = zeros (suc m) n
zeros_above (suc w) (suc m) n (x ∷ xs) h = ap (λ r. x + 256 * r) (zeros_above w m n xs (le_of_suc-le-suc h))

front : (w m : ℕ) (bytes : List ℕ) → w ≤ m → little w (take m bytes) ≡ little w bytes
unfolding little
front zero m bytes h = refl
front (suc w) zero bytes h = absurd (not-suc-le-zero h)
front (suc w) (suc m) [] h = refl
front (suc w) (suc m) (x ∷ xs) h = ap (λ r. x + 256 * r) (front w m xs (le_of_suc-le-suc h))

-- A number that lies within the first m bytes is the same in these bytes alone.
pub within : (k w m : ℕ) (bytes : List ℕ) → k + w ≤ m → little w (drop k (take m bytes)) ≡ little w (drop k bytes)
within zero w m bytes h = front w m bytes (omega arith)
within (suc k) w zero bytes h = absurd (omega arith)
within (suc k) w (suc m) [] h = refl
within (suc k) w (suc m) (x ∷ xs) h = within k w m xs (omega arith)
