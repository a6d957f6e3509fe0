-- Numbers and their little-endian bytes, there and back.
use Prim.Native.Nat.{ℕ, zero, suc, ◌+◌, ◌*◌, ◌/◌, ◌%◌, ◌^◌, ◌≤◌, ◌<◌}
use mathlib.Core.List.{List, [], ◌∷◌, ◌++◌}
use mathlib.Core.Path.{◌≡◌, refl, ap, ap₂, ◌∙◌}
use native.Mathlib.Nat.{pow-suc, div-lt_iff_lt-mul, le_of_suc-le-suc, not-suc-le-zero}
use native.Mathlib.Omega.{arith}
use lib.Dec.{lit<}
use lib.ListN.{length, take, drop, get_or, length-take}
use lib.Seq.{get_or-take}
use Rattle.definitions.specs.File.{little}
use Rattle.definitions.specs.Saving.{little_bytes}
use Rattle.round_trip.specs.RoundTrip.{Below}

-- A list below a limit: its first number, the rest of it, and what is left of it further on.
module _ {limit : ℕ} where
  pub below_first : (x : ℕ) (list : List ℕ) → Below limit (x ∷ list) → x < limit
  below_first x list b = b.at 0 (omega arith)

  pub below_rest : (x : ℕ) (list : List ℕ) → Below limit (x ∷ list) → Below limit list
  below_rest x list b = record { at = λ i h. b.at (suc i) (omega arith) }

  pub below-drop : (k : ℕ) (list : List ℕ) → Below limit list → Below limit (drop k list)
  below-drop zero list b = b
  below-drop (suc k) [] b = b
  below-drop (suc k) (x ∷ list) b = below-drop k list (below_rest x list b)

  pub below-take : (k : ℕ) (list : List ℕ) → Below limit list → Below limit (take k list)
  below-take k list b =
      let shorter = length-take k list in
      record { at = λ i h. rw (get_or-take k list i 0 (omega arith)) (b.at i (omega arith)) }

  pub below_nothing : Below limit []
  below_nothing = record { at = λ i h. absurd (omega arith) }

  more_at : (x : ℕ) (list : List ℕ) → x < limit → Below limit list → (i : ℕ) → i < suc (length list) → get_or (x ∷ list) i 0 < limit
  more_at x list h b zero l = h
  more_at x list h b (suc i) l = b.at i (le_of_suc-le-suc l)

  pub below_more : (x : ℕ) (list : List ℕ) → x < limit → Below limit list → Below limit (x ∷ list)
  below_more x list h b = record { at = more_at x list h b }

  pub below_append : (list more : List ℕ) → Below limit list → Below limit more → Below limit (list ++ more)
  below_append [] more b c = c
  below_append (x ∷ list) more b c = below_more x (list ++ more) (below_first x list b) (below_append list more (below_rest x list b) c)

  -- Past the end a list is read as 0.
  pub below_all : 0 < limit → (list : List ℕ) → Below limit list → (i : ℕ) → get_or list i 0 < limit
  below_all p [] b i = p
  below_all p (x ∷ list) b zero = below_first x list b
  below_all p (x ∷ list) b (suc i) = below_all p list (below_rest x list b) i

-- A number below 256^w is read back from its w bytes.
pub number_back : (w a : ℕ) (later : List ℕ) → a < 256 ^ w → little w (little_bytes w a ++ later) ≡ a
unfolding little little_bytes
number_back zero a later h = omega arith
number_back (suc w) a later h =
    let smaller : a / 256 < 256 ^ w = (div-lt_iff_lt-mul (lit< tt)).1 (rw (pow-suc 256 w) at h) in
    ap (λ n. a % 256 + 256 * n) (number_back w (a / 256) later smaller) ∙ omega arith

-- And the bytes of the number that is read are the bytes that were there.
low : (x more : ℕ) → x < 256 → (x + 256 * more) % 256 ≡ x
low x more h = omega arith

high : (x more : ℕ) → x < 256 → (x + 256 * more) / 256 ≡ more
high x more h = omega arith

pub bytes_back : (w : ℕ) (bytes : List ℕ) → Below 256 bytes → w ≤ length bytes → little_bytes w (little w bytes) ≡ take w bytes
unfolding little little_bytes
bytes_back zero bytes b h = refl
bytes_back (suc w) [] b h = absurd (not-suc-le-zero h)
bytes_back (suc w) (x ∷ bytes) b h =
    let small = below_first x bytes b in
    ap₂ (λ byte more. byte ∷ more) (low x (little w bytes) small)
    (ap (little_bytes w) (high x (little w bytes) small) ∙ bytes_back w bytes (below_rest x bytes b) (le_of_suc-le-suc h))
