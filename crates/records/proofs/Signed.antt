-- Signed numbers of two bytes, in two's complement.
use Prim.Native.Nat.{ℕ, suc, ◌-◌, ◌<◌}
use mathlib.Core.Path.{◌≡◌, ap}
use native.Mathlib.Omega.{arith}
use borrow.Author.Tests.{lt-ltb, le-ltb, ltb-false}
use lib.Dec.{ltb}
use lib.IntN.{ℤ, pos, negsuc}
use lib.Signed.{mag}
use mir.Syntax.{w16}
use mir.Val.{to_z}
use Rattle.exact.proofs.Cases.{by_bool}
use Rattle.definitions.specs.File.{signed}
use Rattle.definitions.specs.Saving.{complement}

-- A word of sixteen bits, as the library reads its sign.
pub two_complement : (word : ℕ) → to_z w16 word ≡ signed word
unfolding signed
two_complement word = let same : 65536 - suc word ≡ 65535 - word = omega arith in rw same

pub complement_small : (number : ℤ) → mag number < 32768 → complement number < 65536
unfolding complement
complement_small (pos m) h = omega arith
complement_small (negsuc m) h = omega arith

-- There and back.
pub signed-complement : (number : ℤ) → mag number < 32768 → signed (complement number) ≡ number
unfolding signed complement
signed-complement (pos m) h = rw (lt-ltb m 32768 h)
signed-complement (negsuc m) h =
    let same : 65535 - (65535 - m) ≡ m = omega arith in
    rw (le-ltb (65535 - m) 32768 (omega arith)) (ap negsuc same)

pub complement-signed : (word : ℕ) → word < 65536 → complement (signed word) ≡ word
unfolding signed complement
complement-signed word h =
    by_bool (ltb word 32768)
    (λ t. rw t)
    (λ f. rw f (omega (arith, ltb-false word 32768 f)))
