-- Comparisons turned round: a number that is at most another is not above it, for every float.
use Prim.Native.Nat.{ℕ, ◌+◌, ◌*◌, ◌<◌, ◌≤◌}
use native.Mathlib.Omega.{arith}
use mathlib.Core.Bool.{Bool, true, false, not, ◌&&◌, ◌||◌}
use mathlib.Core.Path.{◌≡◌}
use lib.Dec.{T, ltb, eqb, ltb→lt, eqb→eq}
use lib.Arith.{le→nltb}
use lib.Ieee.{Float, nan, inf, fin, up, down, lt, le, eq, below, level}

at_most : (a b : ℕ) (c d more : Bool) → (T c → a < b) → (T d → a ≡ b) → T (c || d && more) → a ≤ b
at_most a b true d more f g t = let h = f tt in omega arith
at_most a b false true more f g t = let h = g tt in omega arith
at_most a b false false more f g t = absurd t

both_zero : (a b : ℕ) (d c : Bool) → (T d → a ≡ b) → (T c → a ≡ 0) → T (d && c) → b + a ≤ 0
both_zero a b true true f g t = let p = f tt in let q = g tt in omega arith
both_zero a b true false f g t = absurd t
both_zero a b false c f g t = absurd t

turned : (s : Bool) (a : ℕ) (t : Bool) (b : ℕ) → T (below s a t b || level s a t b) → T (not (below t b s a))
turned false a false b h = le→nltb b a (at_most a b (ltb a b) (eqb a b) true (ltb→lt a b) (eqb→eq a b) h)
turned false a true b h = le→nltb 0 (b + a) (both_zero a b (eqb a b) (eqb a 0) (eqb→eq a b) (eqb→eq a 0) h)
turned true a false b h = tt
turned true a true b h = le→nltb a b (at_most b a (ltb b a) (eqb a b) true (ltb→lt b a) (λ u. let e = eqb→eq a b u in omega arith) h)

pub le-not_above : (x y : Float) → T (le x y) → T (not (lt y x))
unfolding le lt eq
le-not_above nan y h = absurd h
le-not_above (inf s) nan h = tt
le-not_above (inf true) (inf true) h = tt
le-not_above (inf true) (inf false) h = tt
le-not_above (inf false) (inf true) h = absurd h
le-not_above (inf false) (inf false) h = tt
le-not_above (inf true) (fin t n d) h = tt
le-not_above (inf false) (fin t n d) h = absurd h
le-not_above (fin s m e) nan h = tt
le-not_above (fin s m e) (inf true) h = absurd h
le-not_above (fin s m e) (inf false) h = tt
le-not_above (fin s m e) (fin t n d) h = turned s (m * up e * down d) t (n * up d * down e) h
