-- Laws of Near. Only the order of the two bases is used, never their size.
use mathlib.Core.Path.{◌≡◌, refl, ap, subst}
use Prim.Native.Nat.{ℕ, zero, suc, ◌+◌, ◌*◌, ◌^◌, ◌≤◌, ◌<◌}
use native.Mathlib.Nat.{add-zero, add-mul, mul_comm, mul_right_comm, le_dest, mul-le-mul, mul-le-mul_left, mul-le-mul_right, mul-pos, one-le-pow, pow-le-pow_left, le_of_mul-le-mul_right}
use native.Mathlib.Omega.{arith}
use lib.Dec.{lit<}
use lib.Pow.{pow-add}
use Rattle.exact.specs.Chains.{In}
use Rattle.exact.specs.Near.{base, next, Near}
use Rattle.exact.specs.Sums.{sum}
use Rattle.exact.proofs.Sums.{first, later}

pub base≤next : (e : ℕ) → base ^ e ≤ next ^ e
unfolding next
base≤next e = pow-le-pow_left (omega arith) e

pub base-pos : (e : ℕ) → 0 < base ^ e
unfolding base
base-pos e = one-le-pow e (2 ^ 53) (lit< tt)

-- One direction of each law, over plain numbers: a and c are powers of one base, b and d of the other.
chain : (x y z a b c d : ℕ) → x * a ≤ y * b → y * c ≤ z * d → x * (a * c) ≤ z * (b * d)
chain x y z a b c d h g = omega (arith, mul-le-mul_right c h, mul-le-mul_right b g)

product : (x y u v a b c d : ℕ) → x * a ≤ y * b → u * c ≤ v * d → x * u * (a * c) ≤ y * v * (b * d)
product x y u v a b c d h g = omega (arith, mul-le-mul h g)

scaled : (x y a b c : ℕ) → x * a ≤ y * b → x * c * a ≤ y * c * b
scaled x y a b c h = omega (arith, mul-le-mul_right c h)

unscaled : (x y a b c : ℕ) → 0 < c → x * c * a ≤ y * c * b → x * a ≤ y * b
unscaled x y a b c p h = let g : x * a * c ≤ y * b * c = omega arith in le_of_mul-le-mul_right g p

powers : (e f x y : ℕ) → x * (base ^ e * base ^ f) ≤ y * (next ^ e * next ^ f) → x * base ^ (e + f) ≤ y * next ^ (e + f)
powers e f x y h = rw (pow-add base e f, pow-add next e f) h

pub near_refl : {e x : ℕ} → Near e x x
near_refl {e} {x} = let h = mul-le-mul_left x (base≤next e) in record { upper = h; lower = h }

pub near_eq : {e x y : ℕ} → x ≡ y → Near e x y
near_eq {e} {x} p = subst (λ y. Near e x y) p near_refl

pub near_sym : {e x y : ℕ} → Near e x y → Near e y x
near_sym h = record { upper = h.lower; lower = h.upper }

pub near_trans : {e f x y z : ℕ} → Near e x y → Near f y z → Near (e + f) x z
near_trans {e} {f} {x} {y} {z} h g =
    let up = chain x y z (base ^ e) (next ^ e) (base ^ f) (next ^ f) h.upper g.upper in
    let down = chain z y x (base ^ f) (next ^ f) (base ^ e) (next ^ e) g.lower h.lower in
    record { upper = powers e f x z up; lower = powers e f z x (omega (arith, down)) }

pub near_grow : {e f x y : ℕ} → e ≤ f → Near e x y → Near f x y
near_grow {x = x} {y = y} l h = let (d, p) = le_dest l in subst (λ t. Near t x y) p (near_trans h near_refl)

-- A product.
pub near_mul : {e f x y u v : ℕ} → Near e x y → Near f u v → Near (e + f) (x * u) (y * v)
near_mul {e} {f} {x} {y} {u} {v} h g =
    let up = product x y u v (base ^ e) (next ^ e) (base ^ f) (next ^ f) h.upper g.upper in
    let down = product y x v u (base ^ e) (next ^ e) (base ^ f) (next ^ f) h.lower g.lower in
    record { upper = powers e f (x * u) (y * v) up; lower = powers e f (y * v) (x * u) down }

-- A common factor, put on and taken off.
pub near_scale : {e x y : ℕ} (c : ℕ) → Near e x y → Near e (x * c) (y * c)
near_scale {e} {x} {y} c h =
    let up = scaled x y (base ^ e) (next ^ e) c h.upper in
    let down = scaled y x (base ^ e) (next ^ e) c h.lower in
    record { upper = up; lower = down }

pub near_scale_left : {e x y : ℕ} (c : ℕ) → Near e x y → Near e (c * x) (c * y)
near_scale_left {x = x} {y = y} c h = rw (mul_comm c x, mul_comm c y) (near_scale c h)

pub near_cancel : {e x y c : ℕ} → 0 < c → Near e (x * c) (y * c) → Near e x y
near_cancel {e} {x} {y} {c} p h =
    let up = unscaled x y (base ^ e) (next ^ e) c p h.upper in
    let down = unscaled y x (base ^ e) (next ^ e) c p h.lower in
    record { upper = up; lower = down }

-- A quotient: q is near x over d, and d moves to c.
pub near_divide : {e f x c d : ℕ} (q : ℕ) → Near e (q * d) x → Near f c d → Near (f + e) (q * c) x
near_divide q h g = near_trans (near_scale_left q g) h

-- Fractions: x/c is near v/b and v/b is near z/d, so x/c is near z/d.
pub near_through :
    {e f b : ℕ} (c d x v z : ℕ) → 0 < b → Near e (x * b) (v * c) → Near f (v * d) (z * b) → Near (e + f) (x * d) (z * c)
near_through {e} {f} {b} c d x v z p h g =
    let a : Near e (x * d * b) (v * d * c) = rw (mul_right_comm x d b, mul_right_comm v d c) (near_scale d h) in
    let t : Near f (v * d * c) (z * c * b) = rw (mul_right_comm z c b) (near_scale c g) in
    near_cancel p (near_trans a t)

-- A sum, of two and over a range.
pub near_add : {e x y u v : ℕ} → Near e x y → Near e u v → Near e (x + u) (y + v)
near_add h g = omega arith

pub near_sum : {e : ℕ} (f g : ℕ → ℕ) (k m : ℕ) → ((i : ℕ) → In k m i → Near e (f i) (g i)) → Near e (sum f k m) (sum g k m)
unfolding sum
near_sum f g k zero h = near_refl
near_sum f g k (suc m) h = near_add (h k first) (near_sum f g (suc k) m (λ i l. h i (later l)))

-- One is zero where the other is.
pub pos-left : (a b : ℕ) → 0 < a * b → 0 < a
pos-left zero b l = omega arith
pos-left (suc a) b l = omega arith

pub near_pos : {e x y : ℕ} → Near e x y → 0 < x → 0 < y
near_pos {e} {x} {y} h p =
    let q : 0 < x * base ^ e = mul-pos p (base-pos e) in
    pos-left y (next ^ e) (omega (arith, h.upper))

pub near_zero : {e x y : ℕ} → Near e x y → y ≡ 0 → x ≡ 0
near_zero {x = zero} h p = refl
near_zero {x = suc x} {y} h p = let q : 0 < y = near_pos h (omega arith) in omega arith

-- One addition more: s' is within one rounding of s + x, and s within e of y.
pub near_addition : (e s s' x y z : ℕ) → Near 1 s' (s + x) → Near e s y → y + x ≡ z → Near (suc e) s' z
near_addition e s s' x y z h g p =
    subst (Near (suc e) s') p (near_grow {e = 1 + e} (omega arith) (near_trans h (near_add g (near_refl {x = x}))))

-- A sum made term by term from the last on, each addition within one rounding, is within as many roundings as it has terms:
-- acc j is what stands once the terms from j on are added.
pub near_sum_down :
    (acc f : ℕ → ℕ) (k m : ℕ) → ((j : ℕ) → In k m j → Near 1 (acc j) (acc (suc j) + f j))
    → Near m (acc k) (acc (k + m) + sum f k m)
unfolding sum
near_sum_down acc f k zero h = rw (add-zero k) (near_eq (omega arith))
near_sum_down acc f k (suc m) h =
    let rest = near_sum_down acc f (suc k) m (λ j l. h j (later l)) in
    let e : acc (suc k + m) ≡ acc (k + suc m) = ap acc (omega arith) in
    near_addition m (acc (suc k)) (acc k) (f k) (acc (suc k + m) + sum f (suc k) m) (acc (k + suc m) + (f k + sum f (suc k) m)) (h k first) rest (omega arith)

-- A quotient r = t/q and a product s = r·y, each within one rounding, where u is the unit of the numbers: s is within two
-- of t·y/q. With a sum x' = x + s and a pivot q within e of p: x' is within e + 3 of x + t·y/p.
pub near_term :
    {u : ℕ} (q r s t y : ℕ) → 0 < u → Near 1 (r * q) (t * u) → Near 1 (s * u) (r * y) → Near 2 (s * q) (t * y)
near_term {u} q r s t y pos hr hs =
    let a : Near 1 (s * q * u) (r * q * y) = rw (mul_right_comm s q u, mul_right_comm r q y) (near_scale q hs) in
    let b : Near 1 (r * q * y) (t * y * u) = rw (mul_right_comm t y u) (near_scale y hr) in
    near_cancel pos (near_trans a b)

pub near_step :
    {e p q u x' : ℕ} (r s t x y : ℕ) → 0 < u → Near e p q
    → Near 1 (r * q) (t * u) → Near 1 (s * u) (r * y) → Near 1 x' (x + s)
    → Near (e + 3) (x' * p) (x * p + t * y)
near_step {e} {p} {q} {x' = x'} r s t x y pos hp hr hs hx =
    let a : Near (e + 2) (s * p) (t * y) = near_divide s (near_term q r s t y pos hr hs) hp in
    let b : Near 1 (x' * p) (x * p + s * p) = rw (← (add-mul x s p)) (near_scale p hx) in
    near_grow {e = 1 + (e + 2)} (omega arith) (near_trans b (near_add near_refl a))
