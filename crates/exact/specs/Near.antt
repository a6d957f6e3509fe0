-- Near e x y: whole numbers within e roundings of each other, x ≤ y·(1 + 2^-53)^e and y ≤ x·(1 + 2^-53)^e, multiplied across.
use Rattle.std.specs.Prelude.{ℕ, ◌+◌, ◌*◌, ◌^◌, ◌≤◌}

-- 2^53, and one more; shut in proofs, so that nothing computes them.
unfoldable pub base : ℕ
base = 2 ^ 53

unfoldable pub next : ℕ
next = base + 1

pub record Near (e x y : ℕ) : Type 0 where
  pub upper : x * base ^ e ≤ y * next ^ e
  pub lower : y * base ^ e ≤ x * next ^ e
