-- `hexadecimal::put_hexadecimal` meets its contract. The loop's invariant: pasting the digits that are left gives all of them. Assumes nothing.
use mathlib.Core.List.{List, append-nil}
use mathlib.Core.Path.{◌≡◌, ◌∙◌}
use Prim.Native.Nat.{ℕ, ◌+◌, ◌-◌, ◌/◌, ◌≤◌, ◌<◌}
use native.Mathlib.Omega.{arith}
use lib.ListN.{length}
use Rattle.std.proofs.Common.{rules}
use Rattle.definitions.specs.Dwell.{hexadecimal}
use Rattle.buffer.specs.Pasted.{pasted}
use Rattle.buffer.proofs.Pasting.{pasted-last, pasted_nothing, pasted-at-start}
use Rattle.digits.proofs.Digits.{hexadecimal-none, hexadecimal_more, length-hexadecimal}
use Rattle.hexadecimal.proofs.put_hexadecimal.Goals as goal

-- Once no digit is left, all are found.
all_found : (k rest : ℕ) {digits text : List ℕ} → k ≤ 0 → pasted (hexadecimal k rest) 0 digits ≡ text → digits ≡ text
all_found k rest h found =
    let none : k ≡ 0 = omega arith in
    rw (none, hexadecimal-none, pasted_nothing) at found

pub loop-k-init : goal.loop-k-init
loop-k-init c = (search rules, rw (pasted-at-start, length-hexadecimal 16 c.args.word) (append-nil (hexadecimal 16 c.args.word)))

pub loop-k-preserved : goal.loop-k-preserved
loop-k-preserved c =
    let k = c.loop-k.k in
    let rest = c.loop-k.rest in
    let front = hexadecimal (k - 1) (rest / 16) in
    let here : k - 1 ≡ 0 + length front = omega (arith, length-hexadecimal (k - 1) (rest / 16)) in
    let inside : k - 1 < length c.loop-k.digits = omega arith in (
      search rules,
      rw c.hexadecimal_digit.ensures
          (pasted-last front (hexadecimal k rest) _ 0 (k - 1) _ (hexadecimal_more k rest c.loop-k-test.true) here inside ∙ c.loop-k.invariant.1),
    )

pub put_bytes-requires : goal.put_bytes-requires
put_bytes-requires c = rw (all_found _ _ c.loop-k-test.false c.loop-k.invariant.1) c.requires

pub returns : goal.returns
returns c = rw (all_found _ _ c.loop-k-test.false c.loop-k.invariant.1) at c.put_bytes.ensures
