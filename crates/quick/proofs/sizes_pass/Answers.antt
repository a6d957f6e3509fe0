-- `quick::sizes_pass` meets its contract. Assumes nothing.
use mathlib.Core.Bool.{not}
use mathlib.Core.Path.{ap}
use Prim.Native.Nat.{◌≤◌}
use native.Mathlib.Omega.{arith}
use borrow.Author.Count.{below_more}
use borrow.Author.Tests.{not-false}
use Rattle.exact.proofs.Bools.{holds}
use Rattle.quick.proofs.QuickSheets.{stretch_inside, stretch_passes, sizes_pass}
use Rattle.quick.proofs.sizes_pass.Goals as goal

pub loop-i-preserved : goal.loop-i-preserved
loop-i-preserved c =
    let some : 1 ≤ c.loop-i.i = omega arith in
    let inside = stretch_inside c.args.sheet.square some c.loop-i-test.true in
    let passed = holds (not-false c.stretch_passes.result (ap not c.if-not-stretch_passes.false)) in
    below_more _ _ c.loop-i.invariant (stretch_passes _ _ _ inside.0 inside.1 (c.stretch_passes.ensures passed))

pub returns : goal.returns
returns c = λ t. sizes_pass (λ k l. c.loop-i.invariant k (omega arith))
