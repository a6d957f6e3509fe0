-- `moving::sizes_within` meets its contract. The loop's invariant: the flag tells of the numbers so far. Assumes nothing.
use mathlib.Core.Path.{◌≡◌, refl, ap, ◌∙◌}
use Prim.Native.Nat.{ℕ}
use native.Mathlib.Omega.{arith}
use lib.ListN.{length, get_or}
use lib.Ieee.{nan}
use Rattle.definitions.specs.Numbers.{all}
use Rattle.rounding.specs.ResultRange.{size_within}
use Rattle.steps.proofs.All.{all_more}
use Rattle.moving.proofs.sizes_within.Goals as goal

pub loop-number-init : goal.loop-number-init
unfolding all
loop-number-init c = refl

pub loop-number-preserved : goal.loop-number-preserved
loop-number-preserved c =
    all_more (λ at. size_within c.args.least c.args.most (get_or c.args.numbers.now at nan)) c.loop-number.number-index c.loop-number.invariant c.size_within-good.ensures

pub returns : goal.returns
returns c =
    let whole : c.loop-number.number-index ≡ length c.args.numbers.now = omega arith in
    c.loop-number.invariant ∙ ap (λ (m : ℕ). all (λ at. size_within c.args.least c.args.most (get_or c.args.numbers.now at nan)) 0 m) whole
