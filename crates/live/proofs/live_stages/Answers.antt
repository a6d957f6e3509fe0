-- `live::live_stages` meets its contract: before stage i the marks are right. Assumes nothing.
use mathlib.Core.Path.{sym, ap, ◌∙◌}
use mathlib.Core.Bool.{not}
use native.Mathlib.Numerals.{add-one}
use native.Mathlib.Omega.{arith}
use Rattle.steps.proofs.LiveStages.{live_is}
use Rattle.compact.proofs.Listings.{mask_turns}
use Rattle.live.proofs.live_stages.Goals as goal

pub loop-i-preserved : goal.loop-i-preserved
loop-i-preserved c =
    (omega arith, rw (add-one _) (mask_turns c.loop-i.invariant.1 (omega (arith, c.args.sheet.square.few)) (ap not c.is_idle.ensures ∙ sym (live_is _ _ _))))
