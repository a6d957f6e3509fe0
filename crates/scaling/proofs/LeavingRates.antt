-- Column j of two systems, one of which is the other times 2^c: b is the same, and the last division has the larger divisor.
use mathlib.Core.Path.{refl}
use Rattle.definitions.specs.LeavingRates.{downward}
use Rattle.steps.proofs.Same.{solved_alike}
use Rattle.steps.proofs.LeavingRatesSteps.{quotient_is}
use Rattle.rates_accuracy.specs.LeavingRatesAccuracy.{GoodSystem}
use Rattle.rates_accuracy.proofs.LeavingRatesRange.{last-division}
use Rattle.rates_accuracy.proofs.LeavingRatesStages.{shared_facts}
use Rattle.rates_accuracy.proofs.LeavingRatesUpward.{solved-good}
use Rattle.scaling.specs.Scaling.{QuotientsScale}
use Rattle.scaling.proofs.ScaledNumbers.{smaller_quotient}
use Rattle.scaling.proofs.LeavingRatesStages.{pivots-scaled, multipliers_same, upward_multipliers_same}

pub quotients_scale : QuotientsScale
unfolding QuotientsScale
quotients_scale c r j start start' gw g t u t' u' i l =
    let at = downward r start in
    let at' = downward r start' in
    let good : GoodSystem start.z 0 r start = record { size = λ i j li lj n. (g.size i j li lj n).from; exit = λ i l. (g.exit i l).from; weights = refl } in
    let same = solved_alike r at' at (multipliers_same c r start start' gw g t t') (upward_multipliers_same c r start start' gw g t t') j i l in
    rw (quotient_is r at' i j, quotient_is r at i j, same)
    (smaller_quotient (solved-good start.z r at j gw (shared_facts start.z r gw start good t) u i l) (pivots-scaled c r start start' gw g t t' i l)
    (last-division r at j u i l) (rw same at (last-division r at' j u' i l)))
