-- `compact::Stages::list` meets its contract, and the list is one of different stages. Assumes nothing.
use native.Mathlib.Omega.{arith}
use Rattle.compact.proofs.Listings.{listing_few, listing_below, listing_differ}
use Rattle.compact.proofs.Stages.list.Goals as goal

pub invariant_of-self : goal.invariant_of-self
invariant_of-self c =
    record {
      few = let l = listing_few c.list-self.ensures in omega (arith, c.requires);
      below = λ q g. let l = listing_below c.list-self.ensures q g in omega (arith, c.requires);
      differ = listing_differ c.list-self.ensures;
    }
