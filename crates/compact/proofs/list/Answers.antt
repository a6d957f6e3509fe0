-- `compact::list` meets its contract: at stage i the stages before it are listed. Assumes nothing.
use borrow.Author.Rules.{rules}
use Rattle.compact.specs.Listing.{marked}
use Rattle.compact.proofs.Listings.{listing_none}
use Rattle.compact.proofs.list.Goals as goal

pub loop-i-init : goal.loop-i-init
loop-i-init c = (search rules, listing_none (marked c.args.mask.now) (search rules))
