-- `kept::system` meets its contract. Assumes nothing.
use Rattle.compact.proofs.Listings.{listing_below}
use Rattle.kept.proofs.KeptTests.{system_is}
use Rattle.kept.proofs.system.Goals as goal

pub system_rows-rows-requires : goal.system_rows-rows-requires
system_rows-rows-requires c =
    let s = c.requires in
    (s.0, listing_below s.1.listing)

pub returns : goal.returns
returns c =
    let s = c.requires in
    system_is s.1 c.shares-divisions.ensures c.pack.ensures c.system_rows-rows.ensures
