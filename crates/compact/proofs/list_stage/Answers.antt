-- `compact::list_stage` meets its contract. Assumes nothing.
use native.Mathlib.Omega.{arith}
use Rattle.compact.specs.Listing.{marked}
use Rattle.compact.proofs.Listings.{listing_room, listing_take, listing_leave}
use Rattle.compact.proofs.list_stage.Goals as goal

pub offset_bounds-places-r : goal.offset_bounds-places-r
offset_bounds-places-r c = let l = listing_room (marked c.args.mask.now) c.requires.1 c.requires.0 in omega arith

pub overflow_add-result : goal.overflow_add-result
overflow_add-result c = let l = listing_room (marked c.args.mask.now) c.requires.1 c.requires.0 in omega arith

pub bounds-places-r : goal.bounds-places-r
bounds-places-r c = listing_room (marked c.args.mask.now) c.requires.1 c.requires.0

pub returns-then-mask-i : goal.returns-then-mask-i
returns-then-mask-i c = listing_take (marked c.args.mask.now) c.requires.1 c.requires.0 c.if-mask-i.true

pub returns : goal.returns
returns c = listing_leave (marked c.args.mask.now) c.requires.1 c.if-mask-i.false
