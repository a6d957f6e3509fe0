-- `blocks::store` meets its contract: place after place. Assumes nothing.
use mathlib.Core.Path.{refl}
use Rattle.tables.proofs.Loops.{along_begins, along_turns, along_next}
use Rattle.blocks.proofs.store.Goals as goal

pub returns : goal.returns
returns c =
    λ own h.
    (along_next 7
    (along_next 6
    (along_next 5
    (along_next 4
    (along_next 3
    (along_next 2
    (along_next 1
    (along_turns
    (along_begins refl c.told-t)
    c.put.ensures h.first)
    c.put-2.ensures h.second)
    c.put-3.ensures h.third)
    c.put-4.ensures h.fourth)
    c.put-5.ensures h.fifth)
    c.put-6.ensures h.sixth)
    c.put-7.ensures h.seventh)
    c.put-8.ensures h.eighth).holds
