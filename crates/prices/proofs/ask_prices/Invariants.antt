-- `prices::ask_prices` meets its contract: every price before j is good. Assumes nothing.
use mathlib.Core.Path.{◌≡◌}
use mathlib.Core.Bool.{Bool}
use mathlib.Core.List.{List}
use Prim.Native.Nat.{ℕ}
use lib.ListN.{length}
use lib.Ieee.{Float}
use Rattle.definitions.specs.Prices.{unit_price, good_price, question19}
use Rattle.steps.proofs.Searches.{from_stage}
use Rattle.prices.proofs.ask_prices.Given as goal

abbrev pub good : List Float → ℕ → Bool
good prices j = good_price (unit_price prices j)

abbrev pub invariant-loop-j : goal.invariant-loop-j
invariant-loop-j l = question19 (length l.prices) l.prices ≡ from_stage (good l.prices) 19 (length l.prices) l.j
