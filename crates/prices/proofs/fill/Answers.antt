-- `prices::fill` meets its contract: at stage i the stages before it are done. Assumes nothing.
use mathlib.Core.Path.{refl, ap, ◌∙◌}
use Prim.Native.Nat.{ℕ}
use native.Mathlib.Omega.{arith}
use borrow.Author.Rules.{rules}
use lib.Ieee.{Float}
use Rattle.definitions.specs.Prices.{unit_price, request_price}
use Rattle.tables.specs.RowMajor.{table}
use Rattle.tables.specs.Vectors.{vector}
use Rattle.tables.proofs.Operators.{between_in}
use Rattle.tables.proofs.Vectors.{vector_begins, vector_turns, vector_ends}
use Rattle.prices.proofs.fill.Goals as goal

pub loop-i-preserved : goal.loop-i-preserved
loop-i-preserved c =
    (omega arith, vector_turns c.loop-i.invariant.1 c.put.ensures c.price-sum.ensures)

pub returns : goal.returns
returns c =
    let done = vector_ends c.loop-i.invariant.1 {n = c.args.n} (omega arith) (omega arith) in
    record {
      long = done.long;
      price = λ i l. ap (λ (v : ℕ → Float). v i) done.is ∙ between_in 0 c.args.n (request_price c.args.n (table c.args.x.now) (unit_price c.args.prices.now)) (vector c.args.p.now) i (omega arith) l;
    }

pub loop-i-init : goal.loop-i-init
loop-i-init c = (search rules, vector_begins refl c.told-p)
