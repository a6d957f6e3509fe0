-- `compact::Stages::pack` meets its contract: at place p the rows before it are done. Assumes nothing.
use mathlib.Core.Path.{refl}
use native.Mathlib.Omega.{arith}
use borrow.Author.Rules.{rules}
use Rattle.tables.specs.RowMajor.{table}
use Rattle.tables.proofs.Loops.{down_begins, down_spans, down_ends}
use Rattle.compact.specs.Listing.{stage_at}
use Rattle.compact.proofs.Packing.{packed_all}
use Rattle.compact.proofs.Stages.pack.Goals as goal

pub loop-p-preserved : goal.loop-p-preserved
loop-p-preserved c =
    (omega arith, down_spans 0 c.args.self.now.count (λ o q. table c.args.t.now (stage_at c.args.self.now.places o) (stage_at c.args.self.now.places q)) (table c.args.s.now) c.loop-p.invariant.1 c.pack_row.ensures)

pub returns : goal.returns
returns c =
    packed_all (table c.args.t.now) (table c.args.s.now) (down_ends c.loop-p.invariant.1 (omega arith) (omega arith))

pub loop-p-init : goal.loop-p-init
loop-p-init c = (search rules, down_begins refl c.told-s)
