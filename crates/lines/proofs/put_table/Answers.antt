-- `lines::put_table` meets its contract. The loop's invariant: the first i rows are written. Assumes nothing.
use Prim.Native.Nat.{ℕ, ◌+◌, ◌<◌}
use lib.Ieee.{Float}
use Rattle.definitions.specs.Sheet.{place}
use Rattle.definitions.specs.Dwell.{row_lines, table_lines}
use Rattle.buffer.specs.declared.Writer.{Writer}
use Rattle.buffer.specs.Pasted.{Room, Written}
use Rattle.buffer.proofs.Growing.{Turn, turn}
use Rattle.lines.proofs.Lines.{table-begun, table_grows}
use Rattle.lines.proofs.put_table.Goals as goal

-- A turn writes one row more of the table.
row-turn : (x : ℕ → ℕ → Float) (n : ℕ) {i : ℕ} {start here : Writer} → Room (table_lines x n n) start → i < n → Written (table_lines x n i) start here
    → Turn (row_lines x i n) (table_lines x n (i + 1)) start here
row-turn x n room due so_far = turn (table_lines x n) (λ k. row_lines x k n) n (λ k h. table_grows x n k) room due so_far

pub loop-i-init : goal.loop-i-init
loop-i-init c =
    table-begun (place c.args.n c.args.answer.now) c.args.n c.args.out.now

pub put_row-requires : goal.put_row-requires
put_row-requires c = (
  c.loop-i-test.true,
  c.requires.0,
  (row-turn (place c.args.n c.args.answer.now) c.args.n c.requires.1 c.loop-i-test.true c.loop-i.invariant).room,
)

pub loop-i-preserved : goal.loop-i-preserved
loop-i-preserved c =
    (row-turn (place c.args.n c.args.answer.now) c.args.n c.requires.1 c.loop-i-test.true c.loop-i.invariant).written c.put_row.ensures
