-- `allowance::allowance_of` meets its contract. Assumes nothing.
use native.Mathlib.Omega.{arith}
use Rattle.counts.proofs.Counts.{square_small}
use Rattle.allowance.proofs.Cubes.{first_allowance, second-allowance, third_allowance, cube_small}
use Rattle.allowance.proofs.allowance_of.Goals as goal

pub returns : goal.returns
returns c = third_allowance c.args.n c.args.reading c.if-reading-eq1.false c.if-reading-eq2.false

pub overflow_mul-cube : goal.overflow_mul-cube
overflow_mul-cube c = omega (arith, square_small c.requires)

pub overflow_mul-cube-2 : goal.overflow_mul-cube-2
overflow_mul-cube-2 c = omega (arith, cube_small c.requires)

pub overflow_mul-result : goal.overflow_mul-result
overflow_mul-result c = omega (arith, cube_small c.requires)

pub returns-then-reading-eq1 : goal.returns-then-reading-eq1
returns-then-reading-eq1 c = rw c.if-reading-eq1.true (first_allowance c.args.n)

pub overflow_mul-result-then-reading-eq2 : goal.overflow_mul-result-then-reading-eq2
overflow_mul-result-then-reading-eq2 c = omega (arith, cube_small c.requires)

pub returns-then-reading-eq2 : goal.returns-then-reading-eq2
returns-then-reading-eq2 c = rw c.if-reading-eq2.true (second-allowance c.args.n)

pub overflow_mul-result-2 : goal.overflow_mul-result-2
overflow_mul-result-2 c = omega (arith, cube_small c.requires)
