-- `row` puts number after number.
use Rattle.std.proofs.Common.{arith}
use Rattle.lines.proofs.Putting.{spaced_none, spaced_next, row_put}
use Rattle.lines.proofs.block.row.Goals as goal

pub loop-n-init : goal.loop-n-init
loop-n-init c = spaced_none _ _ _

pub loop-n-preserved : goal.loop-n-preserved
loop-n-preserved c = spaced_next c.loop-n.invariant c.loop-n-test.true (c.type_inv.numbers c.loop-n.n-index).fits c.number-at.ensures

pub returns-clause-put : goal.returns-clause-put
returns-clause-put c = (row_put c.loop-n.invariant c.loop-n-test.false (omega (arith, c.ranges.last.fits)) c.number.ensures).0

pub returns-clause-upper_bound : goal.returns-clause-upper_bound
returns-clause-upper_bound c = (row_put c.loop-n.invariant c.loop-n-test.false (omega (arith, c.ranges.last.fits)) c.number.ensures).1
