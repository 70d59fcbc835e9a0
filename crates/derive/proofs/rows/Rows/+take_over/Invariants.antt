-- The falling number of `take_over` is the entry of the given table.
use Rattle.derive.proofs.rows.Rows.+take_over.Given as goal

abbrev pub decreases-take_over : goal.decreases-take_over
decreases-take_over l = l.e
