-- The falling number of `has` and `side_has`: twice the row, and between a row and its child stands the side.
use Rattle.std.proofs.Common.{suc, ◌*◌}
use Rattle.derive.proofs.Membership.{weight}
use Rattle.derive.proofs.walk.+has_side_has.Given as goal

abbrev pub decreases-has : goal.decreases-has
decreases-has l = suc (2 * l.row)

abbrev pub decreases-side_has : goal.decreases-side_has
decreases-side_has l = 2 * weight l.side
