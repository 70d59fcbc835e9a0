-- The falling number of `fresh_step`, `side_step` and `step`: three times the row, and between a row and its child stand the side and the
-- walk beyond the left side.
use Rattle.std.proofs.Common.{suc, ◌*◌, length}
use Rattle.derive.specs.Rows.{rows_table, SameRows}
use Rattle.derive.specs.Sides.{side_list}
use Rattle.derive.specs.Walk.{to_come}
use Rattle.derive.proofs.FreshStep.{PassedOver}
use Rattle.derive.proofs.Membership.{weight}
use Rattle.derive.proofs.walk.+fresh_step_side_step_step.Given as goal

abbrev pub decreases-fresh_step : goal.decreases-fresh_step
decreases-fresh_step l = suc (3 * weight l.b)

abbrev pub decreases-side_step : goal.decreases-side_step
decreases-side_step l = 3 * weight l.side

abbrev pub decreases-step : goal.decreases-step
decreases-step l = suc (suc (3 * l.row))

-- Members of the right side up to a place, all of them in the left side, have been passed over.
abbrev pub invariant-fresh_step-loop-member : goal.invariant-fresh_step-loop-member
invariant-fresh_step-loop-member l =
    SameRows l.fn.rows l.rows
    × PassedOver (rows_table l.fn.rows) l.fn.rows.used l.fn.rows.room l.letter l.a l.b l.fn.after (rows_table l.rows) l.rows.used l.at

abbrev pub decreases-fresh_step-loop-member : goal.decreases-fresh_step-loop-member
decreases-fresh_step-loop-member l =
    length (to_come (rows_table l.rows) l.at (side_list l.letter (rows_table l.fn.rows) l.b))
