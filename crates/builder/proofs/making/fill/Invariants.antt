-- A turn begins at a member's place in the list of a state's derivative by a letter, in the columns that were lent. What is left: of the room for
-- arcs, where a member is found; of the states and letters, where a list ends.
use Rattle.std.proofs.Common.{◌+◌, ◌-◌}
use Rattle.builder.proofs.Filling.{Turn}
use Rattle.builder.proofs.Turning.{turns_left}
use Rattle.builder.proofs.making.fill.Given as goal

abbrev pub invariant-loop-row : goal.invariant-loop-row
invariant-loop-row l = let f = l.fn in Turn f.rows f.states f.arcs l.i l.a l.e l.after l.rows l.states l.arcs

abbrev pub decreases-loop-row : goal.decreases-loop-row
decreases-loop-row l = (l.arcs.room - l.arcs.used) + turns_left l.i l.a
