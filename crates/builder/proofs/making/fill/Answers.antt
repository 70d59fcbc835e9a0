-- `fill` meets its contract: what a turn comes to is said by the laws of Filling.
use Rattle.std.proofs.Common.{arith}
use Rattle.builder.proofs.Turning.{started}
use Rattle.builder.proofs.Filling.{no_letter, first_turn, turn_fitted, turn_place, turn_short, turn_ready, turn_meets, turn_full, turn_on, less_on, turn_last, turn_next}
use Rattle.builder.proofs.making.fill.Goals as goal

-- ---- Before the loop

pub returns-in_default-clause-reaches : goal.returns-in_default-clause-reaches
returns-in_default-clause-reaches c = no_letter c.args.rows.now c.args.states.now c.args.arcs.now c.args.letters c.requires.knows c.requires.started c.in_default.ensures

pub bounds-states-0 : goal.bounds-states-0
bounds-states-0 c =
    let h = started c.requires.started in omega (arith, h.state, h.roomy.states_fit, h.roomy.states_in)

pub loop-row-init : goal.loop-row-init
loop-row-init c = first_turn c.args.rows.now c.args.states.now c.args.arcs.now c.args.letters c.requires.knows c.requires.started c.in-Some.ensures

-- ---- A member found, and met

pub step-requires-clause-fitted : goal.step-requires-clause-fitted
step-requires-clause-fitted c = turn_fitted c.loop-row.invariant

pub step-requires-clause-row_lt_used : goal.step-requires-clause-row_lt_used
step-requires-clause-row_lt_used c = turn_place c.loop-row.invariant

pub returns-in_err-row-clause-reaches : goal.returns-in_err-row-clause-reaches
returns-in_err-row-clause-reaches c = turn_short c.loop-row.invariant c.step.ensures.same c.in_err-row.ensures.steps _ c.from_residual.ensures.0 _ _

pub meet-requires-clause-ready : goal.meet-requires-clause-ready
meet-requires-clause-ready c = turn_ready c.loop-row.invariant c.step.ensures.same c.in_ok-row.ensures.steps c.in-Some-2.is

pub meet-requires-clause-meets : goal.meet-requires-clause-meets
meet-requires-clause-meets c = turn_meets c.loop-row.invariant c.step.ensures.same c.in_ok-row.ensures.steps c.in-Some-2.is

pub returns-in_err-meet-clause-reaches : goal.returns-in_err-meet-clause-reaches
returns-in_err-meet-clause-reaches c =
    turn_full c.loop-row.invariant c.step.ensures.same c.in_ok-row.ensures.steps c.in-Some-2.is c.meet.new.states c.meet.new.arcs c.in_err-meet.ensures.met _
    c.from_residual-in_err-meet.ensures.0 _ _

pub loop-row-smaller-in-Some-2 : goal.loop-row-smaller-in-Some-2
loop-row-smaller-in-Some-2 c =
    less_on c.loop-row.invariant c.step.ensures.same c.in_ok-row.ensures.steps c.in-Some-2.is _ _ c.meet.ensures.same_states
    c.meet.ensures.same_arcs c.in_ok-meet.ensures.met

pub loop-row-preserved-in-Some-2 : goal.loop-row-preserved-in-Some-2
loop-row-preserved-in-Some-2 c =
    turn_on c.loop-row.invariant c.step.ensures.same c.in_ok-row.ensures.steps c.in-Some-2.is _ _ c.meet.ensures.same_states
    c.meet.ensures.same_arcs c.in_ok-meet.ensures.met

-- ---- A list's end

pub returns-in_default-turn-clause-reaches : goal.returns-in_default-turn-clause-reaches
returns-in_default-turn-clause-reaches c =
    turn_last c.loop-row.invariant c.step.ensures.same c.in_ok-row.ensures.steps c.in_default-2.is c.args.letters c.requires.knows c.in-Some.first
    c.in_default-turn.ensures

pub loop-row-preserved : goal.loop-row-preserved
loop-row-preserved c =
    turn_next c.loop-row.invariant c.step.ensures.same c.in_ok-row.ensures.steps c.in_default-2.is c.args.letters c.requires.knows
    c.in-Some.ensures c.in-Some-turn.ensures
