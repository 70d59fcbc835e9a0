-- `report` answers line after line.
use Rattle.std.proofs.Common.{◌∙◌, arith, rules}
use Rattle.rooms.proofs.Going.{going_none, fits_still, next_going, no_next, reported}
use Rattle.rooms.proofs.report.Goals as goal

pub loop-init : goal.loop-init
loop-init g c = going_none c.none-totals.ensures c.requires.2

pub answer_next-requires : goal.answer_next-requires
answer_next-requires g c = (
  search rules,
  (search rules, ((c.loop.auto.column ∙ c.requires.0, c.requires.1), fits_still c.loop.invariant (omega (arith, c.loop-test.true)))),
)

pub returns-in_default : goal.returns-in_default
returns-in_default g c =
    no_next c.loop.invariant (omega (arith, c.loop-test.true)) c.in_default.is c.in_ok-more.ensures c.totals_line.ensures.put

pub loop-preserved : goal.loop-preserved
loop-preserved g c = next_going c.loop.invariant c.in-Some.is c.in_ok-more.ensures

pub returns : goal.returns
returns g c =
    reported c.loop.invariant _ c.end.result _ _ (omega (arith, c.loop-test.false, c.loop.auto.counter-end)) c.end.ensures
