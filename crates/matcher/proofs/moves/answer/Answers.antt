-- `answer` meets its contract, on both ways out.
use Rattle.std.proofs.Common.{◌∙◌, arith}
use Rattle.std.proofs.lemmas.Result.{err_from_is_err_and}
use Rattle.columns.specs.Work.{lent_work}
use Rattle.matcher.specs.Automaton.{handed_over}
use Rattle.matcher.proofs.Walk.{checked_kept, long_enough}
use Rattle.matcher.proofs.Judging.{ready, formed, checked, judged_refused, judged_given}
use Rattle.matcher.proofs.moves.answer.Goals as goal

pub returns-in_err-check-clause-answers : goal.returns-in_err-check-clause-answers
returns-in_err-check-clause-answers c =
    let p = err_from_is_err_and c.from_residual.result c.from_residual.ensures.1 in
    rw (p.1, p.2)
    (judged_refused (handed_over c.args.automaton) (lent_work c.args.work.now) c.args.«record».now c.in_err-check.field-0.0 c.in_err-check.ensures)

pub mark-requires : goal.mark-requires
mark-requires c =
    let k = checked (handed_over c.args.automaton) (lent_work c.args.work.now) c.in_ok-check.ensures in
    omega (arith, k.some_state, k.enough.current, c.clear.ensures.same.current.length)

pub walk-died-requires-clause-checked : goal.walk-died-requires-clause-checked
walk-died-requires-clause-checked c =
    let k = lent_work c.args.work.now in
    let same = c.clear.ensures.same in
    checked_kept k _ (c.mark.auto.words ∙ same.current.length) same.next.length (checked (handed_over c.args.automaton) k c.in_ok-check.ensures)

pub walk-died-requires-clause-ready : goal.walk-died-requires-clause-ready
walk-died-requires-clause-ready c = ready (lent_work c.args.work.now) c.clear.ensures.cleared c.mark.ensures

pub verdict-requires : goal.verdict-requires
verdict-requires c =
    let h = handed_over c.args.automaton in
    let k = lent_work c.args.work.now in
    let good = formed h k c.in_ok-check.ensures in
    let same = c.clear.ensures.same in
    let walked = c.walk-died.ensures.same in
    record {
      few = good.few_states;
      accepting = good.accepting_long;
      enough =
          long_enough k _ (walked.current.length ∙ c.mark.auto.words ∙ same.current.length) (walked.next.length ∙ same.next.length)
          (checked h k c.in_ok-check.ensures).enough;
    }

pub returns-clause-answers : goal.returns-clause-answers
returns-clause-answers c =
    let h = handed_over c.args.automaton in
    let k = lent_work c.args.work.now in
    let none = c.in_ok-check.ensures in
    judged_given h k c.args.«record».now none (c.verdict.ensures h.arcs _ (checked h k none) _ c.walk-died.ensures.ended)
