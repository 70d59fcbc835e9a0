-- `judge` is the three calls one after the other.
use Rattle.std.proofs.Common.{refl}
use Rattle.theory.specs.Column.{zeros}
use Rattle.theory.specs.Arcs.{arc_columns}
use Rattle.site.proofs.Telling.{told_refused, told_settled}
use Rattle.site.proofs.judge.Goals as goal

pub returns-in-Err-clause-judged : goal.returns-in-Err-clause-judged
returns-in-Err-clause-judged c = told_refused c.in-Err.ensures.made c.clear.ensures.cleared

pub returns-clause-judged : goal.returns-clause-judged
returns-clause-judged c =
    let kept = c.in-Ok.ensures.same in
    told_settled c.in-Ok.ensures.made refl c.view.ensures {j = c.judge-answer.result} c.judge-answer.ensures.judged
    {answer = c.settle.result} c.settle.ensures.answers c.settle.ensures.leaves
    (λ i. record {
      accepting = zeros (c.automaton.auto.accepting i);
      arcs = arc_columns (zeros (kept.from.length i)) (zeros (kept.letter.length i)) (zeros (kept.to.length i));
    })
