-- `verdict` hands the site's automaton to the matcher.
use Rattle.site.proofs.Judging.{judged_over}
use Rattle.site.proofs.verdict.Goals as goal

pub returns-clause-judged : goal.returns-clause-judged
returns-clause-judged c = judged_over c.requires.sited c.requires.long_enough c.judge.ensures.judged
