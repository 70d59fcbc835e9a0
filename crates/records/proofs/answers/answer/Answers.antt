-- `answer` answers a line by what it is.
use Rattle.records.proofs.Answering.{answered_long, answered_record}
use Rattle.records.proofs.answers.answer.Goals as goal

pub returns-in-Full-clause-answered : goal.returns-in-Full-clause-answered
returns-in-Full-clause-answered g c = answered_long c.refused.ensures.upper_bound c.in-Full.is c.refused.ensures.put

pub returns-in-Ended-clause-answered : goal.returns-in-Ended-clause-answered
returns-in-Ended-clause-answered g c =
    answered_record c.verdict.ensures.upper_bound c.verdict-judged.result c.in-Ended.is c.verdict-judged.ensures.judged
    c.verdict.ensures.put
