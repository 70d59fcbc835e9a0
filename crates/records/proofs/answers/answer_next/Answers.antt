-- `answer_next` takes the next line, and answers it.
use Rattle.records.proofs.Turning.{ended}
use Rattle.records.proofs.answers.answer_next.Goals as goal

pub returns-in-None-clause-turned : goal.returns-in-None-clause-turned
returns-in-None-clause-turned g c = ended c.in-None.is c.in_ok-asked.ensures
