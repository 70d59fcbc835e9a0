-- `end` looks for a line more: where there is one, the lines are too many.
use Rattle.rooms.proofs.Answering.{one_too_many}
use Rattle.rooms.proofs.end.Goals as goal

pub returns-in-Some : goal.returns-in-Some
returns-in-Some g c = one_too_many c.in-Some.is c.in_ok-ask.ensures c.refused.ensures.put
