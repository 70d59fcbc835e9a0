-- What the matcher refuses has place 0.
use Rattle.host.proofs.Hosting.{judges_place}
use Rattle.host.proofs.gumpaleri_judge.Goals as goal

pub refused-requires-in-Err : goal.refused-requires-in-Err
refused-requires-in-Err c = judges_place c.in-Err.refusal c.in-Err.ensures.judged
