-- `automaton_of` has the site make what the line's bytes write.
use Rattle.records.proofs.Starting.{started}
use Rattle.records.proofs.automaton_of.Goals as goal

pub returns-in-Ok-clause-starts : goal.returns-in-Ok-clause-starts
returns-in-Ok-clause-starts c = started c.bytes-text.ensures c.in-Ok.ensures.made
