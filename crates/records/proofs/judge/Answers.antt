-- The work columns hold a bit for each state of the site.
use Rattle.std.proofs.Common.{rules, arith}
use Rattle.records.proofs.Going.{long_enough}
use Rattle.records.proofs.judge.Goals as goal

pub answer_next-requires : goal.answer_next-requires
answer_next-requires g c =
    (search rules, (search rules, (c.requires.sited, (long_enough c.loop.invariant c.requires.sited, (c.loop.invariant.column_length, omega arith)))))
