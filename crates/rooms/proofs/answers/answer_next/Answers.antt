-- `answer_next` takes the next line, and answers it.
use Rattle.std.proofs.Common.{◌∙◌, rules}
use Rattle.rooms.proofs.Answering.{turned_line, turned_end}
use Rattle.rooms.proofs.answers.answer_next.Goals as goal

pub returns-in-None : goal.returns-in-None
returns-in-None g c = turned_end c.in-None.is c.in_ok-line.ensures (λ none. search rules)

pub returns-in-Some : goal.returns-in-Some
returns-in-Some g c =
    turned_line (c.ask.auto.column ∙ c.requires.rooms.0) c.in-Some.is c.in_ok-line.ensures c.bytes-text.ensures c.answer.ensures
