-- What is owed of the block and the place is owed of the input.
use Rattle.lines.proofs.Apart.{took_whole}
use Rattle.lines.proofs.input.Input.next_line.Goals as goal

pub returns : goal.returns
returns g c = took_whole c.self.view_is c.next_line-taken.result c.apart-line.ensures c.next_line-taken.ensures
