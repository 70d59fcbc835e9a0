-- What is owed of the block and the place is owed of the input.
use Rattle.lines.proofs.Apart.{took}
use Rattle.lines.proofs.input.Input.take_line.Goals as goal

pub returns : goal.returns
returns g c = took c.self.view_is c.take_line-taken.result c.apart-line.ensures c.take_line-taken.ensures
