-- The falling number: the text that is left and the parentheses that may still be opened, and one more for `expression`, which calls
-- `operand` where it stands; `operand` opens one after a byte.
use Rattle.std.proofs.Common.{length, ◌+◌, ◌-◌}
use Rattle.theory.specs.Limit.{most_open}
use Rattle.reader.proofs.rules.+expression_operand.Given as goal

abbrev pub decreases-expression : goal.decreases-expression
decreases-expression l = (length l.text.now - l.at.cursor.at) + (most_open - l.at.depth) + 1

abbrev pub decreases-operand : goal.decreases-operand
decreases-operand l = (length l.text.now - l.at.cursor.at) + (most_open - l.at.depth)
