-- The left part of a concatenation stands before it.
use Rattle.derive.proofs.Reading.{left_before}
use Rattle.derive.proofs.sides.right_side.Goals as goal

pub empty_word-requires : goal.empty_word-requires
empty_word-requires c = (left_before _ _ c.row-w.ensures c.in_ok-sign.ensures c.in-Sign.is c.requires).1
