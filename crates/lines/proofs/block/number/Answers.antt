-- `number` puts the digits of the number and then the byte.
use Rattle.lines.proofs.Putting.{number_text, digits_fit, numbered}
use Rattle.lines.proofs.block.number.Goals as goal

pub word-at-requires : goal.word-at-requires
word-at-requires c = digits_fit _ _ _ (number_text _ _ _ c.decimal-count.ensures.len c.decimal-count.ensures.digits) c.requires

pub bounds-block-at : goal.bounds-block-at
bounds-block-at c =
    (numbered (number_text _ _ _ c.decimal-count.ensures.len c.decimal-count.ensures.digits) c.requires c.word-at.ensures).inside

pub returns : goal.returns
returns c =
    (numbered (number_text _ _ _ c.decimal-count.ensures.len c.decimal-count.ensures.digits) c.requires c.word-at.ensures).put
