-- The row of the expression that the byte is.
use Rattle.std.proofs.Common.{sym, ◌∙◌}
use Rattle.theory.specs.Expression.{ε, letter}
use Rattle.theory.specs.Grammar.{rows, is_letter}
use Rattle.reader.proofs.Leaf.{leaf_ε, leaf_letter, leaf_other}
use Rattle.reader.proofs.entries.leaf.Goals as goal

pub returns-then-byte-eq49 : goal.returns-then-byte-eq49
unfolding rows
returns-then-byte-eq49 c = (ε, leaf_ε _ c.if-byte-eq49.true, λ made. rw c.number.ensures)

pub returns-then-is_ascii_alphabetic : goal.returns-then-is_ascii_alphabetic
unfolding rows is_letter
returns-then-is_ascii_alphabetic c =
    let a_letter = sym c.is_ascii_alphabetic.ensures.value ∙ c.if-is_ascii_alphabetic.true in
    (letter c.args.byte, leaf_letter _ a_letter, λ made. rw (c.number-then-is_ascii_alphabetic.ensures, c.from.ensures))

pub returns : goal.returns
unfolding is_letter
returns c = leaf_other _ c.if-byte-eq49.false (sym c.is_ascii_alphabetic.ensures.value ∙ c.if-is_ascii_alphabetic.false)
