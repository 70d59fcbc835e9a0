-- A star more, or the refusal of its entry.
use Rattle.std.proofs.Common.{rules}
use Rattle.columns.proofs.ByteAt.{step_byte}
use Rattle.columns.specs.Table.{lent_table}
use Rattle.reader.proofs.Stars.{starred_answers, starred_more}
use Rattle.reader.proofs.entries.stars.Goals as goal

pub returns-in_default-star-clause-answered : goal.returns-in_default-star-clause-answered
returns-in_default-star-clause-answered c =
    starred_answers c.loop-byte.invariant.starred (step_byte _ _ c.step.ensures c.in-Some.is) c.if-byte-ne42.false c.number.ensures
    c.entry-star.result (lent_table c.entry-star.new.table) c.entry-star.ensures.entry

pub loop-byte-preserved : goal.loop-byte-preserved
loop-byte-preserved c = record {
  starred = starred_more c.loop-byte.invariant.starred (step_byte _ _ c.step.ensures c.in-Some.is) c.if-byte-ne42.false c.number.ensures
      c.in-Ok.ensures.entry;
  same = search rules;
}
