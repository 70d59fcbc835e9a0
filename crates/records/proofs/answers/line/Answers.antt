-- `line` puts the word and the number, which have room.
use Rattle.std.proofs.Common.{arith, rules}
use Rattle.theory.specs.Lines.{newline}
use Rattle.lines.proofs.Putting.{put_length, number_short, number_long}
use Rattle.records.proofs.answers.line.Goals as goal

pub number-requires : goal.number-requires
number-requires g c = (
  search rules,
  let said = put_length c.args.output.now c.args.word.now c.word.ensures in
      let short = number_short c.args.n newline c.ranges.n.fits in
      omega (arith, c.requires),
)

pub returns-clause-upper_bound : goal.returns-clause-upper_bound
returns-clause-upper_bound g c =
    let said = put_length c.args.output.now c.args.word.now c.word.ensures in
    let numbered = number_long c.word.new.self c.args.n newline c.ranges.n.fits c.number.ensures in
    omega arith
