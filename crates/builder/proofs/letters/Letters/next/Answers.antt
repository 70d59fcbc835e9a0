-- `next` meets its contract: the letter found is the first that is marked above `after`.
use Rattle.std.proofs.Common.{arith}
use Rattle.builder.specs.Letters.{used}
use Rattle.builder.proofs.letters.Letters.next.Goals as goal

pub returns-then-marks-a : goal.returns-then-marks-a
unfolding used
returns-then-marks-a c =
    let inv = c.loop-a.invariant in
    (inv.0, omega (arith, c.loop-a-test.true), c.if-marks-a.true, inv.1)

pub returns : goal.returns
unfolding used
returns c = λ b above most. c.loop-a.invariant.1 b above (omega (arith, c.loop-a-test.false))
