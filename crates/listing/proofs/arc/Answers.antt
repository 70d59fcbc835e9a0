-- `arc` puts three short numbers.
use Rattle.std.proofs.Common.{arith, rules}
use Rattle.theory.specs.Lines.{space, newline}
use Rattle.listing.proofs.Bytes.{short_number, short_put}
use Rattle.listing.proofs.arc.Goals as goal

pub number-requires-2 : goal.number-requires-2
number-requires-2 g c =
    let from = short_put c.args.output.now _ space (omega (arith, c.requires)) c.number.ensures in
    let to = short_number c.args.to space (omega (arith, c.requires)) in
    (search rules, omega (arith, c.requires))

pub number-requires-3 : goal.number-requires-3
number-requires-3 g c =
    let from = short_put c.args.output.now _ space (omega (arith, c.requires)) c.number.ensures in
    let to = short_put c.number.new.self _ space (omega (arith, c.requires)) c.number-2.ensures in
    let letter = short_number c.args.letter newline (omega (arith, c.ranges)) in
    (search rules, omega (arith, c.requires))

pub returns-clause-upper_bound : goal.returns-clause-upper_bound
returns-clause-upper_bound g c =
    let from = short_put c.args.output.now _ space (omega (arith, c.requires)) c.number.ensures in
    let to = short_put c.number.new.self _ space (omega (arith, c.requires)) c.number-2.ensures in
    let letter = short_put c.number-2.new.self _ newline (omega (arith, c.ranges)) c.number-3.ensures in
    omega arith
