-- The line of a state has room.
use Rattle.std.proofs.Common.{arith, rules}
use Rattle.theory.specs.Lines.{newline}
use Rattle.listing.proofs.Bytes.{short_number}
use Rattle.listing.proofs.state.Goals as goal

pub number-requires : goal.number-requires
number-requires g c =
    let short = short_number c.args.state newline (omega (arith, c.requires)) in (search rules, omega (arith, c.requires))
