-- `take_byte` takes the next byte of the block, or fills the block, and takes the first byte that came.
use Rattle.std.proofs.Common.{ℕ, Option, Ok, ◌<◌, subst, arith}
use Rattle.lines.specs.Place.{Fills}
use Rattle.lines.proofs.Taking.{nothing_left, taken_here, taken_read}
use Rattle.lines.proofs.place.take_byte.Goals.{then-place+in_ok-end+in-Some, else-place}
use Rattle.lines.proofs.place.take_byte.Goals as goal

pub returns : goal.returns
returns g c =
    elim c.if-place.branch [
      | then-place+in_ok-end+in-Some w ↦
          let none = nothing_left c.args.block.now c.args.place w.if-place.true in
          let came = subst (λ (r : Option ℕ). Fills (Ok r) w.fill.new.block) w.in-Some.is w.in_ok-end.ensures in
          rw (w.block-is, w.place-is) (
            record { ordered = omega (arith, came.0); within = came.1 },
            taken_read w.fill.new.block none came.0 came.1,
          )
      | else-place w ↦
          let more : c.args.place.at < c.args.place.end = omega (arith, w.if-place.false, c.requires.ordered) in
          rw (w.block-is, w.place-is) (
            record { ordered = omega (arith, more); within = c.requires.within },
            taken_here c.args.block.now more c.requires.within,
          )
    ]
