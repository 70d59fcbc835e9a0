-- `take_line` stores the bytes that it takes up to a newline, as far as the column holds them.
use Rattle.std.proofs.Common.{arith}
use Rattle.std.proofs.lemmas.Result.{err_from_is_err_and}
use Rattle.lines.proofs.Taking.{next_as, stored_none, stored_byte, line_ended, line_full, line_last, line_failed}
use Rattle.lines.proofs.place.take_line.Goals as goal

pub loop-length-init : goal.loop-length-init
loop-length-init g c = stored_none c.requires

pub returns-in_err-byte : goal.returns-in_err-byte
returns-in_err-byte g c =
    let p = err_from_is_err_and c.from_residual.result c.from_residual.ensures.1 in
    rw (p.1, p.2) (line_failed c.loop-length.invariant c.take_byte.new.block c.in_err-byte.field-0.0 c.in_err-byte.ensures)

pub returns-in_default : goal.returns-in_default
returns-in_default g c =
    line_last c.loop-length.invariant
    (next_as c.loop-length.block c.loop-length.place c.take_byte.new.block c.in_default.is c.in_ok-byte.ensures)
    c.take_byte.auto.block c.loop-length-test.true c.last_line.ensures

pub returns-then-byte-eq10 : goal.returns-then-byte-eq10
returns-then-byte-eq10 g c =
    line_ended c.loop-length.invariant
    (next_as c.loop-length.block c.loop-length.place c.take_byte.new.block c.in-Some.is c.in_ok-byte.ensures)
    c.loop-length-test.true c.if-byte-eq10.true

pub loop-length-preserved : goal.loop-length-preserved
loop-length-preserved g c =
    stored_byte c.loop-length.invariant
    (next_as c.loop-length.block c.loop-length.place c.take_byte.new.block c.in-Some.is c.in_ok-byte.ensures)
    c.loop-length-test.true c.if-byte-eq10.false

pub returns : goal.returns
returns g c = line_full c.loop-length.invariant (omega (arith, c.loop-length-test.false, c.loop-length.invariant.column_length))
