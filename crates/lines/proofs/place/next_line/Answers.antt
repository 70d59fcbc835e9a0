-- `next_line` takes a line as far as the column holds it, and passes over its rest.
use Rattle.std.proofs.Common.{arith}
use Rattle.std.proofs.lemmas.Result.{err_from_is_err_and}
use Rattle.lines.proofs.WholeLine.{took_full, with_rest, without_rest}
use Rattle.lines.proofs.place.next_line.Goals as goal

pub returns-in_err-after-in-Some-Full-default : goal.returns-in_err-after-in-Some-Full-default
returns-in_err-after-in-Some-Full-default g c =
    let line = c.in-Some-Full-default in
    let t = took_full c.args.block.now c.args.place c.take_line.new.block c.take_line.new.column line.is line.field-0-0-is c.in_ok-taken.ensures in
    let failed = c.from_residual-in_err-after-in-Some-Full-default in
    let p = err_from_is_err_and failed.result failed.ensures.1 in
    rw (p.1, p.2) (without_rest t c.in_err-after-in-Some-Full-default.field-0.0 c.in_err-after-in-Some-Full-default.ensures)

pub returns-in_ok-after-in-Some-Full-default : goal.returns-in_ok-after-in-Some-Full-default
returns-in_ok-after-in-Some-Full-default g c =
    let line = c.in-Some-Full-default in
    let t = took_full c.args.block.now c.args.place c.take_line.new.block c.take_line.new.column line.is line.field-0-0-is c.in_ok-taken.ensures in
    with_rest t (omega (arith, c.requires.1, c.take_line.auto.column)) c.in_ok-after-in-Some-Full-default.ensures
