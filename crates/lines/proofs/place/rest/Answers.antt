-- `rest` passes over the bytes up to a newline.
use Rattle.std.proofs.Common.{length, ◌≤◌, arith, rules}
use Rattle.std.proofs.lemmas.Result.{err_from_is_err_and}
use Rattle.lines.proofs.Taking.{next_as, passing_none, passing_byte, rest_ended, rest_last, rest_failed, rest_endless}
use Rattle.lines.proofs.place.rest.Goals as goal

pub loop-init : goal.loop-init
loop-init g c = passing_none c.requires

pub returns-in_err-byte : goal.returns-in_err-byte
returns-in_err-byte g c =
    let p = err_from_is_err_and c.from_residual.result c.from_residual.ensures.1 in
    rw (p.1, p.2) (rest_failed c.loop.invariant c.take_byte.new.block c.in_err-byte.field-0.0 c.in_err-byte.ensures)

pub returns-in_default : goal.returns-in_default
returns-in_default g c =
    rest_last c.loop.invariant (next_as c.loop.block c.loop.place c.take_byte.new.block c.in_default.is c.in_ok-byte.ensures)
    c.take_byte.auto.block

pub returns-then-byte-eq10 : goal.returns-then-byte-eq10
returns-then-byte-eq10 g c =
    rest_ended c.loop.invariant (next_as c.loop.block c.loop.place c.take_byte.new.block c.in-Some.is c.in_ok-byte.ensures)
    c.if-byte-eq10.true

pub loop-preserved : goal.loop-preserved
loop-preserved g c =
    passing_byte c.loop.invariant (next_as c.loop.block c.loop.place c.take_byte.new.block c.in-Some.is c.in_ok-byte.ensures)
    c.if-byte-eq10.false

pub returns : goal.returns
returns g c =
    let few : length c.args.block.now ≤ 18446744073709551615 = search rules in
    rest_endless c.loop.invariant c.requires (omega (arith, c.loop-test.false))
