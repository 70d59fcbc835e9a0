-- `turn` meets its contract: after i turns the first i words are handed over and cleared.
use Rattle.std.proofs.Common.{◌<◌, arith, rules, get_or}
use Prim.Native.Nat.{◌^◌}
use Rattle.sets.proofs.Turned.{turned_none, turned_more}
use Rattle.sets.proofs.turn.Goals as goal

pub loop-i-init : goal.loop-i-init
loop-i-init c = turned_none _ _

pub loop-i-preserved : goal.loop-i-preserved
loop-i-preserved c =
    let r = c.loop-i.invariant in
    let fits : get_or c.loop-i.next c.loop-i.i 0 < 2 ^ 64 = search rules in
    turned_more r (omega (arith, r.current_length)) (omega (arith, r.next_length)) fits
