-- `walk` meets its contract: at each place the states of the bytes before it are set.
use Rattle.std.proofs.Common.{sym}
use Rattle.columns.proofs.ByteAt.{step_byte, step_end}
use Rattle.matcher.proofs.Walk.{walk_at, walk_start, walk_whole, one_byte, walk_more, walk_dead}
use Rattle.matcher.proofs.moves.walk.Goals as goal

pub loop-byte-init : goal.loop-byte-init
loop-byte-init c = walk_at (sym c.start-cursor.ensures) (walk_start c.requires.ready)

pub returns-clause-ended : goal.returns-clause-ended
returns-clause-ended c = walk_whole c.loop-byte.invariant (step_end c.args.«record».now c.loop-byte.cursor.at c.step.ensures c.in_default.is)

pub returns-then-not-turn-clause-ended : goal.returns-then-not-turn-clause-ended
returns-then-not-turn-clause-ended c =
    let r = c.loop-byte.invariant in
    let here = step_byte c.args.«record».now c.loop-byte.cursor.at c.step.ensures c.in-Some.is in
    walk_dead r here.inside
    (one_byte c.requires.checked r c.words-words.ensures here.here c.spread.new.next c.spread.ensures c.turn.ensures.handed
    c.turn.ensures.cleared c.turn.ensures.set) c.if-not-turn.true

pub loop-byte-preserved : goal.loop-byte-preserved
loop-byte-preserved c =
    let r = c.loop-byte.invariant in
    let here = step_byte c.args.«record».now c.loop-byte.cursor.at c.step.ensures c.in-Some.is in
    walk_at (sym here.next)
    (walk_more r here.inside
    (one_byte c.requires.checked r c.words-words.ensures here.here c.spread.new.next c.spread.ensures c.turn.ensures.handed
    c.turn.ensures.cleared c.turn.ensures.set) c.if-not-turn.false)
