-- `lift` gives the row of the join: the member's, the other's, or the sign's row over both.
use Rattle.derive.proofs.Lifting.{lift_literal, lift_empty, lift_sound, lift_pair}
use Rattle.derive.proofs.rows.Rows.lift.Goals as goal

pub returns-then-side-eq0-clause-interns : goal.returns-then-side-eq0-clause-interns
returns-then-side-eq0-clause-interns c =
    lift_literal c.requires.fitted c.requires.other_lt_used c.args.side.join c.if-side-eq0.true

pub returns-then-member-eq0-clause-interns : goal.returns-then-member-eq0-clause-interns
returns-then-member-eq0-clause-interns c =
    lift_empty c.requires.fitted c.requires.other_lt_used c.args.side.join c.if-member-eq0.true

pub intern-requires-clause-sound : goal.intern-requires-clause-sound
intern-requires-clause-sound c =
    lift_sound c.requires.fitted c.requires.other_lt_used c.args.side.join c.joined.ensures

pub returns-clause-interns : goal.returns-clause-interns
returns-clause-interns c =
    lift_pair c.requires.fitted c.requires.other_lt_used c.args.side.join c.joined.ensures c.if-side-eq0.false c.if-member-eq0.false
    c.intern.ensures.interns
