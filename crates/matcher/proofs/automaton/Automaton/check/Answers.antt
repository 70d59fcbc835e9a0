-- `check` meets its contract: each way out is one case of the refusal's tests.
use Rattle.columns.specs.Work.{lent_work}
use Rattle.matcher.specs.Automaton.{handed_over}
use Rattle.matcher.proofs.Checking.{uneven, malformed, too_short, unrefused}
use Rattle.matcher.proofs.automaton.Automaton.check.Goals as goal

pub returns-then-not-is_even : goal.returns-then-not-is_even
returns-then-not-is_even c = uneven (handed_over c.args.self) (lent_work c.args.work.now) c.is_even.ensures c.if-not-is_even.true

pub returns-then-not-is_well_formed : goal.returns-then-not-is_well_formed
returns-then-not-is_well_formed c =
    malformed (handed_over c.args.self) (lent_work c.args.work.now) c.is_even.ensures c.if-not-is_even.false c.is_well_formed.ensures
    c.if-not-is_well_formed.true

pub returns-then-work-words : goal.returns-then-work-words
returns-then-work-words c =
    too_short (handed_over c.args.self) (lent_work c.args.work.now) c.is_even.ensures c.if-not-is_even.false c.is_well_formed.ensures
    c.if-not-is_well_formed.false c.words-words.ensures c.if-work-words.true

pub returns : goal.returns
returns c =
    unrefused (handed_over c.args.self) (lent_work c.args.work.now) c.is_even.ensures c.if-not-is_even.false c.is_well_formed.ensures
    c.if-not-is_well_formed.false c.words-words.ensures c.if-work-words.false
