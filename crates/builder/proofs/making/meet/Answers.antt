-- `meet` meets its contract: a state that stands and the arc to it, a new state and the arc to it, or no room for one of them.
use Rattle.std.proofs.Common.{◌∙◌, refl, ap}
use Rattle.theory.specs.Derivative.{empty_word}
use Rattle.theory.specs.Table.{tree_at}
use Rattle.builder.proofs.Meeting.{row_sound, met_known, met_new, no_state}
use Rattle.builder.proofs.making.meet.Goals as goal

pub returns-in-Some-clause-met : goal.returns-in-Some-clause-met
returns-in-Some-clause-met c = met_known c.requires.ready c.requires.meets c.in-Some.ensures _ _ _ c.add.ensures.added

pub empty_word-requires : goal.empty_word-requires
empty_word-requires c = rw c.view.ensures (row_sound c.requires.ready.progress.rows c.requires.meets.row)

pub returns-in_err-j-clause-met : goal.returns-in_err-j-clause-met
returns-in_err-j-clause-met c =
    no_state c.requires.ready c.requires.meets c.in_default.ensures c.in_err-j.ensures.added.0 _ c.from_residual.ensures.0 refl

pub returns-clause-met : goal.returns-clause-met
returns-clause-met c =
    met_new c.requires.ready c.requires.meets c.in_default.ensures
    (c.empty_word.ensures ∙ ap (λ t. empty_word (tree_at t c.args.row)) c.view.ensures) c.in_ok-j.ensures.added _ _ _ c.add-3.ensures.added
