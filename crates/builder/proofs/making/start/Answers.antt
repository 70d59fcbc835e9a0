-- `start` meets its contract, on its four ways out: no room for a row, none for the given expression's rows, none for a state, state 0.
use Rattle.std.proofs.Common.{◌∙◌, ap, arith, length-set}
use Rattle.theory.specs.Derivative.{empty_word}
use Rattle.theory.specs.Table.{tree_at}
use Rattle.builder.proofs.Meeting.{row_sound}
use Rattle.builder.proofs.Starting.{no_rows, no_states, given_sound, given_some, given_root, first_rows, start_short, start_stands}
use Rattle.builder.proofs.making.start.Goals as goal

pub returns-then-rows-eq0-clause-begun : goal.returns-then-rows-eq0-clause-begun
returns-then-rows-eq0-clause-begun c = λ n. no_rows _ _ c.if-rows-eq0.true

pub bounds-rows-0 : goal.bounds-rows-0
bounds-rows-0 c = let h = (c.requires.begins 0).rows_in in omega (arith, c.if-rows-eq0.false)

pub overflow_sub-given : goal.overflow_sub-given
overflow_sub-given c = omega (arith, given_some _ c.requires.right_value)

pub take_over-requires-clause-sound_to : goal.take_over-requires-clause-sound_to
take_over-requires-clause-sound_to c =
    let some = given_some _ c.requires.right_value in given_sound _ c.requires.right_value _ (omega arith)

pub take_over-requires-clause-fitted : goal.take_over-requires-clause-fitted
take_over-requires-clause-fitted c =
    let h = c.requires.begins 0 in
    let left = c.if-rows-eq0.false in
    record {
      rows = first_rows h c.number.ensures (omega arith);
      fits = omega arith;
      in_columns = simp length-set h.rows_in;
      small = h.rows_small;
    }

pub returns-in_err-row-clause-begun : goal.returns-in_err-row-clause-begun
returns-in_err-row-clause-begun c = λ n.
    start_short (c.requires.begins n) c.number.ensures (omega (arith, c.if-rows-eq0.false)) _ _ (given_root _ c.requires.right_value)
    c.in_err-row.ensures.takes.answer _ c.from_residual.ensures.0 _ _ _ _

pub empty_word-accepts-requires : goal.empty_word-accepts-requires
empty_word-accepts-requires c = rw c.view.ensures (let k = c.in_ok-row.ensures.takes.answer in row_sound k.came.grown.rows k.there)

pub add-requires-clause-spans : goal.add-requires-clause-spans
add-requires-clause-spans c = let h = c.requires.begins 0 in (h.states_in, h.accepting_in)

pub add-requires-clause-narrow : goal.add-requires-clause-narrow
add-requires-clause-narrow c =
    let k = c.in_ok-row.ensures.takes.answer in omega (arith, k.there, k.came.fits, (c.requires.begins 0).rows_small)

pub returns-in_err-add-clause-begun : goal.returns-in_err-add-clause-begun
returns-in_err-add-clause-begun c = λ n.
    no_states _ _ (omega (arith, c.in_err-add.ensures.added.0, c.requires.none)) _ c.from_residual-in_err-add.ensures.0 _ _ _ _

pub returns-clause-begun : goal.returns-clause-begun
returns-clause-begun c = λ n.
    start_stands (c.requires.begins n) c.number.ensures (omega (arith, c.if-rows-eq0.false)) _ _ (given_root _ c.requires.right_value) _ _ _ _ _ _ _ _
    c.requires.none c.in_ok-row.ensures.takes.answer
    (c.empty_word-accepts.ensures ∙ ap (λ t. empty_word (tree_at t c.in_ok-row.row)) c.view.ensures) c.in_ok-add.ensures.added
