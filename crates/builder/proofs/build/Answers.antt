-- `build` meets its contract, on its three ways out: a refusal of 1 to 8, the automaton, refusal 9.
use Rattle.std.proofs.Common.{ap}
use Rattle.std.proofs.lemmas.Result.{err_from_is_err_and}
use Rattle.theory.specs.Refusal as paper
use Rattle.builder.proofs.Lengths.{lengths_of, lengths_after, cleared_lengths, cleared_as}
use Rattle.builder.proofs.Owed.{as_tested, passed, cleared_blank, built_refused, built_short, built_whole}
use Rattle.builder.proofs.build.Goals as goal

pub returns-in_err-checked-clause-built : goal.returns-in_err-checked-clause-built
returns-in_err-checked-clause-built c =
    let p = err_from_is_err_and c.from_residual.result c.from_residual.ensures.1 in
    rw (p.1, p.2) (built_refused _ (as_tested _ _ c.are_even-even.ensures c.in_err-checked.ensures) c.clear.ensures.cleared)

pub make-requires-clause-right_value : goal.make-requires-clause-right_value
make-requires-clause-right_value c =
    let fine = passed _ _ (as_tested _ _ c.are_even-even.ensures c.in_ok-checked.ensures) in ap (λ (r : paper.Refusal). r.number) fine.1

pub make-requires-clause-blank : goal.make-requires-clause-blank
make-requires-clause-blank c =
    let fine = passed _ _ (as_tested _ _ c.are_even-even.ensures c.in_ok-checked.ensures) in cleared_blank fine.0 c.clear.ensures.cleared

pub returns-in_default-clause-built : goal.returns-in_default-clause-built
returns-in_default-clause-built c =
    let fine = passed _ _ (as_tested _ _ c.are_even-even.ensures c.in_ok-checked.ensures) in
    built_short _ fine c.clear.ensures.cleared c.in_default.ensures.reaches
    (cleared_as
    (lengths_after (cleared_lengths c.clear.ensures.cleared) (lengths_of c.make.ensures.same_rows c.make.ensures.same_states c.make.ensures.same_arcs))
    c.clear-in_default.ensures.cleared)

pub returns-clause-built : goal.returns-clause-built
returns-clause-built c =
    let fine = passed _ _ (as_tested _ _ c.are_even-even.ensures c.in_ok-checked.ensures) in
    let g = c.in-Ok.ensures.reaches.goes in
    built_whole _ fine c.clear.ensures.cleared g.0 g.1
    (lengths_after (cleared_lengths c.clear.ensures.cleared) (lengths_of c.make.ensures.same_rows c.make.ensures.same_states c.make.ensures.same_arcs))
