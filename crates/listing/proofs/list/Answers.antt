-- `list` puts the listing of the text's expression, or the refusal's line.
use Rattle.std.proofs.Common.{refl, ap, ◌∙◌, ◌++◌, length, get_or, arith, rules}
use Rattle.theory.specs.Arcs.{ArcColumns}
use Rattle.site.proofs.Judging.{built_from}
use Rattle.listing.specs.Listing.{arc_lines}
use Rattle.listing.proofs.Printing.{lists_refusal, lists_automaton, few_states, few_arcs, narrow}
use Rattle.listing.proofs.list.Goals as goal

pub arcs-requires : goal.arcs-requires
arcs-requires g c =
    let b = built_from c.in-Ok.ensures.made refl in
    let few = few_arcs b in
    let below = narrow b in
    let kept = c.in-Ok.ensures.same in
    let from = ap (λ (a : ArcColumns). length a.from) c.view.ensures in
    let letter = ap (λ (a : ArcColumns). length a.letter) c.view.ensures in
    let to = ap (λ (a : ArcColumns). length a.to) c.view.ensures in (
      search rules,
      (
        (
          omega (arith, c.requires, few),
          omega (arith, kept.from.length, kept.to.length, from, to, few),
          omega (arith, kept.letter.length, letter, few),
          omega (arith, kept.from.length, kept.to.length, from, to, few),
        ),
        record {
          from = λ i l.
              let from = ap (λ (a : ArcColumns). get_or a.from i 0) c.view.ensures in
              let to = ap (λ (a : ArcColumns). get_or a.to i 0) c.view.ensures in omega (arith, below.from i l, below.to i l, from, to);
          to = λ i l.
              let from = ap (λ (a : ArcColumns). get_or a.from i 0) c.view.ensures in
              let to = ap (λ (a : ArcColumns). get_or a.to i 0) c.view.ensures in omega (arith, below.from i l, below.to i l, from, to);
        },
      ),
    )

pub states-requires : goal.states-requires
states-requires g c =
    let b = built_from c.in-Ok.ensures.made refl in
    let few = few_states b in
    let arcs = few_arcs b in (
      search rules,
      (omega (arith, c.arcs.ensures.upper_bound, c.requires, few, arcs), omega (arith, c.automaton.auto.accepting, few), omega (arith, few)),
    )

pub returns-in-Err : goal.returns-in-Err
returns-in-Err g c = lists_refusal c.in-Err.ensures.made c.refused.ensures.put

pub returns-in-Ok : goal.returns-in-Ok
returns-in-Ok g c =
    let put = c.arcs.ensures.put ∙ ap (λ (a : ArcColumns). c.args.output.now ++ arc_lines a c.in-Ok.site.arcs) c.view.ensures in
    lists_automaton c.in-Ok.ensures.made (built_from c.in-Ok.ensures.made refl) put c.states.ensures.put (omega arith)
