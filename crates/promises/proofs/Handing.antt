-- A table that builds hands over to the matcher the automaton of its tree, zero beyond it: a record is then judged, and accepted exactly when it
-- is a word of the tree's language. Leans on `Filled` and `Accepts` of the theory, and on the causes of both calls.
use Prim.Native.Nat.{ℕ, ◌≤◌}
use native.Mathlib.Omega.{arith, by_contra}
use mathlib.Core.Path.{◌≡◌, refl, sym, ap, ap₂, ◌∙◌, subst}
use mathlib.Core.Logic.Iff
use mathlib.Core.Logic.{◌↔◌}
use mathlib.Core.List.{List}
use lib.ListN.{length, take}
use Rattle.theory.specs.Refusal.{Refusal, success, room_small}
use Rattle.theory.specs.Language.{Word, In}
use Rattle.theory.specs.Table.{Table, tree}
use Rattle.theory.specs.Automaton.{states, accepting, expressions, arcs}
use Rattle.theory.specs.Build.{Lent, Counts, Built, build_refusal, state_room, arc_room, EvenLent, OverRoom, of_states, of_arcs}
use Rattle.theory.specs.Arcs.{used}
use Rattle.theory.specs.Record.{Handed, handed, automaton, accepted, verdict, live, WellFormedAutomaton, Work, matcher_refusal}
use Rattle.theory.specs.Judge.{Judgement, Judged, judgement, given}
use Rattle.theory.proofs.WellFormed.{tree_lettered}
use Rattle.theory.proofs.Answers.{counts_built, judgement_given}
use Rattle.theory.proofs.Column.{take_filled}
use Rattle.theory.proofs.Verdicts.{verdict_says}
use Rattle.theory.proofs.Accepts.{accepting_length, IsAutomaton, accepted_language, verdict_own, live_own, automaton_is}
use Rattle.theory.proofs.Filled.{filled_up, filled_even, filled_well_formed, filled_is}
use Rattle.promises.specs.Table.{WellFormed}
use Rattle.promises.specs.Builder.{BuilderCause, differ, table, room, none}
use Rattle.promises.specs.Matcher as Matching
use Rattle.promises.specs.Matcher.{TooShort, after_build}
use Rattle.promises.specs.DemandTwo.{HeldBy}
use Rattle.promises.proofs.Tested.{table_is}
use Rattle.promises.proofs.Causes.Builder.{builder_caused, builder_due, builder_number}
use Rattle.promises.proofs.Causes.Table.{table_numbered}
use Rattle.promises.proofs.Causes.Matcher.{never_malformed, matcher_due, matcher_answers}
use Rattle.promises.proofs.JudgesSo.{given_accepted}

-- What a build without refusal had: even columns, a well-formed table, and room.
had : {g : Table} {c : Lent} {r : Refusal} → BuilderCause g c r → r.number ≡ 0 → EvenLent c × WellFormed g × ¬ OverRoom (tree g) c
had (differ n) z = absurd (omega arith)
had (table v t n) z = absurd (n z)
had (room v w o) z = absurd (omega arith)
had (none v w n) z = (v, w, n)

short_of_room : {g : Table} {c : Lent} {r : Refusal} → BuilderCause g c r → r.number ≡ room_small → EvenLent c × WellFormed g × OverRoom (tree g) c
short_of_room (differ n) z = absurd (omega arith)
short_of_room {g} (table v t n) z = absurd (let l = table_numbered g t in omega arith)
short_of_room (room v w o) z = (v, w, o)
short_of_room (none v w n) z = absurd (omega arith)

module _ {g : Table} {c : Lent} {answer : Counts} {c' : Lent} (h : Built g c answer c') (built : answer.refusal.number ≡ 0) where
  clear : (build_refusal g c).number ≡ 0
  clear = sym (builder_number h) ∙ built

  even : EvenLent c
  even = (had (builder_caused g c) clear).0

  well : WellFormed g
  well = (had (builder_caused g c) clear).1

  room_enough : (length (states (tree g)) ≤ state_room c) × (length (arcs (tree g)) ≤ arc_room c)
  room_enough =
      let n = (had (builder_caused g c) clear).2 in
      (by_contra _ _ (λ l. n (of_states l)), by_contra _ _ (λ l. n (of_arcs l)))

  answered : answer
      ≡ record { refusal = success; states = length (states (tree g)); expressions = length (expressions (tree g)); arcs = length (arcs (tree g)) }
  answered = h.answers ∙ counts_built g c clear

  -- The counts are within what was lent.
  pub counts_within : (answer.states ≤ state_room c) × (answer.arcs ≤ arc_room c)
  counts_within = rw answered room_enough

  -- What is handed over is the automaton of the tree, with zeros after it.
  abbrev left : Handed
  left = filled_up (tree g) (length c.accepting) c.arcs

  handed_over : after_build answer c' ≡ left
  handed_over = let s = h.stands clear in λ i. handed (answered i).states (s.accepting i) (answered i).arcs (s.arcs i)

  few_arcs : length (arcs (tree g)) ≤ length c.arcs.from
  few_arcs = let l = room_enough.1 in omega arith

  well_handed : WellFormedAutomaton left
  well_handed = let (s, a) = room_enough in filled_well_formed (tree g) (length c.accepting) c.arcs (omega arith) (omega arith)

  own : IsAutomaton (tree g) left
  own = filled_is (tree g) (length c.accepting) c.arcs

  module _ {w : Word} {k k' : Work} {a : Judgement} (j : Judged (after_build answer c') w k a k') (enough : ¬ TooShort k answer.states) where
    not_refused : matcher_refusal left k ≡ success
    not_refused =
        matcher_due left k
        (Matching.none (filled_even c.arcs (arcs (tree g)) even.arcs few_arcs) (never_malformed left well_handed)
        (subst (λ (x : Counts). ¬ TooShort k x.states) answered enough))

    judged : a ≡ given (verdict left w) (live left w)
    judged =
        j.answers ∙ ap (λ (x : Handed). judgement x k w) handed_over
        ∙ judgement_given left k w (ap (λ (r : Refusal). r.number) not_refused)

    pub accepted_exactly : (a.refusal ≡ success) × ((a.verdict ≡ 1) ↔ In (tree g) w)
    accepted_exactly = (
      matcher_answers j ∙ ap (λ (x : Handed). matcher_refusal x k) handed_over ∙ not_refused,
      subst (λ (x : Judgement). (x.verdict ≡ 1) ↔ In (tree g) w) (sym judged)
          (Iff.trans (given_accepted (live left w) (verdict left w))
          (Iff.trans (verdict_says left w accepted) (accepted_language own (tree_lettered ((table_is g).1 well)) w))),
    )

    pub own_verdict : a ≡ given (verdict (automaton (tree g)) w) (live (automaton (tree g)) w)
    own_verdict = judged ∙ ap₂ given (verdict_own own (automaton_is (tree g)) w) (live_own own (automaton_is (tree g)) w)

  -- The used part of the columns.
  pub held : HeldBy answer c' (tree g)
  held =
      let e = tree g in
      let s = h.stands clear in
      let flags = accepting e in
      subst (λ (x : Counts). HeldBy x c' e) (sym answered)
      (record {
        as_many = refl;
        named = s.expression.named;
        marks =
            ap₂ (λ (n : ℕ) (xs : List ℕ). take n xs) (sym (accepting_length e)) s.accepting ∙ take_filled (length c.accepting) flags;
        arcs = ap (λ x. used (record { count = length (arcs e); columns = x })) s.arcs ∙ own.arcs;
        once = s.rows.once;
        all = s.rows.all;
        only = s.rows.only;
      })

pub refused_exactly : {g : Table} {c : Lent} {answer : Counts} {c' : Lent} → Built g c answer c'
    → (answer.refusal.number ≡ room_small) ↔ (EvenLent c × WellFormed g × OverRoom (tree g) c)
refused_exactly {g} {c} h = (
  λ q. short_of_room (builder_caused g c) (sym (builder_number h) ∙ q),
  λ (v, w, o). builder_number h ∙ ap (λ (r : Refusal). r.number) (builder_due g c (room v w o)),
)
