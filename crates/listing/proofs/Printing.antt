-- From what the site made to the answer of the listing program. Leans on `Listed`, and on the site's laws of what it refuses and builds.
use Prim.Native.Nat.{ℕ, ◌≤◌}
use native.Mathlib.Omega.{arith}
use mathlib.Core.Path.{◌≡◌, refl, sym, ap, ◌∙◌}
use mathlib.Core.List.{List, ◌++◌, append_assoc}
use lib.ListN.{length, get_or}
use Rattle.std.specs.Prelude.{Err}
use Rattle.theory.specs.Limit.{most_states}
use Rattle.theory.specs.Refusal.{Refusal}
use Rattle.theory.specs.Automaton.{states}
use Rattle.theory.specs.Arcs.{ArcColumns}
use Rattle.theory.specs.Grammar.{Text, Reading}
use Rattle.theory.specs.Lines.{listing, refusal_line}
use Rattle.theory.proofs.Filled.{filled_well_formed}
use Rattle.lines.specs.declared.failure.Failure.{Failure}
use Rattle.lines.specs.declared.failure.Failure.TheVariants.{Read, Write}
use Rattle.lines.specs.Input.{Input, Took}
use Rattle.theory.specs.Rooms
use Rattle.theory.specs.Report.{Report, withheld, needs}
use Rattle.site.specs.Site.{Shown, site_refusal, holding, Made}
use Rattle.site.proofs.Fitting.{Fits, fitting}
use Rattle.site.proofs.Making.{unless_none, unless_some}
use Rattle.site.proofs.Judging.{BuiltFrom}
use Rattle.site.proofs.Telling.{RefusedBy, unread, no_room, refused_by}
use Rattle.listing.specs.Listing.{Narrow, arc_lines, state_lines, own_columns, printed, Lists, Answers, no_line}
use Rattle.listing.proofs.Listed.{listed}

-- ---- A refusal

refusal_printed : {q : Reading} {r : Refusal} → RefusedBy own_columns r q → refusal_line r ≡ printed q
unfolding printed
refusal_printed unread = refl
refusal_printed (no_room {e} p over) = ap refusal_line p ∙ sym (unless_some (site_refusal e own_columns) _ _ over)

pub lists_refusal : {text : Text} {r : Refusal} {s' : Shown} {before after : List ℕ} → Made text own_columns (withheld r) s'
    → after ≡ before ++ refusal_line r → Lists text before after
lists_refusal {r = r} h p = record {
  bytes = refusal_line r;
  printed = record { reading = h.reading; due = h.due; is = refusal_printed (refused_by h) };
  put = p;
}

-- ---- A listing

module _ {text : Text} {q : Reading} {answer : Report} {s' : Shown} (b : BuiltFrom text q own_columns answer s') where
  few : Fits b.read_as.expression own_columns
  few = fitting b.read_as.expression own_columns b.fits

  pub few_states : answer.states ≤ Rooms.states
  unfolding needs
  few_states = let n = ap (λ (a : Report). a.states) b.counts in let l = few.few_states in omega arith

  pub few_arcs : answer.arcs ≤ Rooms.arcs
  unfolding needs
  few_arcs = let n = ap (λ (a : Report). a.arcs) b.counts in let l = few.few_arcs in omega arith

  -- The arcs lead from state to state.
  pub narrow : Narrow s'.arcs answer.arcs
  unfolding needs holding
  narrow =
      let e = b.read_as.expression in
      let small : length (states e) ≤ most_states = let l = few.few_states in omega arith in
      let well = filled_well_formed e Rooms.states own_columns.arcs small few.most in
      let n = ap (λ (a : Report). a.arcs) b.counts in
      let c = ap (λ (s : Shown). s.arcs) b.holds in
      let room = few.few_states in
      record {
        from = λ i l. let k = well.from_below i (omega arith) in let same = ap (λ (x : ArcColumns). get_or x.from i 0) c in omega arith;
        to = λ i l. let k = well.to_below i (omega arith) in let same = ap (λ (x : ArcColumns). get_or x.to i 0) c in omega arith;
      }

  listing_is : arc_lines s'.arcs answer.arcs ++ state_lines s'.accepting answer.states ≡ listing b.read_as.expression
  unfolding needs holding
  listing_is =
      (λ i. arc_lines (b.holds i).arcs (b.counts i).arcs ++ state_lines (b.holds i).accepting (b.counts i).states)
      ∙ listed b.read_as.expression Rooms.states own_columns.arcs

  printed_is : listing b.read_as.expression ≡ printed q
  unfolding printed
  printed_is =
      sym (unless_none (site_refusal b.read_as.expression own_columns) _ _ b.fits) ∙ sym (ap printed b.read_as.is)

pub lists_automaton : {text : Text} {answer : Report} {s' : Shown} (h : Made text own_columns answer s')
    → BuiltFrom text h.reading own_columns answer s' → {before between after : List ℕ} → between ≡ before ++ arc_lines s'.arcs answer.arcs
    → {n : ℕ} → after ≡ between ++ state_lines s'.accepting n → n ≡ answer.states → Lists text before after
lists_automaton {answer = answer} {s'} h b {before} {between} p q e = record {
  bytes = listing b.read_as.expression;
  printed = record { reading = h.reading; due = h.due; is = printed_is b };
  put =
      q ∙ ap (λ (m : ℕ). between ++ state_lines s'.accepting m) e ∙ ap (λ (x : List ℕ). x ++ state_lines s'.accepting answer.states) p
      ∙ append_assoc before (arc_lines s'.arcs answer.arcs) (state_lines s'.accepting answer.states)
      ∙ ap (λ (x : List ℕ). before ++ x) (listing_is b);
}

-- ---- Where no line is taken

-- No line was taken where a read failed.
pub none_taken : {input input' : Input} {column : List ℕ} (f : Failure) → Took input (Err f) input' column → Answers input (Err f) input'
none_taken Read t = no_line t.holds.0 t.holds.1
none_taken Write t = absurd t.holds
