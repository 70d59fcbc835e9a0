-- The automaton that a site holds is that of the expression that its text writes, and a record judged over it is accepted exactly when it is in
-- that expression's language. Leans on `Handing` of the theory, and on `unambiguous`: no text is written for two expressions.
use Prim.Native.Nat.{◌≤◌}
use native.Mathlib.Decide.{ℕ_discrete}
use native.Mathlib.Omega.{arith}
use mathlib.Core.Path.{◌≡◌, refl, sym, ap, ◌∙◌, subst}
use lib.ListN.{length}
use Rattle.theory.specs.Expression.{Expression}
use Rattle.theory.specs.Limit.{most_states}
use Rattle.theory.specs.Refusal.{Refusal}
use Rattle.theory.specs.Language.{Word}
use Rattle.theory.specs.Automaton.{states}
use Rattle.theory.specs.Table.{columns}
use Rattle.theory.specs.Grammar.{Text, Reading, read, refused, rows, written, Writable}
use Rattle.theory.specs.Read.{entered}
use Rattle.theory.specs.Record.{Handed, handed, Work, LongEnough}
use Rattle.theory.specs.Judge.{Judgement, Judged}
use Rattle.theory.proofs.Expressed.{Expressed, expressed}
use Rattle.theory.proofs.Grammar.{unambiguous}
use Rattle.theory.proofs.Handing.{judged_so, accepted_exactly}
use Rattle.theory.proofs.Rows.{rows_tree, rows_refused_never}
use Rattle.theory.proofs.WellFormed.{Lettered, well_formed, tree_lettered}
use Rattle.theory.specs.Rooms
use Rattle.theory.specs.Report.{Report, needs}
use Rattle.site.specs.Site.{Shown, site_refusal, answered, holding, left_in, Made}
use Rattle.site.specs.Sited.{automaton_in, Sited, OfText, Judges, JudgedOver}
use Rattle.site.proofs.Fitting.{Fits, fitting}
use Rattle.site.proofs.Making.{answered_built, answered_refused, left_built}

-- ---- What was made without refusal

-- A reading that leads to no refusal is no refusal.
read_on : (q : Reading) (s : Shown) → (answered q s).refusal.number ≡ 0 → (entered q).refusal.number ≡ 0
unfolding answered
read_on (read e) s z = refl
read_on (refused r) s z = z

-- What a site without refusal made: of the expression that was read, its automaton in the columns.
pub record BuiltFrom (text : Text) (q : Reading) (s : Shown) (answer : Report) (s' : Shown) : Type 0 where
  pub read_as : Expressed text q
  pub fits : (site_refusal read_as.expression s).number ≡ 0
  pub counts : answer ≡ needs read_as.expression
  pub holds : s' ≡ holding read_as.expression s

module _ {text : Text} {s : Shown} {answer : Report} {s' : Shown} (h : Made text s answer s') (z : answer.refusal.number ≡ 0) where
  pub built_from : BuiltFrom text h.reading s answer s'
  built_from =
      let x = expressed h.due (read_on h.reading s (sym (ap (λ (a : Report). a.refusal.number) h.answers) ∙ z)) in
      let a = h.answers ∙ ap (λ (q : Reading). answered q s) x.is in
      let f = fits x.expression a in
      record {
        read_as = x;
        fits = f;
        counts = a ∙ answered_built x.expression s f;
        holds = h.leaves ∙ ap (λ (q : Reading). left_in q s) x.is ∙ left_built x.expression s f;
      }
    where
      fits : (e : Expression) → answer ≡ answered (read e) s → (site_refusal e s).number ≡ 0
      fits e a = elim (ℕ_discrete (site_refusal e s).number 0) [
        | yes y ↦ y
        | no n ↦ absurd (n (sym (ap (λ (b : Report). b.refusal.number) (a ∙ answered_refused e s n)) ∙ z))
      ]

pub handed_is : {text : Text} {q : Reading} {s : Shown} {answer : Report} {s' : Shown} (b : BuiltFrom text q s answer s')
    → handed answer.states s'.accepting answer.arcs s'.arcs ≡ automaton_in b.read_as.expression s
unfolding automaton_in holding needs
handed_is b = λ i. handed (b.counts i).states (b.holds i).accepting (b.counts i).arcs (b.holds i).arcs

pub sited : {text : Text} {q : Reading} {s : Shown} {answer : Report} {s' : Shown} → BuiltFrom text q s answer s'
    → Sited text (handed answer.states s'.accepting answer.arcs s'.arcs)
sited {s = s} b = record {
  expression = b.read_as.expression;
  writable = b.read_as.writable;
  spelled = b.read_as.spelled;
  few_entries = b.read_as.fits;
  lent = s;
  fits = b.fits;
  is = handed_is b;
}

-- ---- A record over it

-- No text is written for two expressions.
pub of_text : {text : Text} (x : Expression) → Writable x → written x ≡ text → (P : Expression → Type 0) → P x → OfText text P
of_text x w q P p e w' q' = subst P (unambiguous x e w w' (q ∙ sym q')) p

module _ {text : Text} {h : Handed} (x : Sited text h) where
  lettered : Lettered x.expression
  lettered =
      let faultless = rows_refused_never x.expression x.writable x.few_entries in
      subst Lettered (rows_tree x.expression)
      (tree_lettered (well_formed (columns (rows 0 x.expression)) (ap (λ (r : Refusal). r.number) faultless)))

  few : Fits x.expression x.lent
  few = fitting x.expression x.lent x.fits

  pub states_is : h.states ≡ length (states x.expression)
  unfolding automaton_in
  states_is = ap (λ (k : Handed). k.states) x.is

  pub few_states : h.states ≤ Rooms.states
  few_states = let q = states_is in let l = few.few_states in omega arith

  module _ {w : Word} {k : Work} {answer : Judgement} {k' : Work} (long : LongEnough k h.states) (j : Judged h w k answer k') where
    judges : Judges w answer x.expression
    unfolding automaton_in
    judges =
        let e = x.expression in
        let long' = subst (LongEnough k) states_is long in
        let j' = subst (λ (g : Handed). Judged g w k answer k') x.is j in
        let small : length (states e) ≤ most_states = let l = few.few_states in omega arith in
        record {
          answers = judged_so e _ x.lent.arcs small few.most few.equal few.few_arcs long' j';
          accepts = accepted_exactly e _ x.lent.arcs small few.most few.equal few.few_arcs long' j' lettered;
        }

    pub judged_over : JudgedOver text w k answer k'
    judged_over = record { judges = of_text x.expression x.writable x.spelled (Judges w answer) judges; cleared = j.cleared }
