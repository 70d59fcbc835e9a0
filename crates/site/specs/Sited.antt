-- The automaton of a text in columns, and what is owed of a record that is judged over it: the letter's second demand.
use Rattle.std.specs.Prelude.{◌≤◌, ◌≡◌, ◌↔◌, length}
use Rattle.theory.specs.Expression.{Expression, entries}
use Rattle.theory.specs.Column.{filled}
use Rattle.theory.specs.Language.{Word, In}
use Rattle.theory.specs.Automaton.{states, accepting, arcs}
use Rattle.theory.specs.Arcs.{filled_arcs}
use Rattle.theory.specs.Grammar.{Text, Reading, read, refused, written, Writable}
use Rattle.theory.specs.Read.{Due}
use Rattle.theory.specs.Record.{Handed, handed, automaton, Work, cleared, verdict, live}
use Rattle.theory.specs.Judge.{Judgement, given, withheld, judgement}
use Rattle.theory.specs.Rooms
use Rattle.site.specs.Site.{Shown, entry_columns, site_refusal, unless_refused, holding, blank}

-- The columns of s hold the automaton of e, and zero beyond it.
unfoldable pub automaton_in : Expression → Shown → Handed
unfolding states accepting arcs
automaton_in e s = handed (length (states e)) (filled (length s.accepting) (accepting e)) (length (arcs e)) (filled_arcs s.arcs (arcs e))

-- What is handed on is the automaton of the expression that the text writes, in columns that have room for it.
pub record Sited (text : Text) (h : Handed) : Type 0 where
  pub expression : Expression
  pub writable : Writable expression
  pub spelled : written expression ≡ text
  pub few_entries : entries expression ≤ Rooms.entries
  pub lent : Shown
  pub fits : (site_refusal expression lent).number ≡ 0
  pub is : h ≡ automaton_in expression lent

-- Whatever is answered of the expression that the text writes.
abbrev pub OfText : Text → (Expression → Type 0) → Type 0
OfText text P = (e : Expression) → Writable e → written e ≡ text → P e

-- The verdict on a record and live are those of the expression's own automaton; the letter's second demand: "a record is accepted exactly when
-- it belongs to the expression's language". Accepted is verdict 1.
pub record Judges (w : Word) (answer : Judgement) (e : Expression) : Type 0 where
  pub answers : answer ≡ given (verdict (automaton e) w) (live (automaton e) w)
  pub accepts : (answer.verdict ≡ 1) ↔ In e w

-- What `verdict` owes.
pub record JudgedOver (text : Text) (w : Word) (k : Work) (answer : Judgement) (k' : Work) : Type 0 where
  pub judges : OfText text (Judges w answer)
  pub cleared : k' ≡ cleared k

-- ---- From a text and a record to a verdict

-- 01: the reader's refusals, then the builder's, then the matcher's 11; else the verdict.
unfoldable pub told : Reading → Shown → Work → Word → Judgement
unfolding site_refusal automaton_in judgement
told (read e) s k w = unless_refused (site_refusal e s) (judgement (automaton_in e s) k w) (withheld (site_refusal e s))
told (refused r) s k w = withheld r

-- What `judge` owes: the answer and every lent column at exit, and the demand wherever the call is not refused.
pub record JudgesText (text : Text) (w : Word) (s : Shown) (k : Work) (answer : Judgement) (s' : Shown) (k' : Work) : Type 0 where
  pub reading : Reading
  pub due : Due text entry_columns reading
  pub answers : answer ≡ told reading s k w
  pub judges : answer.refusal.number ≡ 0 → OfText text (Judges w answer)
  pub holds : answer.refusal.number ≡ 0 → OfText text (λ e. s' ≡ holding e s)
  pub blank : (answer.refusal.number ≡ 0 → ⊥) → s' ≡ blank s
  pub cleared : k' ≡ cleared k
