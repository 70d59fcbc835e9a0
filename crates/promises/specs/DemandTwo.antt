-- The letter's second demand: "For every expression that builds, a record is accepted exactly when it belongs to the expression's language",
-- and "A build is refused for room exactly when the published derivative rules, in the form 01 gives, need more states, arcs or expressions than
-- the lent room, capped as 01 says."
use Rattle.std.specs.Prelude.{ℕ, ◌<◌, ◌≡◌, ◌↔◌, length, get_or, take}
use Rattle.theory.specs.Expression.{Expression, ∅}
use Rattle.theory.specs.Distinct.{NoRepeats, Within}
use Rattle.theory.specs.Automaton.{states, accepting, arcs, expressions}
use Rattle.theory.specs.Needs.{Counted}
use Rattle.theory.specs.Refusal.{success}
use Rattle.theory.specs.Language.{Word, In}
use Rattle.theory.specs.Table.{Table, trees, tree_at, tree}
use Rattle.theory.specs.Build.{Lent, Counts, Built, EvenLent, OverRoom}
use Rattle.theory.specs.Arcs.{counted, used}
use Rattle.theory.specs.Record.{automaton, verdict, live, Work}
use Rattle.theory.specs.Judge.{Judgement, given, Judged}
use Rattle.promises.specs.Table.{WellFormed}
use Rattle.promises.specs.Matcher.{TooShort, after_build}

-- The part of the columns that is used holds what is counted of e: its states in order, each with its mark and a row of its tree, its arcs in
-- order, and its expressions, each in one row.
pub record HeldBy (answer : Counts) (c : Lent) (e : Expression) : Type 0 where
  pub as_many : answer.states ≡ length (states e)
  pub named : (i : ℕ) → i < answer.states → tree_at c.rows (get_or c.expression i 0) ≡ get_or (states e) i ∅
  pub marks : take answer.states c.accepting ≡ accepting e
  pub arcs : used (counted answer.arcs c.arcs) ≡ arcs e
  pub once : NoRepeats (trees c.rows answer.expressions)
  pub all : Within (expressions e) (trees c.rows answer.expressions)
  pub only : Within (trees c.rows answer.expressions) (expressions e)

pub record DemandTwo : Type 0 where
  -- With enough words lent, a record is judged, and accepted (1) exactly when it is in the language of the table's tree.
  pub accepts : {g : Table} {c : Lent} {answer : Counts} {c' : Lent} {w : Word} {k : Work} {a : Judgement} {k' : Work}
      → Built g c answer c' → answer.refusal.number ≡ 0
      → Judged (after_build answer c') w k a k' → ¬ TooShort k answer.states
      → (a.refusal ≡ success) × ((a.verdict ≡ 1) ↔ In (tree g) w)
  -- Verdict and live are those of the tree's own automaton, over which 01's examples are computed.
  pub verdicts : {g : Table} {c : Lent} {answer : Counts} {c' : Lent} {w : Word} {k : Work} {a : Judgement} {k' : Work}
      → Built g c answer c' → answer.refusal.number ≡ 0
      → Judged (after_build answer c') w k a k' → ¬ TooShort k answer.states
      → a ≡ given (verdict (automaton (tree g)) w) (live (automaton (tree g)) w)
  -- Where the lent columns are even and the table is well-formed, 9 is given exactly when a need exceeds its room.
  pub refuses : {g : Table} {c : Lent} {answer : Counts} {c' : Lent} → Built g c answer c'
      → (answer.refusal.number ≡ 9) ↔ (EvenLent c × WellFormed g × OverRoom (tree g) c)
  -- What is counted against the rooms: the different derivatives of an expression by all words, the different triples, the different trees.
  pub needs : (e : Expression) → Counted e
  -- And a build without refusal leaves just that.
  pub holds : {g : Table} {c : Lent} {answer : Counts} {c' : Lent} → Built g c answer c' → answer.refusal.number ≡ 0 → HeldBy answer c' (tree g)
