-- 01, "What every promise has to say": "that any two results meeting it are equal is proved", with the one exception: "the numbering of all
-- entries in the expressions table, and so the numbers in the states. There the set of trees that the table holds, each once and each child
-- before its parent, and the tree that each state names, are determined."
use Rattle.std.specs.Prelude.{ℕ, ◌<◌, ◌≤◌, ◌≡◌, length, get_or}
use Rattle.theory.specs.Distinct.{Within}
use Rattle.theory.specs.Language.{Word}
use Rattle.theory.specs.Table.{Table, row, trees, tree_at}
use Rattle.theory.specs.Grammar.{Text}
use Rattle.theory.specs.Read.{Read, Entered}
use Rattle.theory.specs.Build.{Lent, Counts, Built}
use Rattle.theory.specs.Record.{Handed, Work}
use Rattle.theory.specs.Judge.{Judgement, Judged}

pub record ReadOnce : Type 0 where
  pub once : {text : Text} {t : Table} {a b : Entered} {t' t'' : Table} → Read text t a t' → Read text t b t'' → (a ≡ b) × (t' ≡ t'')

pub record JudgeOnce : Type 0 where
  pub once : {h : Handed} {w : Word} {k : Work} {a b : Judgement} {k' k'' : Work} → Judged h w k a k' → Judged h w k b k'' → (a ≡ b) × (k' ≡ k'')

-- The columns other than the expressions and the states' numbers are equal; the expressions' rows hold the same trees in the first n of
-- them and the same elsewhere; each of the m states names the same tree, and beyond the states the numbers are the same.
pub record SameBuild (n m : ℕ) (c d : Lent) : Type 0 where
  pub accepting : c.accepting ≡ d.accepting
  pub arcs : c.arcs ≡ d.arcs
  pub kind_length : length c.rows.kind ≡ length d.rows.kind
  pub left_length : length c.rows.left ≡ length d.rows.left
  pub right_length : length c.rows.right ≡ length d.rows.right
  pub expression_length : length c.expression ≡ length d.expression
  pub forth : Within (trees c.rows n) (trees d.rows n)
  pub back : Within (trees d.rows n) (trees c.rows n)
  pub named : (i : ℕ) → i < m → tree_at c.rows (get_or c.expression i 0) ≡ tree_at d.rows (get_or d.expression i 0)
  pub rows_beyond : (i : ℕ) → n ≤ i → row c.rows i ≡ row d.rows i
  pub states_beyond : (i : ℕ) → m ≤ i → get_or c.expression i 0 ≡ get_or d.expression i 0

-- On a refusal all columns are equal; else they are the same build.
pub record BuiltAlike (a b : Counts) (d d' : Lent) : Type 0 where
  pub answers : a ≡ b
  pub refused : ¬ (a.refusal.number ≡ 0) → d ≡ d'
  pub built : a.refusal.number ≡ 0 → SameBuild a.expressions a.states d d'

pub record BuildOnce : Type 0 where
  pub once : {g : Table} {c : Lent} {a b : Counts} {d d' : Lent} → Built g c a d → Built g c b d' → BuiltAlike a b d d'
