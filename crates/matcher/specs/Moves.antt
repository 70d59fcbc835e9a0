-- What the functions of `moves` ask of the columns, and what a walk over a record finds.
use Rattle.std.specs.Prelude.{ℕ, ◌/◌, ◌≤◌, ◌<◌, ◌≡◌, false, List, length, get_or, Option, Some, None}
use Rattle.std.proofs.Math.Option.{none, some}
use Rattle.std.proofs.Math.Option as paper
use Rattle.theory.specs.Limit.{most_states}
use Rattle.theory.specs.Language.{Word}
use Rattle.theory.specs.Arcs.{Arcs, Spans, start, reached, dead_at}
use Rattle.theory.specs.Record.{Handed, Work, LongEnough, verdict, live}
use Rattle.theory.specs.Judge.{Judgement, given}
use Rattle.sets.specs.Bits.{bit}

-- The used arcs stand in the columns, and the words hold a bit for each of their ends.
pub record Inside (a : Arcs) (k : Work) : Type 0 where
  pub spans : Spans a.columns a.count
  pub from_held : (i : ℕ) → i < a.count → get_or a.columns.from i 0 / 64 < length k.current
  pub to_held : (i : ℕ) → i < a.count → get_or a.columns.to i 0 / 64 < length k.next

-- What moves ask of an automaton that is not refused, and of its work columns. No move looks at the accepting column.
pub record Checked (states : ℕ) (a : Arcs) (k : Work) : Type 0 where
  pub some_state : 0 < states
  pub few_states : states ≤ most_states
  pub spans : Spans a.columns a.count
  pub from_below : (i : ℕ) → i < a.count → get_or a.columns.from i 0 < states
  pub to_below : (i : ℕ) → i < a.count → get_or a.columns.to i 0 < states
  pub enough : LongEnough k states

-- State 0 alone is set, and the other column is clear.
pub record Ready (k : Work) : Type 0 where
  pub started : (t : ℕ) → bit k.current t ≡ start t
  pub clear : (t : ℕ) → bit k.next t ≡ false

-- The place of the first byte after which no state is reached, where there is one.
abbrev pub place_of : Option ℕ → paper.Option ℕ
place_of None = none
place_of (Some p) = some p

-- A walk ends at the first byte after which no state is reached, or with the states that the whole record reaches.
pub record Ended (a : Arcs) (w : Word) (died : Option ℕ) (current : List ℕ) : Type 0 where
  pub place : place_of died ≡ dead_at a start 0 w
  pub set : died ≡ None → (t : ℕ) → bit current t ≡ reached a w t

-- What a walk's end says, whatever the arcs between these states and the record: the verdict with live.
abbrev pub Answers : ℕ → List ℕ → Option ℕ → List ℕ → Judgement → Type 0
Answers states accepting died current answer =
    (a : Arcs) (k : Work) → Checked states a k → (w : Word) → Ended a w died current
    → let h : Handed = record { states = states; accepting = accepting; arcs = a } in answer ≡ given (verdict h w) (live h w)
