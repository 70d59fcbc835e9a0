-- What the listing program answers: the listing of the expression that the text writes, or the refusal's line. The lines of the first arcs and
-- of the first states, from which it is put together.
use Rattle.std.specs.Prelude.{ℕ, ◌+◌, ◌*◌, ◌<◌, ◌≡◌, cond, length, get_or, eqb, Option, Result, Ok, Err}
use mathlib.Core.List.{List, [], ◌++◌, flat_map}
use Rattle.theory.specs.Limit.{longest_text}
use Rattle.theory.specs.Automaton.{Arc, ascending}
use Rattle.theory.specs.Arcs.{ArcColumns, arc_columns, first_arcs}
use Rattle.theory.specs.Column.{zeros}
use Rattle.theory.specs.Grammar.{Text, Reading, read, refused}
use Rattle.theory.specs.Read.{Due}
use Rattle.theory.specs.Lines.{arc_line, state_line, listing, refusal_line}
use Rattle.lines.specs.declared.failure.Failure.{Failure}
use Rattle.lines.specs.declared.failure.Failure.TheVariants.{Read}
use Rattle.lines.specs.declared.input.Line.{Line}
use Rattle.lines.specs.Input.{Input, Unbroken, Took, line_bytes}
use Rattle.lines.specs.Output.{Wrote}
use Rattle.theory.specs.Rooms
use Rattle.site.specs.Site.{Shown, shown, entry_columns, site_refusal, unless_refused}

-- ---- The room of a listing

-- A state below the room for states has at most 3 digits, and so has a letter.
abbrev pub arc_bytes : ℕ
arc_bytes = 12

abbrev pub state_bytes : ℕ
state_bytes = 4

abbrev pub listing_bytes : ℕ
listing_bytes = Rooms.arcs * arc_bytes + Rooms.states * state_bytes

-- The first n arcs lead from state to state of a site.
pub record Narrow (c : ArcColumns) (n : ℕ) : Type 0 where
  pub from : (i : ℕ) → i < n → get_or c.from i 0 < Rooms.states
  pub to : (i : ℕ) → i < n → get_or c.to i 0 < Rooms.states

-- ---- Its lines

unfoldable pub arc_lines : ArcColumns → ℕ → List ℕ
unfolding flat_map first_arcs
arc_lines c n = flat_map (λ (z : Arc). arc_line z.from z.to z.letter) (first_arcs c n)

-- What is printed of a state, by its accepting value.
abbrev pub state_text : (flag s : ℕ) → List ℕ
state_text flag s = cond (eqb flag 1) (state_line s) []

unfoldable pub state_lines : List ℕ → ℕ → List ℕ
unfolding flat_map ascending
state_lines flags n = flat_map (λ s. state_text (get_or flags s 0) s) (ascending 0 n)

-- ---- The answer

-- The columns that the program lends.
abbrev pub own_columns : Shown
own_columns = shown (zeros Rooms.states) (arc_columns (zeros Rooms.arcs) (zeros Rooms.arcs) (zeros Rooms.arcs))

-- 01: "prints the automaton"; "Both print `refused R P` (number, place) on a refusal".
unfoldable pub printed : Reading → List ℕ
unfolding listing site_refusal
printed (read e) = unless_refused (site_refusal e own_columns) (listing e) (refusal_line (site_refusal e own_columns))
printed (refused r) = refusal_line r

pub record Printed (text : Text) (bytes : List ℕ) : Type 0 where
  pub reading : Reading
  pub due : Due text entry_columns reading
  pub is : bytes ≡ printed reading

-- What `list` owes: the answer to the text is held after what was held.
pub record Lists (text : Text) (before after : List ℕ) : Type 0 where
  pub bytes : List ℕ
  pub printed : Printed text bytes
  pub put : after ≡ before ++ bytes

-- What `print` owes: as many bytes as the answer has were handed on to be written.
pub record Prints (text : Text) (written : Result ℕ Failure) : Type 0 where
  pub bytes : List ℕ
  pub printed : Printed text bytes
  pub all : Wrote (length bytes) written

-- What `answer` owes: the next line was taken, and its answer handed on; or a read of it failed, and nothing is untaken.
pub data Answers (input : Input) : Result ℕ Failure → Input → Type 0 where
  of_line : {line : Option Line} {input' : Input} {column : List ℕ} {written : Result ℕ Failure} → length column ≡ longest_text + 1
      → Took input (Ok line) input' column → Prints (line_bytes line column) written → Answers input written input'
  no_line : {input' : Input} → Unbroken input.untaken → input'.untaken ≡ [] → Answers input (Err Read) input'
