-- What the reader's rules owe each other, told by the scan of `theory`: it goes on after what a rule found.
use Rattle.std.specs.Prelude.{ℕ, ◌+◌, ◌-◌, ◌≤◌, ◌<◌, ◌≡◌, ◌⊎◌, List, [], ◌∷◌, length, drop, get_or, Option as Maybe, Some, None, Result, Ok, Err}
use Rattle.std.proofs.Math.Option.{Option, none, some}
use Rattle.std.proofs.lemmas.List.Edits.{sets}
use Rattle.theory.specs.Expression.{Expression, Sign, ε, letter, entries}
use Rattle.theory.specs.Limit.{most_entries, most_open}
use Rattle.theory.specs.Refusal.{refusal, not_grammar, too_many_entries}
use Rattle.theory.specs.Meant.{as_sign}
use Rattle.theory.specs.Stated.{stated}
use Rattle.theory.specs.Table.{Table, table, columns, Row}
use Rattle.theory.specs.Grammar.{Text, Reading, refused, rows, sign_byte, byte_0, byte_close, byte_*}
use Rattle.theory.specs.Scan.{Token, opening, closing, starring, ∅_token, ε_token, other, signing, naming, Frame, Stand, before, after, scan_from}
use Rattle.theory.specs.declared.kind.Sign.{Sign as CodeSign}
use Rattle.theory.specs.declared.refusal.Refusal.{Refusal}
use Rattle.columns.specs.declared.cursor.Cursor.{Cursor}
use Rattle.columns.specs.declared.row.Row.{Row as CodeRow}
use Rattle.columns.specs.Row.{as_row}
use Rattle.reader.specs.declared.entries.Point.{Point}

-- 01: "the value with its cursor, or the refusal with its byte".
abbrev pub Found : Type 0
Found = Result (ℕ × Cursor) Refusal

-- The columns with rows ws from row `base` on.
abbrev pub laid : ℕ → List Row → Table → Table
laid base ws t =
    let rows = columns ws in table (sets t.kind base rows.kind) (sets t.left base rows.left) (sets t.right base rows.right)

-- 01: "the smaller of 512 and the column length" is what every rule may fill.
pub record Room (room : ℕ) (t : Table) : Type 0 where
  pub small : room ≤ most_entries
  pub kind : room ≤ length t.kind
  pub left : room ≤ length t.left
  pub right : room ≤ length t.right

-- An entry for the byte before the cursor: its row, or 15 where the room is full.
abbrev pub Entry : (room made : ℕ) → Cursor → List Row → Table → Found → Table → Type 0
Entry room made cursor ws t (Ok v) t' = (made < room) × (v.0 ≡ made + 1) × (v.1 ≡ cursor) × (t' ≡ laid made ws t)
Entry room made cursor ws t (Err r) t' = (room ≤ made) × (stated r ≡ refusal too_many_entries (cursor.at - 1))

-- The expression that a byte is by itself.
unfoldable pub leaf_of : Token → Option Expression
leaf_of opening = none
leaf_of closing = none
leaf_of starring = none
leaf_of ∅_token = none
leaf_of ε_token = some ε
leaf_of other = none
leaf_of (signing s) = none
leaf_of (naming a) = some (letter a)

-- The row that a byte makes by itself, whatever was made before it.
abbrev pub IsLeafRow : Token → Maybe CodeRow → Type 0
IsLeafRow k (Some w) = (e : Expression) × (leaf_of k ≡ some e) × ((made : ℕ) → rows made e ≡ as_row w ∷ [])
IsLeafRow k None = leaf_of k ≡ none

-- A sign at place `at`, or 13.
abbrev pub SignAt : Text → ℕ → Result (CodeSign × Cursor) Refusal → Type 0
SignAt text at (Ok v) = (at < length text) × (get_or text at 0 ≡ sign_byte (as_sign v.0)) × (v.1.at ≡ at + 1)
SignAt text at (Err r) = (stated r ≡ refusal not_grammar at) × ((s : Sign) → at < length text → get_or text at 0 ≡ sign_byte s → ⊥)

-- `)` at place `at`, where the sign's entry is made: 13 where there is none, and 15 where the room is full.
abbrev pub CloseAt : Text → (room at made : ℕ) → Row → Table → Found → Table → Type 0
CloseAt text room at made w t (Ok v) t' =
    (at < length text) × (get_or text at 0 ≡ byte_close) × (made < room) × (v.0 ≡ made + 1) × (v.1.at ≡ at + 1) × (t' ≡ laid made (w ∷ []) t)
CloseAt text room at made w t (Err r) t' =
    ((stated r ≡ refusal not_grammar at) × (at < length text → get_or text at 0 ≡ byte_close → ⊥))
    ⊎ ((stated r ≡ refusal too_many_entries at) × (at < length text) × (get_or text at 0 ≡ byte_close) × (room ≤ made))

-- ---- Expression and operand

abbrev pub scan_at : ℕ → Text → ℕ → ℕ → Stand → Reading
scan_at room text at made c = scan_from room at made c (drop at text)

-- Where a rule begins: the parentheses open, the place, the entries made and the columns.
pub record Start : Type 0 where
  pub depth : ℕ
  pub at : ℕ
  pub made : ℕ
  pub columns : Table

abbrev pub start : ℕ → ℕ → ℕ → Table → Start
start depth at made t = record { depth = depth; at = at; made = made; columns = t }

-- The same from the code's point, over the columns as they are there.
abbrev pub begins : Point → Table → Start
begins at t = start at.depth at.cursor.at at.made t

-- Where a rule may begin. `0` is an expression only where nothing was read before it, and no rule reads it.
pub record MayBegin (room : ℕ) (text : Text) (s : Start) : Type 0 where
  pub room_left : Room room s.columns
  pub shallow : s.depth ≤ most_open
  pub within : s.at ≤ length text
  pub fits : s.made ≤ room
  pub no_∅ : s.depth ≡ 0 → get_or text s.at 0 ≡ byte_0 → ⊥

-- An expression stands between s and place `at`: the scan goes on after it, and its rows are made.
pub record After (room : ℕ) (text : Text) (s : Start) (at made : ℕ) (t : Table) : Type 0 where
  pub expression : Expression
  pub reads : (fs : List Frame) → length fs ≡ s.depth → scan_at room text s.at s.made (before fs) ≡ scan_at room text at made (after expression fs)
  pub shallow : s.depth ≤ most_open
  pub onward : s.at < at
  pub within : at ≤ length text
  pub counted : made ≡ s.made + entries expression
  pub fits : made ≤ room
  pub laid_out : t ≡ laid s.made (rows s.made expression) s.columns

-- A rule's answer: the expression after which it stopped, or the refusal that the scan gives.
abbrev pub Answered : (room : ℕ) → Text → Start → Found → Table → Type 0
Answered room text s (Ok v) t' = After room text s v.1.at v.0 t'
Answered room text s (Err r) t' =
    (fs : List Frame) → length fs ≡ s.depth → scan_at room text s.at s.made (before fs) ≡ refused (stated r)

-- No `*` follows: the expression is as long as it can be.
abbrev pub Unstarred : Text → Found → Type 0
Unstarred text (Ok v) = get_or text v.1.at 0 ≡ byte_* → ⊥
Unstarred text (Err r) = Unit {0}
