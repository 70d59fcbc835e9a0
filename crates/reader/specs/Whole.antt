-- What is owed of a whole text: its beginning, its reading within the limits of 1 and 12, and the columns.
use Rattle.std.specs.Prelude.{ℕ, ◌<◌, ◌≡◌, length, get_or, Ok, Err}
use Rattle.std.proofs.Math.Option.{none}
use Rattle.theory.specs.Expression.{Expression, entries}
use Rattle.theory.specs.Stated.{stated}
use Rattle.theory.specs.Table.{Table}
use Rattle.theory.specs.Grammar.{Text, read, refused, rows}
use Rattle.theory.specs.Scan.{token, Stand, next, finish, scan}
use Rattle.theory.specs.Read.{Due, left_by}
use Rattle.reader.specs.declared.entries.Point.{Point}
use Rattle.reader.specs.Found.{Found, laid, scan_at}

-- The start of a text: nothing is open, and no entry is made.
abbrev pub at_start : ℕ → Point
at_start room = record { cursor = record { at = 0 }; depth = 0; made = 0; room = room }

-- `0` or an expression stands before place `at`, after which the grammar allows no other byte.
pub record Beginning (room : ℕ) (text : Text) (at made : ℕ) (t t' : Table) : Type 0 where
  pub expression : Expression
  pub stand : Stand
  pub reads : scan room text ≡ scan_at room text at made stand
  pub whole : finish at stand ≡ read expression
  pub ended : at < length text → next stand (token (get_or text at 0)) ≡ none
  pub counted : made ≡ entries expression
  pub laid_out : t' ≡ laid 0 (rows 0 expression) t

abbrev pub Begun : (room : ℕ) → Text → Table → Found → Table → Type 0
Begun room text t (Ok v) t' = Beginning room text v.1.at v.0 t t'
Begun room text t (Err r) t' = scan room text ≡ refused (stated r)

-- The scan of the text, with the rows of what was read.
abbrev pub WholeRead : (room : ℕ) → Text → Table → Found → Table → Type 0
WholeRead room text t (Ok v) t' = (e : Expression) × (scan room text ≡ read e) × (v.0 ≡ entries e) × (t' ≡ laid 0 (rows 0 e) t)
WholeRead room text t (Err r) t' = scan room text ≡ refused (stated r)

-- The reading that is due. What a refusal leaves in the columns is not said: they are cleared after it.
abbrev pub Limited : Text → Table → Found → Table → Type 0
Limited text t (Ok v) t' = (e : Expression) × Due text t (read e) × (v.0 ≡ entries e) × (t' ≡ left_by t (read e))
Limited text t (Err r) t' = Due text t (refused (stated r))
