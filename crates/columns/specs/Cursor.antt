-- What stands at a place of a text or a record.
use Rattle.std.specs.Prelude.{ℕ, ◌+◌, cond, List, length, get_or, ltb, Option, Some, None}
use Rattle.columns.specs.declared.cursor.Cursor.{Cursor}

-- the byte at `at` with the cursor after it, or the end
abbrev pub step_at : List ℕ → ℕ → Option (ℕ × Cursor)
step_at s at = cond (ltb at (length s)) (Some (get_or s at 0, record { at = at + 1 })) None
