-- The code's row and its children as the definitions have them, and the columns of a table set to zero.
use Rattle.std.specs.Prelude.{ℕ, List, [], ◌∷◌, length}
use Rattle.theory.specs.Column.{zeros}
use Rattle.theory.specs.Table.{Table, table, Row as Entry}
use Rattle.columns.specs.declared.row.Row.{Row}
use Rattle.columns.specs.declared.row.Children.{Children}
use Rattle.columns.specs.declared.row.Children.TheVariants.{Nothing, One, Two}

abbrev pub as_row : Row → Entry
as_row w = record { kind = w.kind; left = w.left; right = w.right }

abbrev pub as_children : Children → List ℕ
as_children Nothing = []
as_children (One child) = child ∷ []
as_children (Two left right) = left ∷ right ∷ []

-- 01: "sets all lent output and work columns to zero".
abbrev pub cleared : Table → Table
cleared t = table (zeros (length t.kind)) (zeros (length t.left)) (zeros (length t.right))
