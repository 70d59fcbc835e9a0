-- One step along the list of a derivative that is stored nowhere: the member after a given one, or the first.
use Rattle.std.specs.Prelude.{ℕ, ◌<◌, ◌≡◌, Bool, true, false, Option, Some, None, Result, Ok, Err}
use mathlib.Core.List.{List, [], ◌∷◌, Memᴰ}
use Rattle.theory.specs.Expression.{Expression, same, parts}
use Rattle.theory.specs.Distinct.{beyond}
use Rattle.theory.specs.Derivative.{derivative}
use Rattle.theory.specs.Table.{Table, tree_at}
use Rattle.derive.specs.declared.rows.NoRoom.{NoRoom}
use Rattle.derive.specs.declared.sides.Join.{Join}
use Rattle.derive.specs.declared.sides.Side.{Side}
use Rattle.derive.specs.Rows.{Rows, SoundTo, Came, Held, Short}
use Rattle.derive.specs.Sides.{side_list, lowered, WithinRow}

-- A test says whether P holds.
abbrev pub Tells : Bool → Type 0 → Type 0
Tells true P = P
Tells false P = P → ⊥

-- xs where the question is answered yes, else ys
abbrev pub if_yes : {A P : Type 0} → Dec P → A → A → A
if_yes (yes p) x y = x
if_yes (no n) x y = y

-- What stands after p in a list; nothing where p does not stand there.
unfoldable pub behind : Expression → List Expression → List Expression
behind p [] = []
behind p (x ∷ xs) = let r = behind p xs in if_yes (same p x) xs r

abbrev pub first_of : List Expression → Option Expression
first_of [] = None
first_of (x ∷ xs) = Some x

-- ---- Places: `None`, the start of a list, or one of its members, as a row

-- The members still to come.
abbrev pub to_come : Table → Option ℕ → List Expression → List Expression
to_come t None ms = ms
to_come t (Some p) ms = behind (tree_at t p) ms

-- A place in a list: its start, or one of its members, as a row.
abbrev pub InList : Table → ℕ → Option ℕ → List Expression → Type 0
InList t n None ms = Unit {0}
InList t n (Some p) ms = (p < n) × Memᴰ (tree_at t p) ms

-- The walk of the list ms goes on from a place: its start, or one of its members.
abbrev pub Stands : Table → Option ℕ → List Expression → Type 0
Stands t None ms = Unit {0}
Stands t (Some p) ms = Memᴰ (tree_at t p) ms

-- The place in the child's list that the join takes to a place in the side's list.
abbrev pub lowered_place : Table → ℕ → Join → Option ℕ → Option ℕ
lowered_place t other join None = None
lowered_place t other join (Some p) = lowered t other join p

-- ---- A step

-- A tree that the walk of the list ms may need: a part of one of its members.
abbrev pub PartOf : List Expression → Expression → Type 0
PartOf ms z = (m : Expression) × Memᴰ m ms × Memᴰ z (parts m)

-- The list is at its end.
pub record Ended (t : Table) (n room : ℕ) (ms xs : List Expression) (t' : Table) (n' : ℕ) : Type 0 where
  pub came : Came t n room (PartOf ms) t' n'
  pub nothing_left : first_of xs ≡ None

-- What a step gives where xs are the members to come of the list ms: the first of xs, as a row, or the end.
abbrev pub Outcome : Table → ℕ → ℕ → List Expression → List Expression → Result (Option ℕ) NoRoom → Table → ℕ → Type 0
Outcome t n room ms xs (Ok (Some i)) t' n' = Held t n room (PartOf ms) (λ z. first_of xs ≡ Some z) i t' n'
Outcome t n room ms xs (Ok None) t' n' = Ended t n room ms xs t' n'
Outcome t n room ms xs (Err r) t' n' = Short t n room (PartOf ms) t'

pub record Gives (t : Table) (n room : ℕ) (ms xs : List Expression) (r : Result (Option ℕ) NoRoom) (t' : Table) (n' : ℕ) : Type 0 where
  pub outcome : Outcome t n room ms xs r t' n'

-- A step along the list ms from a place in it.
abbrev pub Steps : Table → ℕ → ℕ → List Expression → Option ℕ → Result (Option ℕ) NoRoom → Table → ℕ → Type 0
Steps t n room ms p = Gives t n room ms (to_come t p ms)

-- A step along a letter's list: the literal empty word, row 0, where the letter is the one asked for, and then the end.
abbrev pub letter_step : Bool → Option ℕ → Option ℕ
letter_step true None = Some 0
letter_step true (Some p) = None
letter_step false p = None

-- ---- The same over the rows of a table

-- Rows of a table that holds each tree once: a row and a member; a side's rows and a member; a side's rows and a place.
pub record RowAmong (t : Table) (i m : ℕ) : Type 0 where
  pub count : ℕ
  pub rows : Rows t count
  pub row_in : i < count
  pub member_in : m < count

pub record SideAmong (t : Table) (side : Option Side) (m : ℕ) : Type 0 where
  pub count : ℕ
  pub rows : Rows t count
  pub side_in : WithinRow count count side
  pub member_in : m < count

abbrev pub PlaceAmong : Table → Option Side → Option ℕ → Type 0
PlaceAmong t side None = Unit {0}
PlaceAmong t side (Some p) = SideAmong t side p

-- The row of a place stands in the columns.
abbrev pub PlaceWithin : Table → Option ℕ → Type 0
PlaceWithin t None = Unit {0}
PlaceWithin t (Some p) = SoundTo t p

-- Whether row m's tree is a member of row i's list, or of a side's.
abbrev pub RowHas : Table → ℕ → ℕ → ℕ → Bool → Type 0
RowHas t a i m r = Tells r (Memᴰ (tree_at t m) (derivative a (tree_at t i)))

abbrev pub SideHas : Table → ℕ → Option Side → ℕ → Bool → Type 0
SideHas t a side m r = Tells r (Memᴰ (tree_at t m) (side_list a t side))

-- Whether the walk of a side's list goes on from a place.
abbrev pub SideStands : Table → ℕ → Option Side → Option ℕ → Bool → Type 0
SideStands t a side p r = Tells r (Stands t p (side_list a t side))

-- A place in row i's list, or in a side's.
abbrev pub RowPlace : Table → ℕ → ℕ → ℕ → Option ℕ → Type 0
RowPlace t n a i p = InList t n p (derivative a (tree_at t i))

abbrev pub SidePlace : Table → ℕ → ℕ → Option Side → Option ℕ → Type 0
SidePlace t n a side p = InList t n p (side_list a t side)

-- A step along row i's list, along a side's, and along what the side y has beyond the side x.
abbrev pub RowSteps : Table → ℕ → ℕ → ℕ → ℕ → Option ℕ → Result (Option ℕ) NoRoom → Table → ℕ → Type 0
RowSteps t n room a i p = Steps t n room (derivative a (tree_at t i)) p

abbrev pub SideSteps : Table → ℕ → ℕ → ℕ → Option Side → Option ℕ → Result (Option ℕ) NoRoom → Table → ℕ → Type 0
SideSteps t n room a side p = Steps t n room (side_list a t side) p

abbrev pub FreshSteps : Table → ℕ → ℕ → ℕ → Option Side → Option Side → Option ℕ → Result (Option ℕ) NoRoom → Table → ℕ → Type 0
FreshSteps t n room a x y p = Gives t n room (side_list a t y) (beyond same (side_list a t x) (to_come t p (side_list a t y)))
