-- The list of a derivative from its two sides: the left part's list and the right part's, each member joined with one other tree.
use Rattle.std.specs.Prelude.{ℕ, ◌<◌, Bool, true, false, not, ◌&&◌, List, [], map, eqb, Option, Some, None}
use Rattle.theory.specs.Expression.{Expression, Sign, union, concatenation, shuffle}
use Rattle.theory.specs.Derivative.{joined, derivative, empty_word}
use Rattle.theory.specs.Table.{Table, Row, row, tree_at, Meaning, ∅_kind, ε_kind, letter_kind, sign_kind, star_kind, unknown_kind, meaning, kind_of_sign}
use Rattle.derive.specs.declared.sides.Join.{Join}
use Rattle.derive.specs.declared.sides.Join.TheVariants.{Followed, Shuffled, Shuffles}
use Rattle.derive.specs.declared.sides.Side.{Side}

-- ---- Joins

abbrev pub join_sign : Join → Sign
join_sign Followed = concatenation
join_sign Shuffled = shuffle
join_sign Shuffles = shuffle

-- f of a member m and the other o, in the order of the join.
abbrev pub arranged : {A B : Type 0} → Join → (A → A → B) → A → A → B
arranged Followed f m o = f m o
arranged Shuffled f m o = f m o
arranged Shuffles f m o = f o m

-- A member m joined with the other tree o. With o the literal empty word it stays as it is.
abbrev pub beside : Join → Expression → Expression → Expression
beside j o m = arranged j (joined (join_sign j)) m o

-- ---- Sides

-- The members of a side, in list order.
abbrev pub side_list : ℕ → Table → Option Side → List Expression
side_list a t None = []
side_list a t (Some s) = map (beside s.join (tree_at t s.other)) (derivative a (tree_at t s.child))

-- A side of row i of n: its child comes before row i, and its other tree is a row.
abbrev pub WithinRow : ℕ → ℕ → Option Side → Type 0
WithinRow n i None = Unit {0}
WithinRow n i (Some s) = (s.child < i) × (s.other < n)

-- The members of `child`, each joined with `other`.
abbrev pub side_of : ℕ → ℕ → Join → Option Side
side_of child other join = Some (record { child = child; other = other; join = join })

-- The two sides of row i, which is (k, l, r). 01: "union: the left's list, then the right's"; concatenation xy: "each member of x's list
-- followed by y; then, if x contains the empty word, y's list"; star: "each member of the inner list followed by the star"; shuffle: "each
-- member of x's list shuffled with y; then x shuffled with each member of y's list".
abbrev pub left_of : Meaning → ℕ → ℕ → ℕ → Option Side
left_of ∅_kind l r i = None
left_of ε_kind l r i = None
left_of letter_kind l r i = None
left_of (sign_kind union) l r i = side_of l 0 Followed
left_of (sign_kind concatenation) l r i = side_of l r Followed
left_of (sign_kind shuffle) l r i = side_of l r Shuffled
left_of star_kind l r i = side_of l i Followed
left_of unknown_kind l r i = None

abbrev pub pick : Bool → Option Side → Option Side → Option Side
pick true a b = a
pick false a b = b

-- `e` is whether the left part has the empty word.
abbrev pub right_of : Meaning → ℕ → ℕ → Bool → Option Side
right_of ∅_kind l r e = None
right_of ε_kind l r e = None
right_of letter_kind l r e = None
right_of (sign_kind union) l r e = side_of r 0 Followed
right_of (sign_kind concatenation) l r e = pick e (side_of r 0 Followed) None
right_of (sign_kind shuffle) l r e = side_of r l Shuffles
right_of star_kind l r e = None
right_of unknown_kind l r e = None

unfoldable pub left_side : Table → ℕ → Option Side
unfolding meaning
left_side t i = let w = row t i in left_of (meaning w.kind) w.left w.right i

unfoldable pub right_side : Table → ℕ → Option Side
unfolding meaning empty_word tree_at
right_side t i = let w = row t i in right_of (meaning w.kind) w.left w.right (empty_word (tree_at t w.left))

-- ---- The join undone

abbrev pub choose : Bool → Option ℕ → Option ℕ → Option ℕ
choose true a b = a
choose false a b = b

-- The member of a pair whose other tree is row `other`. A join with the literal empty word is never made.
unfoldable pub parted : Row → Join → ℕ → Option ℕ
unfolding kind_of_sign
parted w j other =
    let m = arranged j (λ x y. x) w.left w.right in
    let o = arranged j (λ x y. y) w.left w.right in
    choose (eqb w.kind (kind_of_sign (join_sign j)) && eqb o other && not (eqb m 0)) (Some m) None

-- The member whose join with row `other` is row p's tree, as a row.
unfoldable pub lowered : Table → ℕ → Join → ℕ → Option ℕ
unfolding parted
lowered t other j p = choose (eqb other 0) (Some p) (choose (eqb p other) (Some 0) (parted (row t p) j other))
