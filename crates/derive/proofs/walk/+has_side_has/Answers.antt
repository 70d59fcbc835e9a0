-- Whether a tree is a member of a derivative's list: `has` asks a row's two sides, `side_has` the child under a side.
use Rattle.std.proofs.Common.{refl, ap, ◌∙◌, arith}
use Rattle.derive.proofs.Growing.{rows_sound_to}
use Rattle.derive.proofs.Membership.{weight, letter_tells, two_sides, left_within, right_within, left_less, right_less, left_tells, right_tells, lower_told, child_within, outside_tells, member_within, member_tells}
use Rattle.derive.proofs.walk.+has_side_has.Goals as goal

-- ---- A row's list

pub has-returns-then-w-number : goal.has-returns-then-w-number
has-returns-then-w-number t c =
    letter_tells (record { rows = c.requires.rows; within = c.requires.row_in; is = c.row-w.ensures; kind = c.if-w-number.true ∙ c.number.ensures }) _
    c.requires.member_in

pub has-left_side-requires : goal.has-left_side-requires
has-left_side-requires t c = rows_sound_to c.requires.rows c.requires.row_in

pub has-side_has-requires : goal.has-side_has-requires
has-side_has-requires t c =
    let k = two_sides c.requires.rows c.requires.row_in refl c.row-w.ensures c.if-w-number.false c.number.ensures c.left_side.ensures refl in (
      omega (arith, left_less k),
      record { count = c.requires.count; rows = c.requires.rows; side_in = left_within k; member_in = c.requires.member_in },
    )

pub has-returns-then-side_has : goal.has-returns-then-side_has
has-returns-then-side_has t c =
    left_tells (two_sides c.requires.rows c.requires.row_in refl c.row-w.ensures c.if-w-number.false c.number.ensures c.left_side.ensures refl) _ _
    c.if-side_has.true c.if-side_has.ensures

pub has-right_side-requires : goal.has-right_side-requires
has-right_side-requires t c = rows_sound_to c.requires.rows c.requires.row_in

pub has-side_has-requires-else-side_has : goal.has-side_has-requires-else-side_has
has-side_has-requires-else-side_has t c =
    let k =
    two_sides c.requires.rows c.requires.row_in refl c.row-w.ensures c.if-w-number.false c.number.ensures c.left_side.ensures
    c.right_side.ensures in (
      omega (arith, right_less k),
      record { count = c.requires.count; rows = c.requires.rows; side_in = right_within k; member_in = c.requires.member_in },
    )

pub has-returns-else-side_has : goal.has-returns-else-side_has
has-returns-else-side_has t c =
    right_tells
    (two_sides c.requires.rows c.requires.row_in refl c.row-w.ensures c.if-w-number.false c.number.ensures c.left_side.ensures
    c.right_side.ensures) _ _
    c.side_has-else-side_has.result c.if-side_has.ensures c.side_has-else-side_has.ensures

-- ---- A side's list

pub side_has-lower-requires : goal.side_has-lower-requires
side_has-lower-requires t c = rows_sound_to c.requires.rows c.requires.member_in

pub side_has-returns-in_default-lower : goal.side_has-returns-in_default-lower
side_has-returns-in_default-lower t c =
    outside_tells (lower_told c.requires.rows c.in-Some.is c.requires.side_in c.requires.member_in c.lower.ensures) _ c.in_default-lower.is

pub side_has-has-requires : goal.side_has-has-requires
side_has-has-requires t c =
    let k = lower_told c.requires.rows c.in-Some.is c.requires.side_in c.requires.member_in c.lower.ensures in (
      omega (arith, ap weight c.in-Some.is),
      record { count = c.requires.count; rows = c.requires.rows; row_in = child_within k; member_in = member_within k c.in-Some-lower.is },
    )

pub side_has-returns : goal.side_has-returns
side_has-returns t c =
    member_tells (lower_told c.requires.rows c.in-Some.is c.requires.side_in c.requires.member_in c.lower.ensures) c.in-Some-lower.is _ c.has.result
    c.has.ensures
