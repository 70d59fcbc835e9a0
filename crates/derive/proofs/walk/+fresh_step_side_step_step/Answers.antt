-- A step along a row's list from steps along its two sides, along a side's list from its child's, and along what the right side has beyond
-- the left: what has been passed over is in the left side, and the rows that came are needed.
use Rattle.std.proofs.Common.{◌∙◌, sym, ap, subst, arith, rules}
use Rattle.derive.specs.Rows.{SoundTo}
use Rattle.derive.specs.Walk.{PlaceAmong, PlaceWithin}
use Rattle.derive.proofs.Coming.{answered_at, fitted_then}
use Rattle.derive.proofs.FreshStep.{turn_place, turn_side, turn_found, turn_passed, turn_less, turn_ended, turn_short}
use Rattle.derive.proofs.Growing.{rows_sound_to}
use Rattle.derive.proofs.Membership.{weight, lettered, told_yes, told_no, two_sides, left_within, right_within, left_less, right_less}
use Rattle.derive.proofs.RowStep.{letter_steps, stands, stands_not, place_among, left_place, right_place, step_found, step_full, step_right, ended, ended_sides, step_on}
use Rattle.derive.proofs.SideStep.{inner_told, child_within, inner_in, side_lifted, side_short, side_ended, side_full}
use Rattle.derive.proofs.Stepping.{gives_at, place_within}
use Rattle.derive.proofs.walk.+fresh_step_side_step_step.Goals as goal

-- ---- What the right side has beyond the left

pub fresh_step-side_step-requires : goal.fresh_step-side_step-requires
fresh_step-side_step-requires t c =
    let (same, k) = c.loop-member.invariant in
    (omega arith, (fitted_then c.requires.fitted k.came same.kind.length same.room, (turn_side k, turn_place k)))

pub fresh_step-returns-in_err-member-clause-steps : goal.fresh_step-returns-in_err-member-clause-steps
fresh_step-returns-in_err-member-clause-steps t c =
    let (same, k) = c.loop-member.invariant in
    turn_short k (gives_at same.room c.in_err-member.ensures.steps) c.from_residual.ensures.0

pub fresh_step-returns-then-not-side_has-clause-steps : goal.fresh_step-returns-then-not-side_has-clause-steps
fresh_step-returns-then-not-side_has-clause-steps t c =
    let (same, k) = c.loop-member.invariant in
    turn_found k (gives_at same.room c.in_ok-member.ensures.steps) c.in-Some.is c.view.ensures
    (told_no _ c.if-not-side_has.true c.side_has.ensures)

pub fresh_step-loop-member-smaller : goal.fresh_step-loop-member-smaller
fresh_step-loop-member-smaller t c =
    let (same, k) = c.loop-member.invariant in
    turn_less k (gives_at same.room c.in_ok-member.ensures.steps) c.in-Some.is

pub fresh_step-loop-member-preserved : goal.fresh_step-loop-member-preserved
fresh_step-loop-member-preserved t c =
    let (same, k) = c.loop-member.invariant in (
      search rules,
      turn_passed k (gives_at same.room c.in_ok-member.ensures.steps) c.in-Some.is c.view.ensures
          (told_yes _ c.if-not-side_has.false c.side_has.ensures),
    )

pub fresh_step-returns-clause-steps : goal.fresh_step-returns-clause-steps
fresh_step-returns-clause-steps t c =
    let (same, k) = c.loop-member.invariant in
    turn_ended k (gives_at same.room c.in_ok-member.ensures.steps) c.in_default.is

-- ---- A side's list

pub side_step-lower_place-inner-requires : goal.side_step-lower_place-inner-requires
side_step-lower_place-inner-requires t c =
    subst (λ u. PlaceWithin u c.args.after) (sym c.view.ensures) (place_within _ c.requires.fitted.rows c.args.after c.requires.within_row.1)

pub side_step-step-requires : goal.side_step-step-requires
side_step-step-requires t c =
    let k =
    inner_told c.args.letter c.args.after c.requires.fitted.rows c.view.ensures c.in-Some.is c.requires.within_row.0 c.requires.within_row.1
    c.lower_place-inner.ensures in
    (omega (arith, ap weight c.in-Some.is), (c.requires.fitted, (child_within k, inner_in k)))

pub side_step-returns-in_err-member-clause-steps : goal.side_step-returns-in_err-member-clause-steps
side_step-returns-in_err-member-clause-steps t c =
    let k =
    inner_told c.args.letter c.args.after c.requires.fitted.rows c.view.ensures c.in-Some.is c.requires.within_row.0 c.requires.within_row.1
    c.lower_place-inner.ensures in
    side_full k c.in_err-member.ensures.steps c.from_residual.ensures.0

pub side_step-returns-in_default-2-clause-steps : goal.side_step-returns-in_default-2-clause-steps
side_step-returns-in_default-2-clause-steps t c =
    let k =
    inner_told c.args.letter c.args.after c.requires.fitted.rows c.view.ensures c.in-Some.is c.requires.within_row.0 c.requires.within_row.1
    c.lower_place-inner.ensures in
    side_ended k c.in_ok-member.ensures.steps c.in_default-2.is

pub side_step-returns-in_err-row-clause-steps : goal.side_step-returns-in_err-row-clause-steps
side_step-returns-in_err-row-clause-steps t c =
    let k =
    inner_told c.args.letter c.args.after c.requires.fitted.rows c.view.ensures c.in-Some.is c.requires.within_row.0 c.requires.within_row.1
    c.lower_place-inner.ensures in
    side_short k c.in_ok-member.ensures.steps c.in-Some-2.is (answered_at c.step.ensures.same.room c.in_err-row.ensures.interns)
    c.from_residual-in_err-row.ensures.0

pub side_step-returns-clause-steps : goal.side_step-returns-clause-steps
side_step-returns-clause-steps t c =
    let k =
    inner_told c.args.letter c.args.after c.requires.fitted.rows c.view.ensures c.in-Some.is c.requires.within_row.0 c.requires.within_row.1
    c.lower_place-inner.ensures in
    side_lifted k c.in_ok-member.ensures.steps c.in-Some-2.is (answered_at c.step.ensures.same.room c.in_ok-row.ensures.interns)

-- ---- A row's list

pub step-returns-then-w-number-clause-steps : goal.step-returns-then-w-number-clause-steps
step-returns-then-w-number-clause-steps t c =
    letter_steps
    (lettered c.requires.fitted.rows c.requires.row_lt_used.0 c.view-table.ensures c.row-w.ensures (c.if-w-number.true ∙ c.number.ensures))
    c.requires.fitted c.args.letter c.args.after c.requires.row_lt_used.1 c.letter_step.ensures

pub step-left_side-a-requires : goal.step-left_side-a-requires
step-left_side-a-requires t c =
    subst (λ u. SoundTo u c.args.row) (sym c.view-table.ensures) (rows_sound_to c.requires.fitted.rows c.requires.row_lt_used.0)

pub step-right_side-b-requires : goal.step-right_side-b-requires
step-right_side-b-requires t c =
    subst (λ u. SoundTo u c.args.row) (sym c.view-table.ensures) (rows_sound_to c.requires.fitted.rows c.requires.row_lt_used.0)

pub step-place_has-requires : goal.step-place_has-requires
step-place_has-requires t c =
    let k =
    two_sides c.requires.fitted.rows c.requires.row_lt_used.0 c.view-table.ensures c.row-w.ensures c.if-w-number.false c.number.ensures
    c.left_side-a.ensures c.right_side-b.ensures in
    subst (λ u. PlaceAmong u c.left_side-a.result c.args.after) (sym c.view-table.ensures)
    (place_among k c.args.letter c.args.after c.requires.row_lt_used.1)

pub step-fresh_step-requires : goal.step-fresh_step-requires
step-fresh_step-requires t c =
    let k =
    two_sides c.requires.fitted.rows c.requires.row_lt_used.0 c.view-table.ensures c.row-w.ensures c.if-w-number.false c.number.ensures
    c.left_side-a.ensures c.right_side-b.ensures in
    let s = stands_not k c.args.letter c.args.after c.view-table.ensures c.if-not-place_has.ensures in (
      omega (arith, right_less k),
      (c.requires.fitted, ((left_within k, right_within k), right_place k c.args.letter c.args.after c.requires.row_lt_used.1 s)),
    )

pub step-returns-then-not-place_has-clause-steps : goal.step-returns-then-not-place_has-clause-steps
step-returns-then-not-place_has-clause-steps t c =
    let k =
    two_sides c.requires.fitted.rows c.requires.row_lt_used.0 c.view-table.ensures c.row-w.ensures c.if-w-number.false c.number.ensures
    c.left_side-a.ensures c.right_side-b.ensures in
    step_right k c.args.letter c.requires.fitted c.args.after
    (stands_not k c.args.letter c.args.after c.view-table.ensures c.if-not-place_has.ensures) c.fresh_step.result c.fresh_step.ensures.steps

pub step-side_step-requires : goal.step-side_step-requires
step-side_step-requires t c =
    let k =
    two_sides c.requires.fitted.rows c.requires.row_lt_used.0 c.view-table.ensures c.row-w.ensures c.if-w-number.false c.number.ensures
    c.left_side-a.ensures c.right_side-b.ensures in
    let s = stands k c.args.letter c.args.after c.view-table.ensures c.if-not-place_has.ensures in
    (omega (arith, left_less k), (c.requires.fitted, (left_within k, left_place k c.args.letter c.args.after c.requires.row_lt_used.1 s)))

pub step-returns-in_err-member-clause-steps : goal.step-returns-in_err-member-clause-steps
step-returns-in_err-member-clause-steps t c =
    let k =
    two_sides c.requires.fitted.rows c.requires.row_lt_used.0 c.view-table.ensures c.row-w.ensures c.if-w-number.false c.number.ensures
    c.left_side-a.ensures c.right_side-b.ensures in
    step_full k c.args.letter c.requires.fitted c.args.after c.in_err-member.ensures.steps c.from_residual.ensures.0

pub step-returns-in-Some-clause-steps : goal.step-returns-in-Some-clause-steps
step-returns-in-Some-clause-steps t c =
    let k =
    two_sides c.requires.fitted.rows c.requires.row_lt_used.0 c.view-table.ensures c.row-w.ensures c.if-w-number.false c.number.ensures
    c.left_side-a.ensures c.right_side-b.ensures in
    step_found k c.args.letter c.requires.fitted c.args.after
    (stands k c.args.letter c.args.after c.view-table.ensures c.if-not-place_has.ensures) c.in_ok-member.ensures.steps c.in-Some.is

pub step-fresh_step-requires-2 : goal.step-fresh_step-requires-2
step-fresh_step-requires-2 t c =
    let k =
    two_sides c.requires.fitted.rows c.requires.row_lt_used.0 c.view-table.ensures c.row-w.ensures c.if-w-number.false c.number.ensures
    c.left_side-a.ensures c.right_side-b.ensures in
    let same = c.side_step.ensures.same in
    let e = ended k c.args.letter c.requires.fitted c.args.after c.in_ok-member.ensures.steps c.in_default.is in
    let w = ended_sides k c.args.letter c.requires.fitted c.args.after c.in_ok-member.ensures.steps c.in_default.is in
    (omega (arith, right_less k), (fitted_then c.requires.fitted e.came same.kind.length same.room, (w, tt)))

pub step-returns-clause-steps : goal.step-returns-clause-steps
step-returns-clause-steps t c =
    let k =
    two_sides c.requires.fitted.rows c.requires.row_lt_used.0 c.view-table.ensures c.row-w.ensures c.if-w-number.false c.number.ensures
    c.left_side-a.ensures c.right_side-b.ensures in
    step_on k c.args.letter c.requires.fitted c.args.after c.in_ok-member.ensures.steps c.in_default.is
    (stands k c.args.letter c.args.after c.view-table.ensures c.if-not-place_has.ensures) c.fresh_step-2.result
    (gives_at c.side_step.ensures.same.room c.fresh_step-2.ensures.steps)
