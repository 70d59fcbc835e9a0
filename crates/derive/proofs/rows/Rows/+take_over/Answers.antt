-- A row of an unknown kind and a leaf's row are interned, a star's after its child's tree, a sign's after both.
use Rattle.std.proofs.Common.{refl, ◌∙◌, arith}
use Rattle.theory.specs.Table.{of_sign}
use Rattle.derive.proofs.Coming.{answered_at, fitted_then}
use Rattle.derive.proofs.Growing.{sound_to_less}
use Rattle.derive.proofs.Reading.{reads_unknown, reads_star, reads_sign, reads_leaf, sign_with, leaf_read, star_read, sign_read}
use Rattle.derive.proofs.Taking.{takes_leaf, star_sound, takes_star, star_full, left_full, right_full, takes_pair}
use Rattle.derive.proofs.rows.Rows.+take_over.Goals as goal

-- ---- An unknown kind, which no sound row has

pub intern-requires-clause-sound : goal.intern-requires-clause-sound
intern-requires-clause-sound t c = leaf_read (reads_unknown c.row-w.result c.requires.sound_to c.row-w.ensures c.in_default.ensures) refl _

pub returns-in_default-clause-takes : goal.returns-in_default-clause-takes
returns-in_default-clause-takes t c =
    takes_leaf
    (reads_unknown c.row-w.result c.requires.sound_to c.row-w.ensures c.in_default.ensures) refl c.requires.fitted c.intern.ensures.interns

-- ---- A leaf

pub intern-requires-in_default-kind : goal.intern-requires-in_default-kind
intern-requires-in_default-kind t c =
    record {
      fitted = c.requires.fitted;
      sound = leaf_read (reads_leaf c.row-w.result c.requires.sound_to c.row-w.ensures c.in-Some.ensures c.in_default-kind.not-Sign
          c.in_default-kind.not-Star) refl _;
    }

pub returns-in_default-kind : goal.returns-in_default-kind
returns-in_default-kind t c =
    record {
      same = c.intern-in_default-kind.ensures.same;
      takes = takes_leaf (reads_leaf c.row-w.result c.requires.sound_to c.row-w.ensures c.in-Some.ensures c.in_default-kind.not-Sign
          c.in_default-kind.not-Star) refl c.requires.fitted c.intern-in_default-kind.ensures.interns;
      full = c.intern-in_default-kind.ensures.full;
    }

-- ---- A star

pub take_over-requires-in-Star : goal.take_over-requires-in-Star
take_over-requires-in-Star t c =
    let p = star_read (reads_star c.row-w.result c.requires.sound_to c.row-w.ensures c.in-Some.ensures c.in-Star.is) refl in
    (omega (arith, p.0), (sound_to_less c.requires.sound_to p.0, c.requires.fitted))

pub returns-in_err-x-in-Star-clause-takes : goal.returns-in_err-x-in-Star-clause-takes
returns-in_err-x-in-Star-clause-takes t c =
    star_full
    (reads_star c.row-w.result c.requires.sound_to c.row-w.ensures c.in-Some.ensures c.in-Star.is) refl
    c.in_err-x-in-Star.ensures.takes c.from_residual-in_err-x-in-Star.ensures.0

pub intern-requires-in-Star-clause-sound : goal.intern-requires-in-Star-clause-sound
intern-requires-in-Star-clause-sound t c =
    star_sound
    (reads_star c.row-w.result c.requires.sound_to c.row-w.ensures c.in-Some.ensures c.in-Star.is) refl c.in_ok-x-in-Star.ensures.takes.answer.there

pub returns-in_ok-x-in-Star-clause-takes : goal.returns-in_ok-x-in-Star-clause-takes
returns-in_ok-x-in-Star-clause-takes t c =
    takes_star
    (reads_star c.row-w.result c.requires.sound_to c.row-w.ensures c.in-Some.ensures c.in-Star.is) refl c.in_ok-x-in-Star.ensures.takes.answer
    (answered_at c.take_over-in-Star.ensures.same.room c.intern-in-Star.ensures.interns)

-- ---- A sign

pub take_over-requires : goal.take_over-requires
take_over-requires t c =
    let p = sign_read (reads_sign c.row-w.result c.requires.sound_to c.row-w.ensures c.in-Some.ensures c.in-Sign.is) refl in
    (omega (arith, p.1), (sound_to_less c.requires.sound_to p.1, c.requires.fitted))

pub returns-in_err-x-in-Sign-clause-takes : goal.returns-in_err-x-in-Sign-clause-takes
returns-in_err-x-in-Sign-clause-takes t c =
    left_full
    (reads_sign c.row-w.result c.requires.sound_to c.row-w.ensures c.in-Some.ensures c.in-Sign.is) refl
    c.in_err-x-in-Sign.ensures.takes c.from_residual.ensures.0

pub take_over-requires-in-Sign : goal.take_over-requires-in-Sign
take_over-requires-in-Sign t c =
    let p = sign_read (reads_sign c.row-w.result c.requires.sound_to c.row-w.ensures c.in-Some.ensures c.in-Sign.is) refl in
    let a = c.take_over.ensures.same in (
      omega (arith, p.2),
      (sound_to_less c.requires.sound_to p.2, fitted_then c.requires.fitted c.in_ok-x-in-Sign.ensures.takes.answer.came a.kind.length a.room),
    )

pub returns-in_err-y-in-Sign-clause-takes : goal.returns-in_err-y-in-Sign-clause-takes
returns-in_err-y-in-Sign-clause-takes t c =
    right_full
    (reads_sign c.row-w.result c.requires.sound_to c.row-w.ensures c.in-Some.ensures c.in-Sign.is) refl
    c.in_ok-x-in-Sign.ensures.takes.answer (answered_at c.take_over.ensures.same.room c.in_err-y-in-Sign.ensures.takes)
    c.from_residual-in_err-y-in-Sign.ensures.0

pub intern-requires-in-Sign-clause-sound : goal.intern-requires-in-Sign-clause-sound
intern-requires-in-Sign-clause-sound t c =
    let b = answered_at c.take_over.ensures.same.room c.in_ok-y-in-Sign.ensures.takes in
    let before = c.in_ok-x-in-Sign.ensures.takes.answer.there in
    let more = b.answer.came.grown.more in
    of_sign _ _ _ (omega (arith, before, more, b.answer.there)) (omega (arith, before, more, b.answer.there)) c.pair.ensures

pub returns-in_ok-y-in-Sign-clause-takes : goal.returns-in_ok-y-in-Sign-clause-takes
returns-in_ok-y-in-Sign-clause-takes t c =
    let a = c.take_over.ensures.same.room in
    let b = answered_at a c.in_ok-y-in-Sign.ensures.takes in
    takes_pair
    (reads_sign c.row-w.result c.requires.sound_to c.row-w.ensures c.in-Some.ensures c.in-Sign.is) refl
    c.in_ok-x-in-Sign.ensures.takes.answer b.answer
    (sign_with c.row-w.result c.requires.sound_to c.row-w.ensures c.in-Some.ensures c.in-Sign.is c.pair.ensures)
    (answered_at (c.take_over-in-Sign.ensures.same.room ∙ a) c.intern-in-Sign.ensures.interns)
