-- A step along a list, taken up: after rows have come, and for a list that holds its members. The lists of sides once rows have come, and
-- places in them.
use Prim.Native.Nat.{ℕ}
use native.Mathlib.Nat.{lt_of_lt_of_le}
use mathlib.Core.Path.{◌≡◌, refl, ap, ap₂, ◌∙◌, subst}
use mathlib.Core.Logic.{inr}
use mathlib.Core.List.{List, ◌∷◌, map}
use Rattle.theory.specs.Expression.{Expression}
use Rattle.theory.specs.Distinct.{NoRepeats, Within}
use Rattle.theory.specs.Derivative.{derivative}
use Rattle.theory.specs.Table.{Table, tree_at}
use Rattle.std.specs.Prelude.{Option, Some, None, Result, Ok, Err, IsErr}
use Rattle.std.proofs.lemmas.Bool.{false≢true}
use Rattle.derive.specs.declared.rows.NoRoom.{NoRoom}
use Rattle.derive.specs.declared.sides.Side.{Side}
use Rattle.derive.specs.Rows.{Rows, Grown, Came, Short}
use Rattle.derive.specs.Sides.{WithinRow, beside, side_list}
use Rattle.derive.specs.Walk.{behind, first_of, to_come, InList, PlaceWithin, PartOf, Gives}
use Rattle.derive.proofs.Coming.{came_for, came_then, short_for, short_then}
use Rattle.derive.proofs.Growing.{grown_tree, rows_sound_to}
use Rattle.derive.proofs.Listing.{behind_within, behind_head, behind_next}

-- ---- Steps

pub gives_as : {t t' : Table} {n n' room : ℕ} {ms xs : List Expression} {r r' : Result (Option ℕ) NoRoom} → r ≡ r' → Gives t n room ms xs r t' n'
    → Gives t n room ms xs r' t' n'
gives_as {t} {t'} {n} {n'} {room} {ms} {xs} q g = subst (λ s. Gives t n room ms xs s t' n') q g

-- In the room that the columns have had all along.
pub gives_at : {t t' : Table} {n n' room room' : ℕ} {ms xs : List Expression} {r : Result (Option ℕ) NoRoom} → room' ≡ room
    → Gives t n room' ms xs r t' n' → Gives t n room ms xs r t' n'
gives_at {t} {t'} {n} {n'} {ms = ms} {xs} {r} q g = subst (λ (k : ℕ). Gives t n k ms xs r t' n') q g

-- An error is that there is no room.
pub gives_short : {t t' : Table} {n n' room : ℕ} {ms xs : List Expression} (r : Result (Option ℕ) NoRoom) → IsErr r
    → Short t n room (PartOf ms) t' → Gives t n room ms xs r t' n'
gives_short (Ok o) q s = absurd (false≢true q)
gives_short (Err x) q s = record { outcome = s }

pub part_within : {ms ms' : List Expression} → Within ms ms' → (z : Expression) → PartOf ms z → PartOf ms' z
part_within w z p = (p.0, w p.0 p.1, p.2)

-- Rows came for the list ms, then a step was taken along ms', whose members are in ms, with the same member next.
pub gives_then : {t t' t'' : Table} {n n' n'' room : ℕ} {ms ms' xs xs' : List Expression} → Came t n room (PartOf ms) t' n' → Within ms' ms
    → first_of xs ≡ first_of xs' → (r : Result (Option ℕ) NoRoom) → Gives t' n' room ms' xs' r t'' n'' → Gives t n room ms xs r t'' n''
gives_then c w e (Ok (Some i)) g =
    let o = g.outcome in
    record { outcome = record { came = came_then c (came_for (λ z p. inr (part_within w z p)) o.came); there = o.there; is = e ∙ o.is } }
gives_then c w e (Ok None) g =
    let o = g.outcome in
    record { outcome = record { came = came_then c (came_for (λ z p. inr (part_within w z p)) o.came); nothing_left = e ∙ o.nothing_left } }
gives_then c w e (Err r) g = record { outcome = short_then c (short_for (λ z p. inr (part_within w z p)) g.outcome) }

-- ---- Places

pub to_come_within : (t : Table) (p : Option ℕ) (ms : List Expression) → Within (to_come t p ms) ms
to_come_within t None ms z m = m
to_come_within t (Some p) ms z m = behind_within (tree_at t p) ms z m

-- One member further in a list without repeats.
pub next_to_come : (t t' : Table) (p : Option ℕ) (ms : List Expression) (row : ℕ) (ys : List Expression) → NoRepeats ms
    → to_come t p ms ≡ tree_at t' row ∷ ys → to_come t' (Some row) ms ≡ ys
next_to_come t t' None ms row ys once e = ap (behind (tree_at t' row)) e ∙ behind_head (tree_at t' row) ys
next_to_come t t' (Some p) ms row ys once e = behind_next (tree_at t p) (tree_at t' row) ms ys once e

-- A place in a list stands in the columns.
pub place_within : {t : Table} {n : ℕ} (ms : List Expression) → Rows t n → (place : Option ℕ) → InList t n place ms → PlaceWithin t place
place_within ms h None i = tt
place_within ms h (Some p) i = rows_sound_to h i.0

-- ---- Sides once rows have come

module _ {t t' : Table} {n n' : ℕ} (g : Grown t n t' n') where
  pub grown_list : (a : ℕ) (side : Option Side) → WithinRow n n side → side_list a t' side ≡ side_list a t side
  grown_list a None w = refl
  grown_list a (Some s) w = ap₂ (λ o c. map (beside s.join o) (derivative a c)) (grown_tree g w.1) (grown_tree g w.0)

  pub grown_side : (side : Option Side) → WithinRow n n side → WithinRow n' n' side
  grown_side None w = tt
  grown_side (Some s) w = (lt_of_lt_of_le w.0 g.more, lt_of_lt_of_le w.1 g.more)
