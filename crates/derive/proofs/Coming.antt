-- Rows that come because they are needed: one coming after another, what is needed for another need, and that a room too small is smaller than
-- any list of all that is there or needed.
use Prim.Native.Nat.{ℕ, ◌<◌}
use native.Mathlib.Nat.{le_of_eq, le_trans}
use native.Mathlib.Omega.{arith}
use mathlib.Core.Path.{◌≡◌, sym, subst}
use mathlib.Core.Logic.{◌⊎◌, inl, inr, ⊎_elim}
use mathlib.Core.List.Memᴰ
use mathlib.Core.List.{List, ◌∷◌, Memᴰ}
use lib.ListN.{length}
use Rattle.theory.specs.Expression.{Expression, same}
use Rattle.theory.specs.Table.{Table, trees}
use Rattle.theory.proofs.Distinct.{no_longer}
use Rattle.theory.proofs.Trees.{trees_length}
use Rattle.std.specs.Prelude.{Result, Ok, Err}
use Rattle.derive.specs.declared.rows.NoRoom.{NoRoom}
use Rattle.derive.specs.Rows.{Fitted, Came, Held, Short, Answered}
use Rattle.derive.proofs.Growing.{grown_none, grown_trans, grown_within}

-- ---- Rows

pub came_none : {t : Table} {n room : ℕ} (Need : Expression → Type 0) → Fitted t n room → Came t n room Need t n
came_none Need f = record { grown = grown_none f.rows; fits = f.fits; each = λ z m. inl m }

pub fitted_then : {t t' : Table} {n n' room room' : ℕ} {Need : Expression → Type 0} → Fitted t n room → Came t n room Need t' n'
    → length t'.kind ≡ length t.kind → room' ≡ room → Fitted t' n' room'
fitted_then {t' = t'} {n' = n'} f c e q =
    subst (λ (k : ℕ). Fitted t' n' k) (sym q)
    (record { rows = c.grown.rows; fits = c.fits; in_columns = le_trans f.in_columns (le_of_eq (sym e)); small = f.small })

-- A needed tree that is there already is not needed.
module _ {t t' : Table} {n n' room : ℕ} {Need Need' : Expression → Type 0} (f : (z : Expression) → Need z → Memᴰ z (trees t n) ⊎ Need' z) where
  pub came_for : Came t n room Need t' n' → Came t n room Need' t' n'
  came_for c = record { grown = c.grown; fits = c.fits; each = λ z m. ⊎_elim inl (f z) (c.each z m) }

  pub held_for : {Is : Expression → Type 0} {i : ℕ} → Held t n room Need Is i t' n' → Held t n room Need' Is i t' n'
  held_for h = record { came = came_for h.came; there = h.there; is = h.is }

module _ {t t' : Table} {n room : ℕ} {Need Need' : Expression → Type 0} (f : (z : Expression) → Need z → Memᴰ z (trees t n) ⊎ Need' z) where
  pub short_for : Short t n room Need t' → Short t n room Need' t'
  short_for s =
      record {
        came = came_for f s.came;
        missing = s.missing;
        needed = ⊎_elim (λ m. absurd (s.absent (grown_within s.came.grown s.missing m))) (λ p. p) (f s.missing s.needed);
        absent = s.absent;
      }

-- ---- One coming after another

module _ {t t' t'' : Table} {n n' room : ℕ} {Need : Expression → Type 0} (c : Came t n room Need t' n') where
  pub came_then : {n'' : ℕ} → Came t' n' room Need t'' n'' → Came t n room Need t'' n''
  came_then d = record { grown = grown_trans c.grown d.grown; fits = d.fits; each = λ z m. ⊎_elim (c.each z) inr (d.each z m) }

  pub held_then : {Is : Expression → Type 0} {i n'' : ℕ} → Held t' n' room Need Is i t'' n'' → Held t n room Need Is i t'' n''
  held_then h = record { came = came_then h.came; there = h.there; is = h.is }

  pub short_then : Short t' n' room Need t'' → Short t n room Need t''
  short_then s = record { came = came_then s.came; missing = s.missing; needed = s.needed; absent = s.absent }

-- ---- Answers

pub answered_as : {t t' : Table} {n n' room : ℕ} {Need : Expression → Type 0} {e : Expression} {r r' : Result ℕ NoRoom} → r ≡ r'
    → Answered t n room Need e r t' n' → Answered t n room Need e r' t' n'
answered_as {t} {t'} {n} {n'} {room} {Need} {e} q a = subst (λ s. Answered t n room Need e s t' n') q a

-- In the room that the columns have had all along.
pub answered_at : {t t' : Table} {n n' room room' : ℕ} {Need : Expression → Type 0} {e : Expression} {r : Result ℕ NoRoom} → room' ≡ room
    → Answered t n room' Need e r t' n' → Answered t n room Need e r t' n'
answered_at {t} {t'} {n} {n'} {Need = Need} {e} {r} q a = subst (λ (k : ℕ). Answered t n k Need e r t' n') q a

-- What came first and what is then answered, each for what is needed in the end.
pub answered_then : {t t' t'' : Table} {n n' n'' room : ℕ} {Need Need' : Expression → Type 0} {e : Expression} {r : Result ℕ NoRoom}
    → Came t n room Need t' n' → ((z : Expression) → Need' z → Need z) → Answered t' n' room Need' e r t'' n'' → Answered t n room Need e r t'' n''
answered_then {t'' = t''} {room = room} {e = e} {r = Ok i} c f a = record { answer = held_then c (held_for (λ z p. inr (f z p)) a.answer) }
answered_then {r = Err x} c f a = record { answer = short_then c (short_for (λ z p. inr (f z p)) a.answer) }

-- ---- Counting

-- A list that holds all that is there or needed is longer than a room that is too small for it.
pub short_exceeds : {t t' : Table} {n room : ℕ} {Need : Expression → Type 0} → Short t n room Need t' → (all : List Expression)
    → ((z : Expression) → Memᴰ z (trees t n) ⊎ Need z → Memᴰ z all) → room < length all
short_exceeds {t' = t'} {room = room} {Need = Need} s all holds =
    let l =
    no_longer same (s.missing ∷ trees t' room) all (s.absent, s.came.grown.rows.once)
    (λ z m. holds z (⊎_elim (λ e. inr (subst Need (sym e) s.needed)) (s.came.each z) (Memᴰ.cases_cons m))) in
    omega (arith, trees_length t' room)
