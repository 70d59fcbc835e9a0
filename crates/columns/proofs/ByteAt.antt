-- What a cursor's step says of the bytes: at a place below their number it is the byte there with the cursor after it, else the end.
use Prim.Native.Nat.{ℕ, ◌+◌, ◌≤◌, ◌<◌}
use native.Mathlib.Omega.{arith}
use mathlib.Core.Path.{◌≡◌, refl, sym, ap}
use mathlib.Core.Bool.{Bool, true, false}
use mathlib.Core.List.{List}
use lib.ListN.{length, get_or}
use lib.Dec.{ltb}
use borrow.Author.Tests.{ltb-true, ltb-false}
use Rattle.columns.specs.Cursor.{step_at}
use Rattle.std.specs.Prelude.{Option, Some, None}
use Rattle.columns.specs.declared.cursor.Cursor.{Cursor}

-- The byte stands at the place, and the cursor is at the next.
pub record ByteAt (bytes : List ℕ) (at byte : ℕ) (cursor : Cursor) : Type 0 where
  pub inside : at < length bytes
  pub here : get_or bytes at 0 ≡ byte
  pub next : cursor.at ≡ at + 1

module _ (bytes : List ℕ) (at : ℕ) {r : Option (ℕ × Cursor)} (h : r ≡ step_at bytes at) where
  pub step_byte : {byte : ℕ} {cursor : Cursor} → r ≡ Some (byte, cursor) → ByteAt bytes at byte cursor
  step_byte {byte} {cursor} e = go (ltb at (length bytes)) refl
    where
      go : (b : Bool) → ltb at (length bytes) ≡ b → ByteAt bytes at byte cursor
      go true p =
          let same : ◌≡◌ {A = ℕ × Cursor} (get_or bytes at 0, record { at = at + 1 }) (byte, cursor) = cc in
          record { inside = ltb-true at (length bytes) p; here = ap (λ (s : ℕ × Cursor). s.0) same; next = sym (ap (λ (s : ℕ × Cursor). s.1.at) same) }
      go false p = let z : ◌≡◌ {A = ℕ} 0 1 = cc in absurd (omega arith)

  pub step_end : r ≡ None → length bytes ≤ at
  step_end e = go (ltb at (length bytes)) refl
    where
      go : (b : Bool) → ltb at (length bytes) ≡ b → length bytes ≤ at
      go true p = let z : ◌≡◌ {A = ℕ} 0 1 = cc in absurd (omega arith)
      go false p = ltb-false at (length bytes) p
