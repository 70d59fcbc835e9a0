-- The place before a cursor, and the bytes that are no sign.
use Prim.Native.Nat.{ℕ, ◌-◌}
use native.Mathlib.Omega.{arith}
use mathlib.Core.Path.{◌≡◌}
use mathlib.Core.List.{List}
use Rattle.columns.specs.declared.cursor.Cursor.{Cursor}
use Rattle.columns.proofs.ByteAt.{ByteAt}
use Rattle.theory.specs.Grammar.{sign_byte, byte_+, byte_dot, byte_&}
use Rattle.theory.specs.Expression.{Sign, union, concatenation, shuffle}

-- The byte before the cursor after a place is the place's.
pub byte_before : {text : List ℕ} {at byte : ℕ} {cursor : Cursor} → ByteAt text at byte cursor → cursor.at - 1 ≡ at
byte_before s = omega (arith, s.next)

-- ---- The signs

pub no_sign : (byte : ℕ) → (byte ≡ byte_+ → ⊥) → (byte ≡ byte_dot → ⊥) → (byte ≡ byte_& → ⊥) → (g : Sign) → byte ≡ sign_byte g → ⊥
unfolding sign_byte
no_sign byte p d a union = p
no_sign byte p d a concatenation = d
no_sign byte p d a shuffle = a
