-- An expression followed by stars: what holds as each is read. Knows nothing of the code.
use Prim.Native.Nat.{ℕ, ◌≤◌, ◌<◌}
use native.Mathlib.Omega.{arith}
use mathlib.Core.Path.{◌≡◌}
use mathlib.Core.List.{[], ◌∷◌}
use Rattle.std.specs.Prelude.{Ok}
use Rattle.theory.specs.Kind
use Rattle.theory.specs.Table.{Table}
use Rattle.theory.specs.Grammar.{Text, byte_*}
use Rattle.columns.specs.declared.cursor.Cursor.{Cursor}
use Rattle.reader.specs.Found.{Found, Entry, Start, After, Answered}
use Rattle.columns.proofs.ByteAt.{ByteAt}
use Rattle.reader.proofs.Answers.{star_row, star_answers}

-- Whatever stood before place at₀ stands before place `at`, with the stars that follow it.
pub record Starred (room : ℕ) (text : Text) (at₀ made₀ : ℕ) (t₀ : Table) (at made : ℕ) (t : Table) : Type 0 where
  pub onward : (s : Start) → After room text s at₀ made₀ t₀ → After room text s at made t
  pub positive : 0 < made
  pub fits : made ≤ room

module _ {room : ℕ} {text : Text} {at₀ made₀ : ℕ} {t₀ : Table} {at made byte : ℕ} {t : Table} (x : Starred room text at₀ made₀ t₀ at made t)
    {cursor : Cursor} (h : ByteAt text at byte cursor) (e : byte ≡ byte_*) {k : ℕ} (q : k ≡ Kind.star) where
  pub starred_answers : (r : Found) (t' : Table) → Entry room made cursor (star_row k made ∷ []) t r t'
      → (s : Start) → After room text s at₀ made₀ t₀ → Answered room text s r t'
  starred_answers r t' i s y = star_answers room text s at made t (x.onward s y) byte cursor h e k q r t' i

  pub starred_more : {v : ℕ × Cursor} {t' : Table} → Entry room made cursor (star_row k made ∷ []) t (Ok v) t'
      → Starred room text at₀ made₀ t₀ v.1.at v.0 t'
  starred_more {v} {t'} i =
      record {
        onward = starred_answers (Ok v) t' i;
        positive = omega (arith, i.1);
        fits = omega (arith, i.0, i.1);
      }
