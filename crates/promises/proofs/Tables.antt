-- 01's kinds by their numbers. Computed.
use Prim.Native.Nat.{ℕ, ◌≤◌}
use mathlib.Core.Path.{◌≡◌, refl}
use mathlib.Core.Bool.{Bool, true, false, ◌&&◌, false≢true, and-eq-true_iff}
use mathlib.Core.Logic.{◌↔◌, ◌⊎◌, inl, inr, ⊎_elim}
use lib.Dec.{T, leb}
use borrow.Author.Tests.{leb-true, le-leb}
use Rattle.theory.specs.Expression.{letter}
use Rattle.theory.specs.Table.{tree, kind_of_sign, table_refusal}
use Rattle.theory.specs.Grammar.{is_letter, written, Writable, rows, sign_byte}
use Rattle.theory.proofs.Tests.{or_true, or_of}
use Rattle.promises.specs.Tables.{TablesMean, TablesRefused}

-- What is true and a test that passes.
passed : (b : Bool) → T b → b ≡ true
passed true t = refl
passed false t = absurd t

passes : (b : Bool) → b ≡ true → T b
passes true e = tt
passes false e = absurd (false≢true e)

between : (l b h : ℕ) → (leb l b && leb b h) ≡ true → (l ≤ b) × (b ≤ h)
between l b h e = let (p, q) = (and-eq-true_iff (leb l b) (leb b h)).0 e in (leb-true _ _ p, leb-true _ _ q)

between_of : (l b h : ℕ) → (l ≤ b) × (b ≤ h) → (leb l b && leb b h) ≡ true
between_of l b h (p, q) = rw (le-leb _ _ p, le-leb _ _ q)

letter_bytes : (b : ℕ) → Writable (letter b) ↔ (((65 ≤ b) × (b ≤ 90)) ⊎ ((97 ≤ b) × (b ≤ 122)))
unfolding is_letter
letter_bytes b = (
  λ t. ⊎_elim (λ e. inl (between 65 b 90 e)) (λ e. inr (between 97 b 122 e)) (or_true (leb 65 b && leb b 90) _ (passed (is_letter b) t)),
  λ h. passes (is_letter b)
      (or_of (leb 65 b && leb b 90) (leb 97 b && leb b 122) (⊎_elim (λ p. inl (between_of 65 b 90 p)) (λ p. inr (between_of 97 b 122 p)) h)),
)

pub tables_mean : TablesMean
unfolding tree written rows kind_of_sign sign_byte
tables_mean = record {
  kind_0 = refl;
  kind_1 = refl;
  kind_2 = λ a. refl;
  kind_3 = refl;
  kind_4 = refl;
  kind_5 = refl;
  kind_6 = refl;
  reads_0 = record { spelled = refl; entries = refl };
  reads_1 = record { spelled = refl; entries = refl };
  reads_union = record { spelled = refl; entries = refl };
  reads_concatenation = record { spelled = refl; entries = refl };
  reads_shuffle = record { spelled = refl; entries = refl };
  reads_star = record { spelled = refl; entries = refl };
  letters = letter_bytes;
}

pub tables_refused : TablesRefused
unfolding table_refusal
tables_refused = record {
  left_short = refl;
  right_long = refl;
  no_entry = refl;
  entries_513 = refl;
  entries_512 = refl;
  kind_7 = refl;
  letter_0 = refl;
  letter_1 = refl;
  letter_255 = refl;
  letter_256 = refl;
  letter_right = refl;
  empty_language_left = refl;
  empty_language_right = refl;
  empty_word_left = refl;
  empty_word_right = refl;
  star_right = refl;
  child_itself = refl;
  child_right = refl;
  empty_language_inside = refl;
  named_twice = refl;
  named_never = refl;
}
