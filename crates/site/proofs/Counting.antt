-- The letters among the entries, counted by place or one after the other.
use Prim.Native.Nat.{ℕ, ◌+◌}
use native.Mathlib.Omega.{arith}
use mathlib.Core.Path.{◌≡◌, refl, sym, ap, ◌∙◌}
use mathlib.Core.Bool.{cond}
use mathlib.Core.List.{List, ◌∷◌}
use lib.ListN.{length, get_or}
use lib.Dec.{eqb}
use Rattle.std.specs.Prelude.{count_by}
use Rattle.std.proofs.lemmas.List.Recursion.{is_count_by}
use Rattle.theory.specs.Kind
use Rattle.theory.specs.Below.{count_below}
use Rattle.theory.proofs.Below.{count_front}

abbrev pub lettered : List ℕ → ℕ → ℕ
lettered kind n = count_below n (λ i. eqb (get_or kind i 0) Kind.letter)

pub letters_counted : (kind : List ℕ) → count_by (λ k. eqb k Kind.letter) kind ≡ lettered kind (length kind)
unfolding count_below
letters_counted kind = sym (is_count_by (λ xs. lettered xs (length xs)) (λ k. eqb k Kind.letter) refl more kind)
  where
    more : (x : ℕ) (xs : List ℕ) → lettered (x ∷ xs) (length (x ∷ xs))
        ≡ cond (eqb x Kind.letter) (1 + lettered xs (length xs)) (lettered xs (length xs))
    more x xs =
        count_front (length xs) (λ i. eqb (get_or (x ∷ xs) i 0) Kind.letter)
        ∙ ap (λ (n : ℕ). cond (eqb x Kind.letter) n (lettered xs (length xs))) (omega arith)
