-- What a table's definitions compute row after row, over rows made into columns: a fold along the rows.
use Prim.Native.Nat.{ℕ, suc, ◌+◌}
use native.Mathlib.Nat.{zero-add, add-zero}
use native.Mathlib.Numerals.{add-one}
use native.Mathlib.Omega.{arith}
use mathlib.Core.Path.{◌≡◌, refl, ap, ◌∙◌}
use mathlib.Core.List.{List, [], ◌∷◌, ◌++◌, foldl}
use lib.ListN.{length, length-append}
use lib.Seq.{append_snoc}
use Rattle.theory.specs.Table.{Table, Row, row, columns}

pub row_columns : (us : List Row) (w : Row) (ws : List Row) → row (columns (us ++ w ∷ ws)) (length us) ≡ w
row_columns [] w ws = refl
row_columns (u ∷ us) w ws = row_columns us w ws

module _ {A : Type 0} (step : A → Row → A) (value : ℕ → A) (t : Table) (grows : (n : ℕ) → value (suc n) ≡ step (value n) (row t n)) where
  along_from : (us ws : List Row) → columns (us ++ ws) ≡ t → value (length us + length ws) ≡ foldl step (value (length us)) ws
  along_from us [] e = rw add-zero
  along_from us (w ∷ ws) e =
      let here : row t (length us) ≡ w = rw (← e) (row_columns us w ws) in
      let next : value (length (us ++ w ∷ [])) ≡ step (value (length us)) w = rw (length-append, add-one, grows, here) in
      ap value (simp length-append (omega arith)) ∙ along_from (us ++ w ∷ []) ws (rw append_snoc e) ∙ ap (λ (a : A). foldl step a ws) next

pub along : {A : Type 0} (step : A → Row → A) (value : ℕ → A) (ws : List Row)
    → ((n : ℕ) → value (suc n) ≡ step (value n) (row (columns ws) n)) → value (length ws) ≡ foldl step (value 0) ws
along step value ws grows = rw zero-add at (along_from step value (columns ws) grows [] ws refl)
