-- Laws of a column that is filled up with zero: its length, what is read of it, and one number more in it.
use Prim.Native.Nat.{ℕ, zero, suc, ◌-◌, ◌≤◌, ◌<◌}
use native.Mathlib.Nat.{sub-zero}
use native.Mathlib.Numerals.{add-one}
use native.Mathlib.Omega.{arith}
use mathlib.Core.Path.{◌≡◌, refl, sym, ap, ap₂, ◌∙◌}
use mathlib.Core.List.{List, [], ◌∷◌, ◌++◌, map, map-append}
use lib.ListN.{length, get_or, take, set, length-append, length-map, length-set, length-replicate}
use lib.Seq.{take-append_seam, set-append_seam, append_snoc}
use Rattle.theory.specs.Column.{zeros, filled}

pub get_or_zeros : (n i : ℕ) → get_or (zeros n) i 0 ≡ 0
get_or_zeros zero i = refl
get_or_zeros (suc n) zero = refl
get_or_zeros (suc n) (suc i) = get_or_zeros n i

-- Zero is also what is read beyond a column's end.
get_or_more : (xs : List ℕ) (n i : ℕ) → get_or (xs ++ zeros n) i 0 ≡ get_or xs i 0
get_or_more [] n i = get_or_zeros n i
get_or_more (x ∷ xs) n zero = refl
get_or_more (x ∷ xs) n (suc i) = get_or_more xs n i

-- A column that is all zero is filled with nothing.
pub zero_filled : (n : ℕ) → zeros n ≡ filled n []
zero_filled n = ap zeros (sym (sub-zero n))

module _ (n : ℕ) (xs : List ℕ) where
  pub get_or_filled : (i : ℕ) → get_or (filled n xs) i 0 ≡ get_or xs i 0
  get_or_filled i = get_or_more xs (n - length xs) i

  pub take_filled : take (length xs) (filled n xs) ≡ xs
  take_filled = take-append_seam xs (zeros (n - length xs))

  pub filled_length : length xs ≤ n → length (filled n xs) ≡ n
  filled_length l = simp (length-append, length-replicate) (omega arith)

  -- Filling up takes nothing away.
  pub filled_holds : length xs ≤ length (filled n xs)
  filled_holds = omega (arith, length-append xs (zeros (n - length xs)))

-- ---- One number more

pub column_more : (column xs : List ℕ) (n v : ℕ) → column ≡ filled (length column) xs → n ≡ length xs → n < length column
    → set column n v ≡ filled (length (set column n v)) (xs ++ (v ∷ []))
column_more column xs n v e q l =
    let room : length column - length xs ≡ suc (length column - suc (length xs)) = omega arith in
    let rest = zeros (length column - suc (length xs)) in
    ap₂ (λ (c : List ℕ) (k : ℕ). set c k v) (e ∙ ap (λ (k : ℕ). xs ++ zeros k) room) q
    ∙ set-append_seam xs 0 rest v
    ∙ sym (append_snoc xs v rest)
    ∙ ap (λ (k : ℕ). xs ++ (v ∷ []) ++ zeros k)
    (sym (ap₂ (λ (a b : ℕ). a - b) (length-set column n v) (length-append xs (v ∷ []) ∙ add-one (length xs))))

-- The same of a column of fields.
pub field_more : {A : Type 0} (f : A → ℕ) (ms : List A) (m : A) (column : List ℕ) (n v : ℕ) → column ≡ filled (length column) (map f ms) → n ≡ length ms
    → n < length column → v ≡ f m → set column n v ≡ filled (length (set column n v)) (map f (ms ++ (m ∷ [])))
field_more f ms m column n v e q l w =
    column_more column (map f ms) n v e (q ∙ sym (length-map ms f)) l
    ∙ ap (λ (k : ℕ). filled (length (set column n v)) (map f ms ++ (k ∷ []))) w
    ∙ ap (filled (length (set column n v))) (sym (map-append f ms (m ∷ [])))
