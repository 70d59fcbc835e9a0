-- 01, "The expression table", each kind by its number: the tree that a table stands for, and the text and the table that an expression has.
use Rattle.std.specs.Prelude.{ℕ, ◌≤◌, ◌≡◌, ◌↔◌, ◌⊎◌, [], ◌∷◌}
use Rattle.theory.specs.Expression.{Expression, ∅, ε, letter, binary, star, union, concatenation, shuffle}
use Rattle.theory.specs.Refusal.{refusal}
use Rattle.theory.specs.Column.{zeros}
use Rattle.theory.specs.Table.{Table, table, columns, tree, table_refusal}
use Rattle.theory.specs.Grammar.{Text, written, Writable, rows}

-- The expression is written as this text, and its entries, in the order in which they are made, are this table.
pub record Reads (text : Text) (e : Expression) (t : Table) : Type 0 where
  pub spelled : written e ≡ text
  pub entries : columns (rows 0 e) ≡ t

pub record TablesMean : Type 0 where
  -- "0 | empty language | 0 | 0"
  pub kind_0 : tree (table (0 ∷ []) (0 ∷ []) (0 ∷ [])) ≡ ∅
  -- "1 | empty word | 0 | 0"
  pub kind_1 : tree (table (1 ∷ []) (0 ∷ []) (0 ∷ [])) ≡ ε
  -- "2 | letter | 1 to 255 | 0"
  pub kind_2 : (a : ℕ) → tree (table (2 ∷ []) (a ∷ []) (0 ∷ [])) ≡ letter a
  -- "3, 4, 5 | union, concatenation, shuffle | child | child": here of the letters 97 and 98
  pub kind_3 : tree (table (2 ∷ 2 ∷ 3 ∷ []) (97 ∷ 98 ∷ 0 ∷ []) (0 ∷ 0 ∷ 1 ∷ [])) ≡ binary union (letter 97) (letter 98)
  pub kind_4 : tree (table (2 ∷ 2 ∷ 4 ∷ []) (97 ∷ 98 ∷ 0 ∷ []) (0 ∷ 0 ∷ 1 ∷ [])) ≡ binary concatenation (letter 97) (letter 98)
  pub kind_5 : tree (table (2 ∷ 2 ∷ 5 ∷ []) (97 ∷ 98 ∷ 0 ∷ []) (0 ∷ 0 ∷ 1 ∷ [])) ≡ binary shuffle (letter 97) (letter 98)
  -- "6 | star | child | 0"
  pub kind_6 : tree (table (2 ∷ 6 ∷ []) (97 ∷ 0 ∷ []) (0 ∷ 0 ∷ [])) ≡ star (letter 97)
  -- 01, "The written expression": "Entries are made in this order: `0`, `1` or a letter at its byte, a star at its `*`, a sign's entry at its `)`."
  -- 0
  pub reads_0 : Reads (48 ∷ []) ∅ (table (0 ∷ []) (0 ∷ []) (0 ∷ []))
  -- 1
  pub reads_1 : Reads (49 ∷ []) ε (table (1 ∷ []) (0 ∷ []) (0 ∷ []))
  -- (a+b)
  pub reads_union : Reads (40 ∷ 97 ∷ 43 ∷ 98 ∷ 41 ∷ []) (binary union (letter 97) (letter 98))
      (table (2 ∷ 2 ∷ 3 ∷ []) (97 ∷ 98 ∷ 0 ∷ []) (0 ∷ 0 ∷ 1 ∷ []))
  -- (a.b)
  pub reads_concatenation : Reads (40 ∷ 97 ∷ 46 ∷ 98 ∷ 41 ∷ []) (binary concatenation (letter 97) (letter 98))
      (table (2 ∷ 2 ∷ 4 ∷ []) (97 ∷ 98 ∷ 0 ∷ []) (0 ∷ 0 ∷ 1 ∷ []))
  -- (a&b)
  pub reads_shuffle : Reads (40 ∷ 97 ∷ 38 ∷ 98 ∷ 41 ∷ []) (binary shuffle (letter 97) (letter 98))
      (table (2 ∷ 2 ∷ 5 ∷ []) (97 ∷ 98 ∷ 0 ∷ []) (0 ∷ 0 ∷ 1 ∷ []))
  -- a*
  pub reads_star : Reads (97 ∷ 42 ∷ []) (star (letter 97)) (table (2 ∷ 6 ∷ []) (97 ∷ 0 ∷ []) (0 ∷ 0 ∷ []))
  -- "one letter `A`-`Z` or `a`-`z`"
  pub letters : (b : ℕ) → Writable (letter b) ↔ (((65 ≤ b) × (b ≤ 90)) ⊎ ((97 ≤ b) × (b ≤ 122)))

-- 01's table of refusals, 1 to 8, in tables of one to three entries and of 512 and 513: the number, and the entry that it stands at.
pub record TablesRefused : Type 0 where
  -- "columns of one table differ in length"
  pub left_short : table_refusal (table (1 ∷ []) [] (0 ∷ [])) ≡ refusal 1 0
  pub right_long : table_refusal (table (1 ∷ []) (0 ∷ []) (0 ∷ 0 ∷ [])) ≡ refusal 1 0
  -- "expression table empty"
  pub no_entry : table_refusal (table [] [] []) ≡ refusal 2 0
  -- "more than 512 entries": with 512 the table is looked at, and its kind 0 refused
  pub entries_513 : table_refusal (table (zeros 513) (zeros 513) (zeros 513)) ≡ refusal 3 0
  pub entries_512 : table_refusal (table (zeros 512) (zeros 512) (zeros 512)) ≡ refusal 7 0
  -- "unknown kind"
  pub kind_7 : table_refusal (table (7 ∷ []) (0 ∷ []) (0 ∷ [])) ≡ refusal 4 0
  -- "letter range, or a field that should be 0"
  pub letter_0 : table_refusal (table (2 ∷ []) (0 ∷ []) (0 ∷ [])) ≡ refusal 5 0
  pub letter_1 : table_refusal (table (2 ∷ []) (1 ∷ []) (0 ∷ [])) ≡ refusal 0 0
  pub letter_255 : table_refusal (table (2 ∷ []) (255 ∷ []) (0 ∷ [])) ≡ refusal 0 0
  pub letter_256 : table_refusal (table (2 ∷ []) (256 ∷ []) (0 ∷ [])) ≡ refusal 5 0
  pub letter_right : table_refusal (table (2 ∷ []) (97 ∷ []) (1 ∷ [])) ≡ refusal 5 0
  pub empty_language_left : table_refusal (table (0 ∷ []) (1 ∷ []) (0 ∷ [])) ≡ refusal 5 0
  pub empty_language_right : table_refusal (table (0 ∷ []) (0 ∷ []) (1 ∷ [])) ≡ refusal 5 0
  pub empty_word_left : table_refusal (table (1 ∷ []) (1 ∷ []) (0 ∷ [])) ≡ refusal 5 0
  pub empty_word_right : table_refusal (table (1 ∷ []) (0 ∷ []) (1 ∷ [])) ≡ refusal 5 0
  pub star_right : table_refusal (table (2 ∷ 6 ∷ []) (97 ∷ 0 ∷ []) (0 ∷ 1 ∷ [])) ≡ refusal 5 1
  -- "child not smaller than its parent"
  pub child_itself : table_refusal (table (2 ∷ 6 ∷ []) (97 ∷ 1 ∷ []) (0 ∷ 0 ∷ [])) ≡ refusal 6 1
  pub child_right : table_refusal (table (2 ∷ 2 ∷ 5 ∷ []) (97 ∷ 98 ∷ 0 ∷ []) (0 ∷ 0 ∷ 2 ∷ [])) ≡ refusal 6 2
  -- "kind 0 in a table of more than one entry"
  pub empty_language_inside : table_refusal (table (0 ∷ 6 ∷ []) (0 ∷ 0 ∷ []) (0 ∷ 0 ∷ [])) ≡ refusal 7 0
  -- "an entry other than the last not named exactly once; the smallest such"
  pub named_twice : table_refusal (table (2 ∷ 4 ∷ []) (97 ∷ 0 ∷ []) (0 ∷ 0 ∷ [])) ≡ refusal 8 0
  pub named_never : table_refusal (table (2 ∷ 2 ∷ 6 ∷ []) (97 ∷ 98 ∷ 0 ∷ []) (0 ∷ 0 ∷ 0 ∷ [])) ≡ refusal 8 1
