-- 01, "The written expression", and refusals 13 to 15: what a text may be and what its reading is, without a parser. `Scan` has the reading
-- that computes.
use Rattle.std.specs.Prelude.{ℕ, suc, ◌+◌, ◌-◌, ◌≤◌, ◌<◌, pred, ◌≡◌, Bool, cond, not, ◌&&◌, ◌||◌, List, [], ◌∷◌, ◌++◌, length, take, T, eqb, leb}
use Rattle.theory.specs.Kind
use Rattle.theory.specs.Expression.{Expression, Sign, ∅, ε, letter, binary, star, union, concatenation, shuffle, entries}
use Rattle.theory.specs.Limit.{most_open}
use Rattle.theory.specs.Refusal.{Refusal, refusal, not_grammar, too_deep, too_many_entries}
use Rattle.theory.specs.Table.{Row, entry, kind_of_sign, times}

abbrev pub Text : Type 0
Text = List ℕ

-- ---- The bytes

abbrev pub byte_& : ℕ
byte_& = 38

abbrev pub byte_open : ℕ
byte_open = 40

abbrev pub byte_close : ℕ
byte_close = 41

abbrev pub byte_* : ℕ
byte_* = 42

abbrev pub byte_+ : ℕ
byte_+ = 43

abbrev pub byte_dot : ℕ
byte_dot = 46

abbrev pub byte_0 : ℕ
byte_0 = 48

abbrev pub byte_1 : ℕ
byte_1 = 49

abbrev pub byte_A : ℕ
byte_A = 65

abbrev pub byte_Z : ℕ
byte_Z = 90

abbrev pub byte_a : ℕ
byte_a = 97

abbrev pub byte_z : ℕ
byte_z = 122

-- 01: "one letter `A`-`Z` or `a`-`z`".
unfoldable pub is_letter : ℕ → Bool
is_letter b = (leb byte_A b && leb b byte_Z) || (leb byte_a b && leb b byte_z)

-- 01: "with sign `+`, `.` or `&`"; "the sign `&` for shuffle, `+` for union and `.` for concatenation".
unfoldable pub sign_byte : Sign → ℕ
sign_byte union = byte_+
sign_byte concatenation = byte_dot
sign_byte shuffle = byte_&

-- ---- What a written expression is

-- 01: "`0` alone is the empty language. Otherwise an expression is `1`, or one letter, or `(` expression sign expression `)`,
-- or an expression followed by `*`."
unfoldable pub written : Expression → Text
unfolding sign_byte
written ∅ = byte_0 ∷ []
written ε = byte_1 ∷ []
written (letter a) = a ∷ []
written (binary s x y) = byte_open ∷ (written x ++ sign_byte s ∷ (written y ++ byte_close ∷ []))
written (star x) = written x ++ byte_* ∷ []

-- The expressions of the sentence's "otherwise".
abbrev pub Inner : Expression → Type 0
Inner ∅ = ⊥
Inner ε = Unit {0}
Inner (letter a) = T (is_letter a)
Inner (binary s x y) = Inner x × Inner y
Inner (star x) = Inner x

-- The expressions that can be written: `0` alone, or one of the others.
abbrev pub Writable : Expression → Type 0
Writable ∅ = Unit {0}
Writable ε = Inner ε
Writable (letter a) = Inner (letter a)
Writable (binary s x y) = Inner (binary s x y)
Writable (star x) = Inner (star x)

-- The text is an expression.
abbrev pub Whole : Text → Type 0
Whole t = (e : Expression) × Writable e × (written e ≡ t)

-- The grammar alone allows some text that begins so.
abbrev pub Viable : Text → Type 0
Viable s = (rest : Text) × Whole (s ++ rest)

-- ---- What a start of a text has opened and made

-- "parentheses open at once": those opened less those closed.
unfoldable pub depth : Text → ℕ
unfolding times
depth s = times byte_open s - times byte_close s

-- 01: "Entries are made in this order: `0`, `1` or a letter at its byte, a star at its `*`, a sign's entry at its `)`."
unfoldable pub makes_entry : ℕ → Bool
makes_entry b = not (eqb b byte_open || eqb b byte_+ || eqb b byte_dot || eqb b byte_&)

unfoldable pub made : Text → ℕ
unfolding makes_entry
made [] = 0
made (b ∷ t) = cond (makes_entry b) (suc (made t)) (made t)

-- ---- The reading, by what it is

pub data Reading : Type 0 where
  read : Expression → Reading
  refused : Refusal → Reading

-- Nothing is refused at any byte of s: the grammar goes on from it, no start of it has more than 64 parentheses open, and it has
-- made no entry more than `room`.
pub record Passed (room : ℕ) (s : Text) : Type 0 where
  pub viable : Viable s
  pub shallow : (p : ℕ) → depth (take p s) ≤ most_open
  pub fits : made s ≤ room

-- The refusal table's lines for 13, 14 and 15: p is the earliest byte at which one of them is due, since the start before it has passed.
pub data Reads (room : ℕ) (t : Text) : Reading → Type 0 where
  whole : (e : Expression) → Writable e → written e ≡ t → Passed room t → Reads room t (read e)
  broken : (p : ℕ) → p < length t → Passed room (take p t) → ¬ Viable (take (suc p) t) → Reads room t (refused (refusal not_grammar p))
  stopped : Passed room t → ¬ Whole t → Reads room t (refused (refusal not_grammar (length t)))
  deep : (p : ℕ) → p < length t → Passed room (take p t) → Viable (take (suc p) t) → most_open < depth (take (suc p) t)
      → Reads room t (refused (refusal too_deep p))
  many : (p : ℕ) → p < length t → Passed room (take p t) → Viable (take (suc p) t) → room < made (take (suc p) t)
      → Reads room t (refused (refusal too_many_entries p))

-- ---- The entries of an expression that was read

-- Rows as they are made, the first of them with number `base`: an expression's last row is its own.
unfoldable pub rows : ℕ → Expression → List Row
unfolding entries kind_of_sign
rows base ∅ = entry Kind.empty_language 0 0 ∷ []
rows base ε = entry Kind.empty_word 0 0 ∷ []
rows base (letter a) = entry Kind.letter a 0 ∷ []
rows base (binary s x y) =
    rows base x ++ rows (base + entries x) y
    ++ (entry (kind_of_sign s) (base + pred (entries x)) (base + entries x + pred (entries y)) ∷ [])
rows base (star x) = rows base x ++ (entry Kind.star (base + pred (entries x)) 0 ∷ [])
