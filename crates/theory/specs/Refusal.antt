-- 01, "Refusal numbers": the numbers by name, and a refusal with its place.
use Rattle.std.specs.Prelude.{ℕ, cond, eqb}

-- 01: "A refusal returns its number and place"; "Success is 0 with place 0."
pub record Refusal : Type 0 where
  pub number : ℕ
  pub place : ℕ

abbrev pub refusal : ℕ → ℕ → Refusal
refusal n p = record { number = n; place = p }

abbrev pub success : Refusal
success = refusal 0 0

-- the first refusal where there is one, else the second
abbrev pub or_else : Refusal → Refusal → Refusal
or_else r s = cond (eqb r.number 0) s r

abbrev pub columns_differ : ℕ
columns_differ = 1

abbrev pub table_empty : ℕ
table_empty = 2

abbrev pub table_long : ℕ
table_long = 3

abbrev pub kind_unknown : ℕ
kind_unknown = 4

abbrev pub field_outside : ℕ
field_outside = 5

abbrev pub child_not_smaller : ℕ
child_not_smaller = 6

abbrev pub empty_language_inside : ℕ
empty_language_inside = 7

abbrev pub not_named_once : ℕ
not_named_once = 8

abbrev pub room_small : ℕ
room_small = 9

abbrev pub automaton_malformed : ℕ
automaton_malformed = 10

abbrev pub work_short : ℕ
work_short = 11

abbrev pub text_long : ℕ
text_long = 12

abbrev pub not_grammar : ℕ
not_grammar = 13

abbrev pub too_deep : ℕ
too_deep = 14

abbrev pub too_many_entries : ℕ
too_many_entries = 15

-- the records program's own: no library call gives it
abbrev pub record_long : ℕ
record_long = 16

-- the room report's own
abbrev pub lines_many : ℕ
lines_many = 22

-- the host's
abbrev pub counts_few : ℕ
counts_few = 23
