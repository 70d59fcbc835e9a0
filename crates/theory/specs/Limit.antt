-- The limits of 01 by name. The code has them under the same names in src/limit.rt.
use Rattle.std.specs.Prelude.{ℕ}

-- "A table has 1 to 512 entries."
abbrev pub most_entries : ℕ
most_entries = 512

-- "The text has at most 4,096 bytes, at most 64 parentheses open at once."
abbrev pub longest_text : ℕ
longest_text = 4096

abbrev pub most_open : ℕ
most_open = 64

-- "Rooms: table length, or 65,535 for expressions and states and 16,777,216 for arcs if that is smaller."
abbrev pub most_expressions : ℕ
most_expressions = 65535

abbrev pub most_states : ℕ
most_states = 65535

abbrev pub most_arcs : ℕ
most_arcs = 16777216

-- A letter is "1 to 255".
abbrev pub last_letter : ℕ
last_letter = 255

-- 2026-01, refusal 22: "more than 100,000 lines".
abbrev pub most_lines : ℕ
most_lines = 100000
