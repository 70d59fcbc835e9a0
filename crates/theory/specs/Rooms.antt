-- 01, "Two programs": "rooms of 512 entries, 1,024 expressions, 512 states, 4,096 arcs". The code has them under the same names in
-- crates/site/src/lib.rt.
use Rattle.std.specs.Prelude.{ℕ}

abbrev pub entries : ℕ
entries = 512

abbrev pub expressions : ℕ
expressions = 1024

abbrev pub states : ℕ
states = 512

abbrev pub arcs : ℕ
arcs = 4096
