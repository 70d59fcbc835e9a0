-- 01's numbers behind the names that the promises use: "Refusal numbers", the limits, and the rooms of "Two programs".
use Rattle.std.specs.Prelude.{◌≡◌}
use Rattle.theory.specs.Refusal as Refusal
use Rattle.theory.specs.Limit as Limit
use Rattle.theory.specs.Rooms as Rooms

-- The column "no." of 01's table, from the first line on; "Success is 0 with place 0."
pub record RefusalsAre : Type 0 where
  pub success : Refusal.success ≡ Refusal.refusal 0 0
  pub columns_differ : Refusal.columns_differ ≡ 1
  pub table_empty : Refusal.table_empty ≡ 2
  pub table_long : Refusal.table_long ≡ 3
  pub kind_unknown : Refusal.kind_unknown ≡ 4
  pub field_outside : Refusal.field_outside ≡ 5
  pub child_not_smaller : Refusal.child_not_smaller ≡ 6
  pub empty_language_inside : Refusal.empty_language_inside ≡ 7
  pub not_named_once : Refusal.not_named_once ≡ 8
  pub room_small : Refusal.room_small ≡ 9
  pub automaton_malformed : Refusal.automaton_malformed ≡ 10
  pub work_short : Refusal.work_short ≡ 11
  pub text_long : Refusal.text_long ≡ 12
  pub not_grammar : Refusal.not_grammar ≡ 13
  pub too_deep : Refusal.too_deep ≡ 14
  pub too_many_entries : Refusal.too_many_entries ≡ 15
  pub record_long : Refusal.record_long ≡ 16
  -- 2026-01
  pub lines_many : Refusal.lines_many ≡ 22
  -- 2026-02
  pub counts_few : Refusal.counts_few ≡ 23

pub record LimitsAre : Type 0 where
  -- "A table has 1 to 512 entries."
  pub most_entries : Limit.most_entries ≡ 512
  -- "The text has at most 4,096 bytes, at most 64 parentheses open at once."
  pub longest_text : Limit.longest_text ≡ 4096
  pub most_open : Limit.most_open ≡ 64
  -- "65,535 for expressions and states and 16,777,216 for arcs"
  pub most_expressions : Limit.most_expressions ≡ 65535
  pub most_states : Limit.most_states ≡ 65535
  pub most_arcs : Limit.most_arcs ≡ 16777216
  -- "letter | 1 to 255"
  pub last_letter : Limit.last_letter ≡ 255
  -- 2026-01: "more than 100,000 lines"
  pub most_lines : Limit.most_lines ≡ 100000

-- "Both have rooms of 512 entries, 1,024 expressions, 512 states, 4,096 arcs."
pub record RoomsAre : Type 0 where
  pub entries : Rooms.entries ≡ 512
  pub expressions : Rooms.expressions ≡ 1024
  pub states : Rooms.states ≡ 512
  pub arcs : Rooms.arcs ≡ 4096

pub record NumbersAre : Type 0 where
  pub refusals : RefusalsAre
  pub limits : LimitsAre
  pub rooms : RoomsAre
