-- 01's numbers. Computed.
use mathlib.Core.Path.{refl}
use Rattle.promises.specs.Numbers.{NumbersAre}

pub numbers_are : NumbersAre
numbers_are = record {
  refusals = record {
    success = refl;
    columns_differ = refl;
    table_empty = refl;
    table_long = refl;
    kind_unknown = refl;
    field_outside = refl;
    child_not_smaller = refl;
    empty_language_inside = refl;
    not_named_once = refl;
    room_small = refl;
    automaton_malformed = refl;
    work_short = refl;
    text_long = refl;
    not_grammar = refl;
    too_deep = refl;
    too_many_entries = refl;
    record_long = refl;
    lines_many = refl;
    counts_few = refl;
  };
  limits = record {
    most_entries = refl;
    longest_text = refl;
    most_open = refl;
    most_expressions = refl;
    most_states = refl;
    most_arcs = refl;
    last_letter = refl;
    most_lines = refl;
  };
  rooms = record { entries = refl; expressions = refl; states = refl; arcs = refl };
}
