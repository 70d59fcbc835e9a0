-- 01, "Form by location": "Where an answer is an enum, a definition gives this paper's number and values for each of the enum's cases." Here the numbers
-- of the code's causes, and what an answer says of a refusal.
use Rattle.std.specs.Prelude.{ℕ, Result, Ok, Err}
use Rattle.theory.specs.Refusal as paper
use Rattle.theory.specs.declared.refusal.Cause.{Cause}
use Rattle.theory.specs.declared.refusal.Cause.TheVariants.{ColumnsDiffer, TableEmpty, TableLong, KindUnknown, FieldOutside, ChildNotSmaller, EmptyLanguageInside, NotNamedOnce, RoomSmall, AutomatonMalformed, WorkShort, TextLong, NotGrammar, TooDeep, TooManyEntries, RecordLong, LinesMany, CountsFew}
use Rattle.theory.specs.declared.refusal.Refusal.{Refusal}

abbrev pub number : Cause → ℕ
number ColumnsDiffer = paper.columns_differ
number TableEmpty = paper.table_empty
number TableLong = paper.table_long
number KindUnknown = paper.kind_unknown
number FieldOutside = paper.field_outside
number ChildNotSmaller = paper.child_not_smaller
number EmptyLanguageInside = paper.empty_language_inside
number NotNamedOnce = paper.not_named_once
number RoomSmall = paper.room_small
number AutomatonMalformed = paper.automaton_malformed
number WorkShort = paper.work_short
number TextLong = paper.text_long
number NotGrammar = paper.not_grammar
number TooDeep = paper.too_deep
number TooManyEntries = paper.too_many_entries
number RecordLong = paper.record_long
number LinesMany = paper.lines_many
number CountsFew = paper.counts_few

abbrev pub stated : Refusal → paper.Refusal
stated r = paper.refusal (number r.cause) r.place

-- An answer's refusal, or success.
abbrev pub refusal_in : {A : Type 0} → Result A Refusal → paper.Refusal
refusal_in (Ok v) = paper.success
refusal_in (Err r) = stated r
