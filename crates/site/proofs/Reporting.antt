-- What a text comes to in the programs' rooms is its report.
use Prim.Native.Nat.{◌<◌}
use native.Mathlib.Omega.{arith}
use borrow.Author.Tests.{lt-ltb, le-ltb, ltb-true, ltb-false, eq-eqb}
use mathlib.Core.Path.{◌≡◌, refl, sym, ap, ◌∙◌}
use mathlib.Core.Bool.{Bool, true, false, cond, ◌&&◌, ◌||◌}
use lib.ListN.{length}
use lib.Dec.{eqb, ltb}
use Rattle.theory.specs.Expression.{Expression}
use Rattle.theory.specs.Limit.{longest_text}
use Rattle.theory.specs.Refusal.{refusal, success, room_small, text_long}
use Rattle.theory.specs.Automaton.{states, expressions, arcs}
use Rattle.theory.specs.Grammar.{Text, Reading, read, refused}
use Rattle.theory.specs.Read.{Due, differ, long, short}
use Rattle.theory.specs.Scan.{scan}
use Rattle.theory.specs.Arcs.{even_arcs}
use Rattle.theory.specs.Build.{over_room, expression_room, state_room, arc_room}
use Rattle.theory.specs.Rooms
use Rattle.theory.specs.Report.{Report, withheld, needs, too_large, reading, of_reading, report}
use Rattle.theory.proofs.Arcs.{even_arcs_iff}
use Rattle.theory.proofs.Grammar.{scan_reads, reads_once}
use Rattle.theory.proofs.Rows.Trees.{entries_positive}
use Rattle.site.specs.Site.{Shown, InRooms, entry_columns, beside, site_refusal, unless_refused, answered, Made}
use Rattle.site.specs.Totals.{HasEntry}
use Rattle.site.proofs.Judging.{built_from}

-- ---- The reading that is due

pub due_is : {text : Text} {q : Reading} → Due text entry_columns q → q ≡ reading text
unfolding reading
due_is (differ n) = absurd (n (refl, refl))
due_is {text} (long e e' l) = rw (lt-ltb longest_text (length text) l, cond)
due_is {text} (short e e' l r) = rw (le-ltb longest_text (length text) l, cond) (reads_once r (scan_reads Rooms.entries text))

pub is_due : (text : Text) → Due text entry_columns (reading text)
unfolding reading
is_due text = go (ltb longest_text (length text)) refl
  where
    go : (b : Bool) → ltb longest_text (length text) ≡ b → Due text entry_columns (cond b (refused (refusal text_long 0)) (scan Rooms.entries text))
    go true e = long refl refl (ltb-true longest_text (length text) e)
    go false e = short refl refl (ltb-false longest_text (length text) e) (scan_reads Rooms.entries text)

-- Of a text that is too long nothing else is reported, whatever it goes on with.
pub reports_long : (t : Text) → longest_text < length t → report t ≡ withheld (refusal text_long 0)
unfolding report reading of_reading
reports_long t l = rw (lt-ltb longest_text (length t) l, cond)

-- ---- The answer in the programs' rooms

module _ {s : Shown} (rooms : InRooms s) where
  over_is : (e : Expression) → over_room e (beside s) ≡ too_large e
  unfolding over_room too_large
  over_is e =
      let a : arc_room (beside s) ≡ Rooms.arcs = let n = rooms.from in omega arith in
      let x : expression_room (beside s) ≡ Rooms.expressions = omega arith in
      let q : state_room (beside s) ≡ Rooms.states = omega arith in
      λ i. ltb (x i) (length (expressions e)) || ltb (q i) (length (states e)) || ltb (a i) (length (arcs e))

  even_is : (eqb (length s.accepting) Rooms.states && even_arcs s.arcs) ≡ true
  even_is =
      let letter = rooms.letter ∙ sym rooms.from in
      let to = rooms.to ∙ sym rooms.from in
      rw (eq-eqb (length s.accepting) Rooms.states rooms.states, (even_arcs_iff s.arcs).1 (record { letter = letter; to = to }))

  answered_is : (q : Reading) → answered q s ≡ of_reading q
  unfolding answered of_reading site_refusal
  answered_is (read e) = rw (even_is, over_is e) (go (too_large e))
    where
      go : (b : Bool) → unless_refused (cond b (refusal room_small 0) success) (needs e) (withheld (cond b (refusal room_small 0) success))
          ≡ cond b (withheld (refusal room_small 0)) (needs e)
      go true = refl
      go false = refl
  answered_is (refused r) = refl

  pub made_reports : {text : Text} {answer : Report} {s' : Shown} → Made text s answer s' → answer ≡ report text
  unfolding report
  made_reports h = h.answers ∙ answered_is h.reading ∙ ap of_reading (due_is h.due)

pub has_entry : {text : Text} {s : Shown} {answer : Report} {s' : Shown} → Made text s answer s' → HasEntry answer
unfolding needs
has_entry h z =
    let b = built_from h z in
    let n = ap (λ (a : Report). a.entries) b.counts in
    let p = entries_positive b.read_as.expression in
    omega arith
