-- The laws of the grammar: every text has a reading and only one, which is what the scan answers, and no text is written for two
-- expressions.
use Prim.Native.Nat.{ℕ}
use mathlib.Core.Path.{◌≡◌, refl, sym, ◌∙◌}
use mathlib.Core.List.{[]}
use mathlib.Core.Option.{some}
use Rattle.theory.specs.Expression.{Expression}
use Rattle.theory.specs.Grammar.{Text, written, Writable, Reading, read, Reads, made}
use Rattle.theory.specs.Scan.{before, scan}
use Run.{run, whole_stand, run_whole, finish_whole}
use Passing.{passed_nil}
use Sound.{scan_from_reads}
pub mod Bytes
pub mod Run
pub mod Spell
pub mod Count
pub mod Passing
pub mod Steps
pub mod Sound
pub mod Complete
pub use Complete.{reads_scan}

-- The executable reading is a reading, refusals and places included.
pub scan_reads : (room : ℕ) (t : Text) → Reads room t (scan room t)
unfolding scan run made
scan_reads room t = scan_from_reads room t [] (before []) refl (passed_nil room)

pub reads_once : {room : ℕ} {t : Text} {r r' : Reading} → Reads room t r → Reads room t r' → r ≡ r'
reads_once h h' = sym (reads_scan h) ∙ reads_scan h'

pub unambiguous : (e e' : Expression) → Writable e → Writable e' → written e ≡ written e' → e ≡ e'
unambiguous e e' w w' q =
    let stands : some (whole_stand e) ≡ some (whole_stand e') = cc (run_whole e w, run_whole e' w') in
    let readings : read e ≡ read e' = cc (finish_whole 0 e, finish_whole 0 e') in
    cc
