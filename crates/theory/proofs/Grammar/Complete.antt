-- Every reading of a text is what the scan answers.
use Prim.Native.Nat.{ℕ, suc, ◌≤◌, ◌<◌}
use native.Mathlib.Nat.{le_of_lt}
use native.Mathlib.Omega.{arith}
use mathlib.Core.Path.{◌≡◌, refl, ap, ◌∙◌}
use mathlib.Core.Logic.{inl, inr}
use mathlib.Core.List.{[], ◌∷◌, ◌++◌, append-nil}
use mathlib.Core.Option.{some}
use lib.ListN.{length, take, drop, get_or}
use lib.Seq.{append_snoc, split_at, take-suc, length-take-le, take-length}
use Rattle.theory.specs.Limit.{most_open}
use Rattle.theory.specs.Refusal.{refusal, not_grammar, too_deep, too_many_entries}
use Rattle.theory.specs.Grammar.{Text, Viable, Whole, Reading, read, refused, depth, made, Passed, Reads, whole, broken, stopped, deep, many}
use Rattle.theory.specs.Scan.{Stand, before, finish, scan_from, scan}
use Rattle.theory.proofs.Grammar.Run.{run, start, finish_whole}
use Rattle.theory.proofs.Grammar.Spell.{whole_run, viable_run, not_viable_run}
use Rattle.theory.proofs.Grammar.Count.{entry_not_deeper}
use Rattle.theory.proofs.Grammar.Passing.{viable_start, shallow_start, fits_start}
use Rattle.theory.proofs.Grammar.Steps.{end_decides, step_broken, step_deep, step_many, step_on}

-- The scan goes on over a text that passes.
scan_passes : (room : ℕ) (u v s : Text) (c c' : Stand) → run start s ≡ some c → run start (s ++ u) ≡ some c' → Passed room (s ++ u)
    → scan_from room (length s) (made s) c (u ++ v) ≡ scan_from room (length (s ++ u)) (made (s ++ u)) c' v
scan_passes room [] v s c c' r r' p = let same : c ≡ c' = cc (append-nil s) in rw (append-nil, same)
scan_passes room (b ∷ u) v s c c' r r' p =
    let p₁ : Passed room (s ++ b ∷ [] ++ u) = rw append_snoc p in
    let here = viable_run (s ++ b ∷ []) (viable_start (s ++ b ∷ []) u p₁.viable) in
    step_on room s c r b (u ++ v) here.0 here.1 (shallow_start room (s ++ b ∷ []) u p₁) (fits_start room (s ++ b ∷ []) u p₁)
    ∙ (rw append_snoc at (scan_passes room u v (s ++ b ∷ []) here.0 c' here.1 (rw append_snoc r') p₁))

module _ (room : ℕ) (s : Text) (passed : Passed room s) where
  -- What the scan answers after s, wherever it stands there, it answers of the whole text.
  scan_after : (t : Text) (q : Reading) → ((c : Stand) → run start s ≡ some c → scan_from room (length s) (made s) c t ≡ q)
      → scan room (s ++ t) ≡ q
  unfolding scan run made
  scan_after t q answer =
      let here = viable_run s passed.viable in
      scan_passes room s t [] (before []) here.0 refl here.1 passed ∙ answer here.0 here.1

  scan_end : (q : Reading) → ((c : Stand) → run start s ≡ some c → finish (length s) c ≡ q) → scan room s ≡ q
  unfolding scan_from
  scan_end q answer = rw append-nil at (scan_after [] q answer)

  scan_broken : (b : ℕ) (t : Text) → ¬ (Viable (s ++ b ∷ [])) → scan room (s ++ b ∷ t) ≡ refused (refusal not_grammar (length s))
  scan_broken b t n = scan_after (b ∷ t) _ (λ c r. step_broken room s c r b t (not_viable_run (s ++ b ∷ []) n))

  scan_deep : (b : ℕ) (t : Text) → Viable (s ++ b ∷ []) → most_open < depth (s ++ b ∷ []) → scan room (s ++ b ∷ t) ≡ refused (refusal too_deep (length s))
  scan_deep b t v d = let on = viable_run (s ++ b ∷ []) v in scan_after (b ∷ t) _ (λ c r. step_deep room s c r b t on.0 on.1 d)

  scan_many : (b : ℕ) (t : Text) → Viable (s ++ b ∷ []) → room < made (s ++ b ∷ [])
      → scan room (s ++ b ∷ t) ≡ refused (refusal too_many_entries (length s))
  scan_many b t v m =
      let on = viable_run (s ++ b ∷ []) v in
      let deeper = entry_not_deeper s b (omega (arith, passed.fits)) in
      let d : depth (s ++ b ∷ []) ≤ most_open = omega (arith, rw take-length at (passed.shallow (length s))) in
      scan_after (b ∷ t) _ (λ c r. step_many room s c r b t on.0 on.1 d m)

unfinished : (s : Text) (c : Stand) → run start s ≡ some c → ¬ (Whole s) → finish (length s) c ≡ refused (refusal not_grammar (length s))
unfinished s c r n = elim (end_decides s c r (length s)) [ inl h ↦ absurd (n h.0) | inr h ↦ h.1 ]

-- ---- A text cut at a byte

cut_answer : (room : ℕ) (t : Text) (p n : ℕ) → p < length t
    → scan room (take p t ++ get_or t p 0 ∷ drop (suc p) t) ≡ refused (refusal n (length (take p t))) → scan room t ≡ refused (refusal n p)
cut_answer room t p n l h = ap (scan room) (split_at t p 0 l) ∙ (rw (length-take-le p t (le_of_lt l)) at h)

pub reads_scan : {room : ℕ} {t : Text} {q : Reading} → Reads room t q → scan room t ≡ q
reads_scan {room} {t} (whole e w x h) = scan_end room t h (read e) (λ c r. cc (whole_run (e, w, x), finish_whole (length t) e))
reads_scan {room} {t} (broken p l h n) =
    cut_answer room t p not_grammar l (scan_broken room (take p t) h (get_or t p 0) (drop (suc p) t) (rw (take-suc t p 0 l) at n))
reads_scan {room} {t} (stopped h n) = scan_end room t h _ (λ c r. unfinished t c r n)
reads_scan {room} {t} (deep p l h v d) =
    cut_answer room t p too_deep l
    (scan_deep room (take p t) h (get_or t p 0) (drop (suc p) t) (rw (take-suc t p 0 l) at v) (rw (take-suc t p 0 l) at d))
reads_scan {room} {t} (many p l h v m) =
    cut_answer room t p too_many_entries l
    (scan_many room (take p t) h (get_or t p 0) (drop (suc p) t) (rw (take-suc t p 0 l) at v) (rw (take-suc t p 0 l) at m))
