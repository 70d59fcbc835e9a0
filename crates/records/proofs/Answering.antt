-- The answer to a line: 16, or the line of the verdict that the expression's own automaton gives.
use Prim.Native.Nat.{ℕ, ◌+◌, ◌≤◌}
use native.Mathlib.Omega.{arith}
use mathlib.Core.Path.{◌≡◌, sym, ap, ◌∙◌, subst}
use mathlib.Core.List.{List, ◌++◌}
use lib.ListN.{length, take}
use Rattle.std.specs.Prelude.{Result, Ok, Err}
use Rattle.theory.specs.Refusal.{refusal, record_long}
use Rattle.theory.specs.Grammar.{Text}
use Rattle.theory.specs.Record.{Work, Verdict, accepted, unfinished, wrong, automaton, verdict, live}
use Rattle.theory.specs.Judge.{Judgement, given}
use Rattle.theory.specs.Lines.{verdict_line, refusal_line}
use Rattle.theory.specs.declared.refusal.Refusal.{Refusal}
use Rattle.theory.proofs.Handing.{given_some}
use Rattle.lines.specs.declared.input.Line.{Line}
use Rattle.lines.specs.declared.input.Line.TheVariants.{Ended, Full}
use Rattle.lines.specs.Output.{line_room}
use Rattle.matcher.specs.Answer.{values}
use Rattle.matcher.specs.declared.Verdict as judged
use Rattle.matcher.specs.declared.Verdict.TheVariants.{Accepted, Unfinished, Wrong}
use Rattle.site.specs.Sited.{JudgedOver}
use Rattle.records.specs.Answer.{judgement_line, line_answer, Answered}

-- The matcher's answer is printed as the verdict that it is.
line_of : (j : Result judged.Verdict Refusal) (v : Verdict) (n : ℕ) → values j ≡ given v n → judgement_line j ≡ verdict_line v n
line_of (Err r) v n e = absurd (given_some v n (ap (λ (a : Judgement). a.verdict) e))
line_of (Ok (Accepted l)) accepted n e = ap (verdict_line accepted) (ap (λ (a : Judgement). a.live) e)
line_of (Ok (Accepted l)) unfinished n e = absurd (let q = ap (λ (a : Judgement). a.verdict) e in omega arith)
line_of (Ok (Accepted l)) (wrong p) n e = absurd (let q = ap (λ (a : Judgement). a.verdict) e in omega arith)
line_of (Ok (Unfinished l)) accepted n e = absurd (let q = ap (λ (a : Judgement). a.verdict) e in omega arith)
line_of (Ok (Unfinished l)) unfinished n e = ap (verdict_line unfinished) (ap (λ (a : Judgement). a.live) e)
line_of (Ok (Unfinished l)) (wrong p) n e = absurd (let q = ap (λ (a : Judgement). a.verdict) e in omega arith)
line_of (Ok (Wrong p)) accepted n e = absurd (let q = ap (λ (a : Judgement). a.verdict) e in omega arith)
line_of (Ok (Wrong p)) unfinished n e = absurd (let q = ap (λ (a : Judgement). a.verdict) e in omega arith)
line_of (Ok (Wrong p)) (wrong p') n e = ap (λ (q : ℕ). verdict_line (wrong q) 0) (ap (λ (a : Judgement). a.place) e)

module _ {text : Text} {line : Line} {column held held' : List ℕ} (short : length held' ≤ length held + line_room) where
  pub answered_long : line ≡ Full → held' ≡ held ++ refusal_line (refusal record_long 0) → Answered text line column held held'
  unfolding line_answer
  answered_long q p =
      subst (λ (l : Line). Answered text l column held held') (sym q) (record { stands = λ e w s. p; short = short })

  pub answered_record : {n : ℕ} {k k' : Work} (j : Result judged.Verdict Refusal) → line ≡ Ended n → JudgedOver text (take n column) k (values j) k'
      → held' ≡ held ++ judgement_line j → Answered text line column held held'
  unfolding line_answer
  answered_record {n} j q h p =
      subst (λ (l : Line). Answered text l column held held') (sym q)
      (record {
        stands = λ e w s.
            let word = take n column in
            p ∙ ap (λ (x : List ℕ). held ++ x) (line_of j (verdict (automaton e) word) (live (automaton e) word) (h.judges e w s).answers);
        short = short;
      })
