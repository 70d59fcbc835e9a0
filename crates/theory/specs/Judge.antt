-- The promise of `matcher::judge`: what it answers and what it leaves in the work columns, for every input.
use Rattle.std.specs.Prelude.{ℕ, ◌≡◌, true, false, eqb}
use Rattle.theory.specs.Refusal.{Refusal, success}
use Rattle.theory.specs.Language.{Word}
use Rattle.theory.specs.Record.{Handed, Work, cleared, Verdict, accepted, unfinished, wrong, verdict, live, matcher_refusal}

-- The answer as numbers: the refusal, the verdict (1 accepted, 2 unfinished, 3 wrong, and 0 where the call is refused), its place, and live.
pub record Judgement : Type 0 where
  pub refusal : Refusal
  pub verdict : ℕ
  pub place : ℕ
  pub live : ℕ

abbrev pub given : Verdict → ℕ → Judgement
given accepted n = record { refusal = success; verdict = 1; place = 0; live = n }
given unfinished n = record { refusal = success; verdict = 2; place = 0; live = n }
given (wrong p) n = record { refusal = success; verdict = 3; place = p; live = n }

-- 01: "A refusal returns its number and place and zero in every count".
abbrev pub withheld : Refusal → Judgement
withheld r = record { refusal = r; verdict = 0; place = 0; live = 0 }

unfoldable pub judgement : Handed → Work → Word → Judgement
unfolding matcher_refusal verdict live
judgement h k w =
    elim (eqb (matcher_refusal h k).number 0) [ true ↦ given (verdict h w) (live h w) | false ↦ withheld (matcher_refusal h k) ]

-- What `judge` owes: the answer, and the work columns zero whole on every way out (01: "Work columns are zero afterwards").
pub record Judged (h : Handed) (w : Word) (k : Work) (answer : Judgement) (k' : Work) : Type 0 where
  pub answers : answer ≡ judgement h k w
  pub cleared : k' ≡ cleared k
