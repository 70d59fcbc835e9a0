-- What the answer of `matcher::judge` says of a record, over the meanings of `Verdict` and with no test.
use Rattle.std.specs.Prelude.{ℕ, ◌≡◌, ◌↔◌}
use Rattle.theory.specs.Language.{Word}
use Rattle.theory.specs.Record.{Handed, Work, accepted, unfinished, wrong}
use Rattle.theory.specs.Verdict.{SaysOf, Live}
use Rattle.theory.specs.Judge.{Judgement, Judged}

-- 1 accepted, 2 unfinished, 3 wrong at its place, each exactly where that is so; live is how many states the record reaches.
pub record Tells (h : Handed) (w : Word) (answer : Judgement) : Type 0 where
  pub accepted : (answer.verdict ≡ 1) ↔ SaysOf h w accepted
  pub unfinished : (answer.verdict ≡ 2) ↔ SaysOf h w unfinished
  pub wrong : (p : ℕ) → ((answer.verdict ≡ 3) × (answer.place ≡ p)) ↔ SaysOf h w (wrong p)
  pub live : Live h w answer.live

-- Whoever meets the contract of `judge` and does not refuse answers so.
pub record JudgesSo : Type 0 where
  pub tells : {h : Handed} {w : Word} {k k' : Work} {answer : Judgement} → Judged h w k answer k' → answer.refusal.number ≡ 0 → Tells h w answer
