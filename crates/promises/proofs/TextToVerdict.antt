-- From a text to the verdict on a record. Leans on `read_then_build` and the second demand.
use mathlib.Core.Path.{◌≡◌, sym, ◌∙◌, subst}
use mathlib.Core.Logic.{◌↔◌}
use Rattle.theory.specs.Expression.{Expression}
use Rattle.theory.specs.Language.{Word, In}
use Rattle.theory.specs.Grammar.{Text, written, Writable}
use Rattle.theory.specs.Judge.{Judgement}
use Rattle.theory.proofs.Grammar.{unambiguous}
use Rattle.promises.specs.TextToVerdict.{Run, TextToVerdict}
use Rattle.promises.proofs.Handing.{accepted_exactly}
use Rattle.promises.proofs.ReadThenBuild.{read_then_build}

accepts : {text : Text} {w : Word} {answer : Judgement} → Run text w answer → (e : Expression) → Writable e → written e ≡ text
    → (answer.verdict ≡ 1) ↔ In e w
accepts {w = w} {answer} run e writable spelled =
    let r = read_then_build run.reads run.read in
    subst (λ (x : Expression). (answer.verdict ≡ 1) ↔ In x w) (unambiguous _ e r.writable writable (r.spelled ∙ sym spelled))
    (accepted_exactly run.builds run.built run.judges run.enough).1

pub text_to_verdict : TextToVerdict
text_to_verdict = record { accepts = accepts }
