-- `accepting_fits` meets its contract: the answer is that of the values passed.
use Rattle.std.proofs.Common.{ℕ, ◌&&◌, refl, ap, ◌∙◌, arith, get_or}
use Rattle.std.proofs.lemmas.List.{get_or-take, length-take}
use lib.Dec.{leb}
use Rattle.theory.specs.Below.{all_below}
use Rattle.theory.specs.Record.{accepting_fits}
use Rattle.theory.proofs.Below.{all_next}
use Rattle.matcher.proofs.automaton.Automaton.accepting_fits.Goals as goal

pub loop-value-init : goal.loop-value-init
unfolding accepting_fits all_below
loop-value-init c = refl

pub loop-value-preserved : goal.loop-value-preserved
unfolding accepting_fits
loop-value-preserved c =
    let l = c.loop-value in
    let n = c.args.self.states in
    let flags = c.args.self.accepting.now in
    ap (λ (v : ℕ). l.fit && leb v 1) (get_or-take n flags l.value-index 0 (omega (arith, length-take n flags)))
    ∙ all_next l.value-index (λ (t : ℕ). leb (get_or flags t 0) 1) l.invariant
