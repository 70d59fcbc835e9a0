-- `accepts` meets its contract: the answer is that of the states passed.
use Rattle.std.proofs.Common.{ℕ, ◌+◌, ◌≡◌, Bool, ◌&&◌, ◌||◌, List, refl, ap, ◌∙◌, get_or, eqb}
use Rattle.theory.specs.Below.{some_below}
use Rattle.theory.proofs.Below.{some_next}
use Rattle.sets.specs.Bits.{bit}
use Rattle.matcher.proofs.moves.accepts.Goals as goal

-- One state more: b says whether state t is set.
state_more : (set accepting : List ℕ) (t : ℕ) {any b : Bool}
    → any ≡ some_below t (λ k. bit set k && eqb (get_or accepting k 0) 1) → b ≡ bit set t
    → (any || (b && eqb (get_or accepting t 0) 1)) ≡ some_below (t + 1) (λ k. bit set k && eqb (get_or accepting k 0) 1)
state_more set accepting t {any} seen e =
    ap (λ (d : Bool). any || (d && eqb (get_or accepting t 0) 1)) e
    ∙ some_next t (λ (k : ℕ). bit set k && eqb (get_or accepting k 0) 1) seen

pub loop-t-init : goal.loop-t-init
unfolding some_below
loop-t-init c = refl

pub loop-t-preserved : goal.loop-t-preserved
loop-t-preserved c = state_more c.args.current.now c.args.automaton.accepting.now c.loop-t.t c.loop-t.invariant c.marked.ensures
