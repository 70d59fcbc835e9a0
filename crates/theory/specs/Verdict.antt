-- What a verdict and live say of a record, without a test: over the paths of the used arcs. The laws `verdict_says` and `live_says` tie the
-- definitions of `Record` to it.
use Rattle.std.specs.Prelude.{ℕ, suc, ◌<◌, ◌≡◌, length, get_or, take}
use Rattle.theory.specs.Language.{Word}
use Rattle.theory.specs.Automaton.{Leads}
use Rattle.theory.specs.Below.{HowMany}
use Rattle.theory.specs.Arcs.{Arcs, used}
use Rattle.theory.specs.Record.{Handed, Verdict, accepted, unfinished, wrong}

-- A verdict over the starts that stand and the records that are accepted. Wrong at p: the first p bytes stand, and one more does not.
abbrev pub Says : (Stands Accepted : Word → Type 0) → Word → Verdict → Type 0
Says Stands Accepted w accepted = Accepted w
Says Stands Accepted w unfinished = Stands w × ¬ Accepted w
Says Stands Accepted w (wrong p) = (p < length w) × Stands (take p w) × ¬ Stands (take (suc p) w)

-- 01: "states are reached": used arcs lead from state 0 by the bytes of the record to some state.
abbrev pub Alive : Arcs → Word → Type 0
Alive a w = (t : ℕ) × Leads (used a) 0 w t

-- 01: "an accepting state is reached by the record".
abbrev pub Accepted : Handed → Word → Type 0
Accepted h w = (t : ℕ) × Leads (used h.arcs) 0 w t × (t < h.states) × (get_or h.accepting t 0 ≡ 1)

-- What a verdict says of a record over the automaton h.
abbrev pub SaysOf : Handed → Word → Verdict → Type 0
SaysOf h = Says (Alive h.arcs) (Accepted h)

-- n states are reached by the record.
abbrev pub Live : Handed → Word → ℕ → Type 0
Live h w = HowMany (Leads (used h.arcs) 0 w)
