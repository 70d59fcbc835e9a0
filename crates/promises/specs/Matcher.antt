-- Demand 1 at `matcher::judge`: the cause of each refusal, in the order of 01's table, and what a call is held to.
use Rattle.std.specs.Prelude.{ℕ, ◌*◌, ◌≤◌, ◌<◌, ◌≡◌, ◌↔◌, length, get_or}
use Rattle.theory.specs.Refusal.{Refusal, refusal, success}
use Rattle.theory.specs.Build.{Lent, Counts}
use Rattle.theory.specs.Arcs.{EvenArcs}
use Rattle.theory.specs.Record.{Handed, handed, Work, cleared}
use Rattle.theory.specs.Judge.{Judgement}

-- 01, "Reading a record": each cause of refusal 10, in its order.
pub data Malformed (h : Handed) : Type 0 where
  no_state : h.states ≡ 0 → Malformed h
  many_states : 65535 < h.states → Malformed h
  states_beyond : length h.accepting < h.states → Malformed h
  arcs_beyond : length h.arcs.columns.from < h.arcs.count → Malformed h
  many_arcs : 16777216 < h.arcs.count → Malformed h
  accepting_value : (t : ℕ) → t < h.states → 1 < get_or h.accepting t 0 → Malformed h
  from_beyond : (i : ℕ) → i < h.arcs.count → h.states ≤ get_or h.arcs.columns.from i 0 → Malformed h
  to_beyond : (i : ℕ) → i < h.arcs.count → h.states ≤ get_or h.arcs.columns.to i 0 → Malformed h
  letter_zero : (i : ℕ) → i < h.arcs.count → get_or h.arcs.columns.letter i 0 ≡ 0 → Malformed h

-- 01, refusal 11: "a work column has fewer words than the state count divided by 64, rounded up", which is so where the bits of its words, 64 in
-- each, are fewer than the n states.
pub data TooShort (k : Work) (n : ℕ) : Type 0 where
  current : 64 * length k.current < n → TooShort k n
  next : 64 * length k.next < n → TooShort k n

-- `MatcherCause h k r`: with the work columns k there is cause for the refusal r. 01: "1 there speaks of the arc columns."
pub data MatcherCause (h : Handed) (k : Work) : Refusal → Type 0 where
  differ : ¬ EvenArcs h.arcs.columns → MatcherCause h k (refusal 1 0)
  malformed : EvenArcs h.arcs.columns → Malformed h → MatcherCause h k (refusal 10 0)
  short : EvenArcs h.arcs.columns → ¬ Malformed h → TooShort k h.states → MatcherCause h k (refusal 11 0)
  none : EvenArcs h.arcs.columns → ¬ Malformed h → ¬ TooShort k h.states → MatcherCause h k success

-- What demand 1 asks of a call: a refusal is given exactly where there is cause for it, and then verdict, place and live are zero; the work
-- columns are zero afterwards in any case.
pub record MatcherMeets (h : Handed) (k : Work) (answer : Judgement) (k' : Work) : Type 0 where
  pub exact : (r : Refusal) → (answer.refusal ≡ r) ↔ MatcherCause h k r
  pub numbered : answer.refusal.number < 16
  pub counts : ¬ (answer.refusal.number ≡ 0) → (answer.verdict ≡ 0) × (answer.place ≡ 0) × (answer.live ≡ 0)
  pub columns : k' ≡ cleared k

-- What `judge` is handed after a build: the counts of the answer and the columns as they were left.
abbrev pub after_build : Counts → Lent → Handed
after_build answer c = handed answer.states c.accepting answer.arcs c.arcs
