-- 01, "Derivatives, and the order of states and arcs": states, arcs, accepting states, expressions, and the three needs.
use Rattle.std.specs.Prelude.{ℕ, zero, suc, ◌^◌, ◌≡◌, true, false, cond, length, eqb}
use mathlib.Core.List.{List, [], ◌∷◌, ◌++◌, map, flat_map, Memᴰ}
use Rattle.theory.specs.Limit.{last_letter}
use Rattle.theory.specs.Expression.{Expression, same, ε, parts, letters}
use Rattle.theory.specs.Distinct.{distinct, place}
use Rattle.theory.specs.Language.{Word}
use Rattle.theory.specs.Derivative.{empty_word, derivative}

-- n numbers in ascending order, the first of them `first`
unfoldable pub ascending : ℕ → ℕ → List ℕ
ascending first zero = []
ascending first (suc n) = first ∷ ascending (suc first) n

-- 01: "letters from 1 to 255".
unfoldable pub alphabet : List ℕ
unfolding ascending
alphabet = ascending 1 last_letter

-- 01: "letters from 1 to 255 for each, members in list order": all that is met from one state, in that order.
unfoldable pub successors : Expression → List Expression
unfolding flat_map alphabet derivative
successors x = flat_map (λ a. derivative a x) alphabet

-- The given expression and all that is met from the expressions of s, each at its first place.
unfoldable pub met : Expression → List Expression → List Expression
unfolding distinct same flat_map successors
met e s = distinct same (e ∷ flat_map successors s)

-- What is met from what is met, until a round brings nothing new; at most k rounds.
unfoldable pub rounds : ℕ → Expression → List Expression → List Expression
unfolding met
rounds zero e s = s
rounds (suc k) e s = let t = met e s in elim (eqb (length t) (length s)) [ true ↦ s | false ↦ rounds k e t ]

-- 01: "State 0 is the given expression. States are handled in number order, letters from 1 to 255 for each, members in list order;
-- a new expression gets the next state number." The law `states_complete` says that the bound on the rounds is always enough.
unfoldable pub states : Expression → List Expression
unfolding rounds letters
states e = rounds (2 ^ length (letters e)) e (e ∷ [])

-- 004, "Partial Derivatives": `Derived e m` says that m is in ∂(e), the partial derivatives of e by all words.
pub data Derived (e : Expression) : Expression → Type 0 where
  itself : {m : Expression} → m ≡ e → Derived e m
  onward : {x m : Expression} → Derived e x → Memᴰ m (successors x) → Derived e m

-- 01: "A state is accepting when its language holds the empty word", as the accepting column has it: "accepting 0 or 1".
unfoldable pub accepting : Expression → List ℕ
unfolding empty_word states
accepting e = map (λ x. cond (empty_word x) 1 0) (states e)

-- 01: "arcs (from 16 bits, letter 8 bits, to 16 bits)".
pub record Arc : Type 0 where
  pub from : ℕ
  pub letter : ℕ
  pub to : ℕ

abbrev pub arc : ℕ → ℕ → ℕ → Arc
arc i a j = record { from = i; letter = a; to = j }

-- The arcs that leave state i, the expression x, among the states s, in the order met.
unfoldable pub leaving : List Expression → ℕ → Expression → List Arc
unfolding flat_map alphabet derivative place same
leaving s i x = flat_map (λ a. map (λ m. arc i a (place same m s)) (derivative a x)) alphabet

-- The arcs that leave the states xs, numbered from i, among the states s.
unfoldable pub leaving_all : List Expression → ℕ → List Expression → List Arc
unfolding leaving
leaving_all s i [] = []
leaving_all s i (x ∷ xs) = leaving s i x ++ leaving_all s (suc i) xs

-- 01: "Arcs stand in the order met."
unfoldable pub arcs : Expression → List Arc
unfolding states leaving_all
arcs e = let s = states e in leaving_all s 0 s

-- 01, "Needs": "the different trees among the literal empty word, the states, and all parts of states".
unfoldable pub expressions : Expression → List Expression
unfolding distinct same flat_map parts states
expressions e = distinct same (ε ∷ flat_map parts (states e))

-- 004, "Partial Derivative Automaton": `Leads arcs i w j` says that the word w leads from state i to state j.
abbrev pub Leads : List Arc → ℕ → Word → ℕ → Type 0
Leads arcs i [] j = j ≡ i
Leads arcs i (a ∷ w) j = (k : ℕ) × Memᴰ (arc i a k) arcs × Leads arcs k w j
