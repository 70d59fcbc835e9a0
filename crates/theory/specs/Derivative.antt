-- 01, "Derivatives, and the order of states and arcs": the answer for the empty word, the joining rules and the list by a letter.
use Rattle.std.specs.Prelude.{ℕ, Bool, true, false, ◌&&◌, ◌||◌, cond, List, [], ◌∷◌, ◌++◌, map, eqb}
use Rattle.theory.specs.Expression.{Expression, same, pair, Sign, ∅, ε, letter, binary, star, union, concatenation, shuffle}
use Rattle.theory.specs.Distinct.{distinct}

-- 01: "the answer for the empty word follows from an entry's children down to the leaves".
unfoldable pub empty_word : Expression → Bool
empty_word ∅ = false
empty_word ε = true
empty_word (letter a) = false
empty_word (binary union x y) = empty_word x || empty_word y
empty_word (binary concatenation x y) = empty_word x && empty_word y
empty_word (binary shuffle x y) = empty_word x && empty_word y
empty_word (star x) = true

-- Whether an expression is the literal empty word.
unfoldable pub literal_ε : Expression → Bool
literal_ε ∅ = false
literal_ε ε = true
literal_ε (letter a) = false
literal_ε (binary s x y) = false
literal_ε (star x) = false

-- 01: "followed by the literal empty word, or shuffled with it": the signs whose join it leaves out.
abbrev pub has_unit : Sign → Bool
has_unit union = false
has_unit concatenation = true
has_unit shuffle = true

-- 01: "When a member is joined: followed by the literal empty word, or shuffled with it on either side, it stays as it is (004);
-- the literal empty word followed by y is y (004 is silent; this decides). No other simplification".
unfoldable pub joined : Sign → Expression → Expression → Expression
unfolding literal_ε pair
joined s x y = cond (has_unit s && literal_ε y) x (cond (has_unit s && literal_ε x) y (pair s x y))

-- 01's lines for the list, with its repeats.
unfoldable pub listed : ℕ → Expression → List Expression
unfolding empty_word joined
listed a ∅ = []
listed a ε = []
listed a (letter b) = cond (eqb a b) (ε ∷ []) []
listed a (binary union x y) = listed a x ++ listed a y
listed a (binary concatenation x y) = map (λ m. joined concatenation m y) (listed a x) ++ cond (empty_word x) (listed a y) []
listed a (binary shuffle x y) = map (λ m. joined shuffle m y) (listed a x) ++ map (λ m. joined shuffle x m) (listed a y)
listed a (star x) = map (λ m. joined concatenation m (star x)) (listed a x)

-- 01: "The derivative by a of an expression is a list without repeats, a repeated member kept at its first place". The law
-- `derivative_gathered` says that the parts' lists may have their repeats taken out before or after.
unfoldable pub derivative : ℕ → Expression → List Expression
unfolding listed distinct same
derivative a e = distinct same (listed a e)
