-- 004's regular expressions with shuffle as trees, and what 01 and the letter count in them.
use Rattle.std.specs.Prelude.{ℕ, suc, ◌+◌, List, [], ◌∷◌, ◌++◌}
use Rattle.std.proofs.Math.Decide.{ℕ_discrete}

-- 01, "The written expression": "sign `+`, `.` or `&`".
pub data Sign : Type 0 where
  union concatenation shuffle : Sign
  deriving Discrete as Sign-discrete

-- 004, "Regular Expressions with Shuffle": τ → ∅ | α and α → ε | a | (α + α) | (α · α) | (α ⧢ α) | α*.
pub data Expression : Type 0 where
  ∅ : Expression
  ε : Expression
  letter : ℕ → Expression
  binary : Sign → Expression → Expression → Expression
  star : Expression → Expression
  deriving Discrete as Expression-discrete

-- The tree of a sign, wherever one is made: by a join and by a row of a table.
unfoldable pub pair : Sign → Expression → Expression → Expression
pair s x y = binary s x y

-- 01: "Two expressions are the same when their trees are."
unfoldable pub same : Discrete Expression
unfolding ℕ_discrete
same = Expression-discrete ℕ_discrete Sign-discrete

-- 01, "Needs": an expression with "all parts" of it, each as often as it stands there, children first.
unfoldable pub parts : Expression → List Expression
parts ∅ = ∅ ∷ []
parts ε = ε ∷ []
parts (letter a) = letter a ∷ []
parts (binary s x y) = parts x ++ parts y ++ (binary s x y ∷ [])
parts (star x) = parts x ++ (star x ∷ [])

-- The letter's n: an expression's entries.
unfoldable pub entries : Expression → ℕ
entries ∅ = 1
entries ε = 1
entries (letter a) = 1
entries (binary s x y) = suc (entries x + entries y)
entries (star x) = suc (entries x)

-- The letters of an expression from left to right. The letter's m, "letters counted with repeats", is how many they are.
unfoldable pub letters : Expression → List ℕ
letters ∅ = []
letters ε = []
letters (letter a) = a ∷ []
letters (binary s x y) = letters x ++ letters y
letters (star x) = letters x
