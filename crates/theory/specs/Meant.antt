-- The code's signs and kinds as the definitions have them, and a kind's number. `None` stands for an unknown kind.
use Rattle.std.specs.Prelude.{ℕ, Option, Some, None}
use Rattle.theory.specs.Kind as paper
use Rattle.theory.specs.Expression.{Sign, union, concatenation, shuffle}
use Rattle.theory.specs.Table.{Meaning, ∅_kind, ε_kind, letter_kind, sign_kind, star_kind, unknown_kind}
use Rattle.theory.specs.declared.kind.Sign.{Sign as CodeSign}
use Rattle.theory.specs.declared.kind.Sign.TheVariants.{Union, Concatenation, Shuffle}
use Rattle.theory.specs.declared.kind.Kind.{Kind}
use Rattle.theory.specs.declared.kind.Kind.TheVariants.{EmptyLanguage, EmptyWord, Letter, Sign as Signed, Star}

abbrev pub as_sign : CodeSign → Sign
as_sign Union = union
as_sign Concatenation = concatenation
as_sign Shuffle = shuffle

abbrev pub kind_meaning : Kind → Meaning
kind_meaning EmptyLanguage = ∅_kind
kind_meaning EmptyWord = ε_kind
kind_meaning Letter = letter_kind
kind_meaning (Signed s) = sign_kind (as_sign s)
kind_meaning Star = star_kind

abbrev pub meant : Option Kind → Meaning
meant (Some k) = kind_meaning k
meant None = unknown_kind

abbrev pub sign_number : CodeSign → ℕ
sign_number Union = paper.union
sign_number Concatenation = paper.concatenation
sign_number Shuffle = paper.shuffle

abbrev pub kind_number : Kind → ℕ
kind_number EmptyLanguage = paper.empty_language
kind_number EmptyWord = paper.empty_word
kind_number Letter = paper.letter
kind_number (Signed s) = sign_number s
kind_number Star = paper.star
