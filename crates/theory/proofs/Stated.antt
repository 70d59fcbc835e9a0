-- No cause has the number 0, and no two have the same: an answer that states success is one, and what an answer states tells it from all others.
use Rattle.std.proofs.Common.{◌≡◌, refl, sym, ap, ◌∙◌, arith}
use Rattle.std.specs.Prelude.{ℕ, List, [], ◌∷◌, get_or, Result, Ok, Err}
use Rattle.theory.specs.Refusal as paper
use Rattle.theory.specs.Stated.{number, stated, refusal_in}
use Rattle.theory.specs.declared.refusal.Cause.{Cause}
use Rattle.theory.specs.declared.refusal.Cause.TheVariants.{ColumnsDiffer, TableEmpty, TableLong, KindUnknown, FieldOutside, ChildNotSmaller, EmptyLanguageInside, NotNamedOnce, RoomSmall, AutomatonMalformed, WorkShort, TextLong, NotGrammar, TooDeep, TooManyEntries, RecordLong, LinesMany, CountsFew}
use Rattle.theory.specs.declared.refusal.Refusal.{Refusal}

pub number_some : (c : Cause) → number c ≡ 0 → ⊥
number_some ColumnsDiffer e = omega arith
number_some TableEmpty e = omega arith
number_some TableLong e = omega arith
number_some KindUnknown e = omega arith
number_some FieldOutside e = omega arith
number_some ChildNotSmaller e = omega arith
number_some EmptyLanguageInside e = omega arith
number_some NotNamedOnce e = omega arith
number_some RoomSmall e = omega arith
number_some AutomatonMalformed e = omega arith
number_some WorkShort e = omega arith
number_some TextLong e = omega arith
number_some NotGrammar e = omega arith
number_some TooDeep e = omega arith
number_some TooManyEntries e = omega arith
number_some RecordLong e = omega arith
number_some LinesMany e = omega arith
number_some CountsFew e = omega arith

-- What states no refusal is the value.
pub ok_of : {A : Type 0} (r : Result A Refusal) → (refusal_in r).number ≡ 0 → (v : A) × (r ≡ Ok v)
ok_of (Ok v) e = (v, refl)
ok_of (Err r) e = absurd (number_some r.cause e)

-- ---- From the numbers back

-- The causes in the order of their numbers; no other number is a cause's.
causes : List Cause
causes =
    CountsFew ∷ ColumnsDiffer ∷ TableEmpty ∷ TableLong ∷ KindUnknown ∷ FieldOutside ∷ ChildNotSmaller ∷ EmptyLanguageInside ∷ NotNamedOnce
    ∷ RoomSmall ∷ AutomatonMalformed ∷ WorkShort ∷ TextLong ∷ NotGrammar ∷ TooDeep ∷ TooManyEntries ∷ RecordLong
    ∷ CountsFew ∷ CountsFew ∷ CountsFew ∷ CountsFew ∷ CountsFew ∷ LinesMany ∷ []

cause_of : ℕ → Cause
cause_of n = get_or causes n CountsFew

numbered : (c : Cause) → cause_of (number c) ≡ c
unfolding cause_of causes
numbered ColumnsDiffer = refl
numbered TableEmpty = refl
numbered TableLong = refl
numbered KindUnknown = refl
numbered FieldOutside = refl
numbered ChildNotSmaller = refl
numbered EmptyLanguageInside = refl
numbered NotNamedOnce = refl
numbered RoomSmall = refl
numbered AutomatonMalformed = refl
numbered WorkShort = refl
numbered TextLong = refl
numbered NotGrammar = refl
numbered TooDeep = refl
numbered TooManyEntries = refl
numbered RecordLong = refl
numbered LinesMany = refl
numbered CountsFew = refl

pub number_once : (c d : Cause) → number c ≡ number d → c ≡ d
number_once c d e = sym (numbered c) ∙ ap cause_of e ∙ numbered d

pub stated_once : (r s : Refusal) → stated r ≡ stated s → r ≡ s
stated_once r s e = λ i. record { cause = number_once r.cause s.cause (λ j. (e j).number) i; place = (e i).place }

-- Numbers that have the answer's refusal, and its value where there is none, tell it from all others.
module _ {A B : Type 0} (told : Result A Refusal → B) (refusal_of : B → paper.Refusal) (value_of : B → A)
    (fine : (v : A) → refusal_of (told (Ok v)) ≡ paper.success) (refused : (r : Refusal) → refusal_of (told (Err r)) ≡ stated r)
    (valued : (v : A) → value_of (told (Ok v)) ≡ v) where
  told_apart : (v : A) (r : Refusal) → told (Ok v) ≡ told (Err r) → ⊥
  told_apart v r e = let same = sym (fine v) ∙ ap refusal_of e ∙ refused r in number_some r.cause (λ i. (sym same i).number)

  pub told_once : (a b : Result A Refusal) → told a ≡ told b → a ≡ b
  told_once (Ok v) (Ok w) e = ap Ok (sym (valued v) ∙ ap value_of e ∙ valued w)
  told_once (Ok v) (Err r) e = absurd (told_apart v r e)
  told_once (Err r) (Ok v) e = absurd (told_apart v r (sym e))
  told_once (Err r) (Err s) e = ap Err (stated_once r s (sym (refused r) ∙ ap refusal_of e ∙ refused s))
