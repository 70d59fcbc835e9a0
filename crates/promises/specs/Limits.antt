-- 01's limits of what the reader takes, text by text: the refusal and its place, or the number of entries. Computed by the executable
-- reading that `Grammar.scan_reads` and `Grammar.reads_scan` prove to be the grammar's.
use Rattle.std.specs.Prelude.{ℕ, Bool, true, ◌&&◌, replicate, T, eqb}
use mathlib.Core.List.{List, [], ◌∷◌, ◌++◌, flat_map}
use Rattle.theory.specs.Refusal.{Refusal, refusal, success}
use Rattle.theory.specs.Expression.{entries}
use Rattle.theory.specs.Grammar.{Text}
use Rattle.theory.specs.Scan.{scan}
use Rattle.theory.specs.Read.{Entered, entered}
use Rattle.promises.specs.Examples.{same_refusal}

pub record Limit : Type 0 where
  pub text : Text
  pub refusal : Refusal
  pub entries : ℕ

infix 70 ◌gives◌entries◌
abbrev pub ◌gives◌entries◌ : Text → Refusal → ℕ → Limit
t gives r entries n = record { text = t; refusal = r; entries = n }

unfoldable pub keeps : Limit → Entered → Bool
unfolding same_refusal
keeps l a = same_refusal a.refusal l.refusal && eqb a.entries l.entries

unfoldable pub all_keep : List Limit → Bool
unfolding keeps scan entries
all_keep [] = true
all_keep (l ∷ ls) = keeps l (entered (scan 512 l.text)) && all_keep ls

-- a under n stars
abbrev starred : ℕ → Text
starred n = 97 ∷ replicate n 42

-- n open parentheses, and what closes them: ((..(a+b)+b)..+b)
abbrev nested : ℕ → Text
nested n = replicate n 40 ++ (97 ∷ flat_map (λ (x : ℕ). 43 ∷ 98 ∷ 41 ∷ []) (replicate n 0))

unfoldable pub limits : List Limit
unfolding flat_map
limits =
    starred 511 gives success entries 512
    ∷ starred 512 gives refusal 15 512 entries 0
    ∷ [] gives refusal 13 0 entries 0
    -- (a)
    ∷ (40 ∷ 97 ∷ 41 ∷ []) gives refusal 13 2 entries 0
    -- 0*
    ∷ (48 ∷ 42 ∷ []) gives refusal 13 1 entries 0
    -- (a&b&c)
    ∷ (40 ∷ 97 ∷ 38 ∷ 98 ∷ 38 ∷ 99 ∷ 41 ∷ []) gives refusal 13 4 entries 0
    ∷ nested 64 gives success entries 129
    ∷ nested 65 gives refusal 14 64 entries 0
    ∷ []

-- One claim about the table of texts.
pub record LimitsKeep : Type 0 where
  pub all : T (all_keep limits)
