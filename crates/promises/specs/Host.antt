-- 2026-02, the display unit's host program: what the contracts of its three functions come to.
use Rattle.std.specs.Prelude.{ℕ, ◌+◌, ◌-◌, ◌*◌, ◌/◌, ◌%◌, ◌^◌, ◌≤◌, ◌<◌, ◌≡◌, ◌↔◌, List, ◌∷◌, length, get_or, take}
use Rattle.theory.specs.Expression.{Expression, entries}
use Rattle.theory.specs.Automaton.{states, expressions, arcs}
use Rattle.theory.specs.Refusal.{Refusal, refusal}
use Rattle.theory.specs.Language.{Word, In}
use Rattle.theory.specs.Column.{zeros}
use Rattle.theory.specs.Table.{Table, table, size, tree}
use Rattle.theory.specs.Grammar.{Text, written, Writable}
use Rattle.theory.specs.Build.{Lent, Cleared}
use Rattle.theory.specs.Record.{Handed, handed, Work, cleared, accepted, unfinished, wrong}
use Rattle.theory.specs.Verdict.{SaysOf, Live}
use Rattle.host.specs.Host.{packed, HostReads, HostBuilds, HostJudges}
use Rattle.promises.specs.Table.{WellFormed}
use Rattle.promises.specs.Reader.{ReaderCause}
use Rattle.promises.specs.Builder.{BuilderCause}
use Rattle.promises.specs.Matcher.{MatcherCause, TooShort}
use Rattle.promises.specs.Once.{SameBuild}
use Rattle.promises.specs.DemandThree.{letter_entries, Roomy}

-- `HostCause Cause counts r`: with this slice for the counts there is cause for the refusal r, where `Cause` has the causes of the call itself.
-- "23, that slice has fewer than 4 numbers; before all others."
pub data HostCause (Cause : Refusal → Type 0) (counts : List ℕ) : Refusal → Type 0 where
  few : length counts < 4 → HostCause Cause counts (refusal 23 0)
  enough : {r : Refusal} → 4 ≤ length counts → Cause r → HostCause Cause counts r

-- ---- The packing

-- An answer taken apart again: the quotient by 2^32, and the rest.
abbrev pub taken_apart : ℕ → Refusal
taken_apart r = refusal (r / 4294967296) (r % 4294967296)

-- A pair that can occur, its place at most `most`: packed, it is a 64-bit number, and taking that apart gives the pair back.
pub record Reversible (most : ℕ) (r : Refusal) : Type 0 where
  pub number : r.number < 24
  pub place : r.place ≤ most
  pub holds : packed r < 18446744073709551616
  pub undone : taken_apart (packed r) ≡ r

-- "number times 2^32 plus place", "reversibly for every pair that can occur": the pairs that there can be cause for. The reader's places are bytes of
-- a text of at most 4,096 or its length, the builder's entries of a table of at most 512, the matcher's 0.
pub record PackingUndone : Type 0 where
  pub sum : (n p : ℕ) → packed (refusal n p) ≡ n * 2 ^ 32 + p
  pub reads : {text : Text} {t : Table} {counts : List ℕ} {r : Refusal} → HostCause (ReaderCause text t) counts r → Reversible 4096 r
  pub builds : {g : Table} {c : Lent} {counts : List ℕ} {r : Refusal} → HostCause (BuilderCause g c) counts r → Reversible 511 r
  pub judges : {h : Handed} {k : Work} {counts : List ℕ} {r : Refusal} → HostCause (MatcherCause h k) counts r → Reversible 0 r

-- ---- The letter's first demand

-- The answer r, taken apart, is a refusal exactly where there is cause for it; where it is not 0 the counts are zero, and so is all else that was
-- lent for writing.
pub record HostMeets (Cause : Refusal → Type 0) (Zero : Type 0) (counts : List ℕ) (r : ℕ) (counts' : List ℕ) : Type 0 where
  pub exact : (e : Refusal) → (taken_apart r ≡ e) ↔ HostCause Cause counts e
  pub no_count : ¬ (r ≡ 0) → counts' ≡ zeros (length counts)
  pub columns : ¬ (r ≡ 0) → Zero

pub record HostDemandOne : Type 0 where
  pub reads : {text : Text} {t : Table} {counts : List ℕ} {r : ℕ} {t' : Table} {counts' : List ℕ} → HostReads text t counts r t' counts'
      → HostMeets (ReaderCause text t) (t' ≡ table (zeros (length t.kind)) (zeros (length t.left)) (zeros (length t.right))) counts r counts'
  pub builds : {g : Table} {c : Lent} {counts : List ℕ} {r : ℕ} {c' : Lent} {counts' : List ℕ} → HostBuilds g c counts r c' counts'
      → HostMeets (BuilderCause g c) (Cleared c c') counts r counts'
  pub judges : {h : Handed} {w : Word} {k : Work} {counts : List ℕ} {r : ℕ} {k' : Work} {counts' : List ℕ} → HostJudges h w k counts r k' counts'
      → HostMeets (MatcherCause h k) (k' ≡ cleared k) counts r counts'
  -- The work columns are zero afterwards in any case.
  pub rests : {h : Handed} {w : Word} {k : Work} {counts : List ℕ} {r : ℕ} {k' : Work} {counts' : List ℕ} → HostJudges h w k counts r k' counts'
      → k' ≡ cleared k

-- ---- Two results that meet a contract

-- The builder's one exception stays: where nothing is refused, the columns are the same build.
pub record HostedAlike (r s : ℕ) (d d' : Lent) (counts' counts'' : List ℕ) : Type 0 where
  pub answers : r ≡ s
  pub counts : counts' ≡ counts''
  pub refused : ¬ (r ≡ 0) → d ≡ d'
  pub built : r ≡ 0 → SameBuild (get_or counts' 1 0) (get_or counts' 0 0) d d'

pub record HostOnce : Type 0 where
  pub reads : {text : Text} {t : Table} {counts : List ℕ} {r s : ℕ} {t' t'' : Table} {counts' counts'' : List ℕ}
      → HostReads text t counts r t' counts' → HostReads text t counts s t'' counts'' → (r ≡ s) × (t' ≡ t'') × (counts' ≡ counts'')
  pub builds : {g : Table} {c : Lent} {counts : List ℕ} {r s : ℕ} {d d' : Lent} {counts' counts'' : List ℕ}
      → HostBuilds g c counts r d counts' → HostBuilds g c counts s d' counts'' → HostedAlike r s d d' counts' counts''
  pub judges : {h : Handed} {w : Word} {k : Work} {counts : List ℕ} {r s : ℕ} {k' k'' : Work} {counts' counts'' : List ℕ}
      → HostJudges h w k counts r k' counts' → HostJudges h w k counts s k'' counts'' → (r ≡ s) × (k' ≡ k'') × (counts' ≡ counts'')

-- ---- What is told where nothing is refused

-- "the verdict (1 accepted, 2 unfinished, 3 wrong), its place (0 unless wrong) and live, with zero in the rest": each exactly where it is so.
pub record HostTells (h : Handed) (w : Word) (counts counts' : List ℕ) : Type 0 where
  pub accepted : (get_or counts' 0 0 ≡ 1) ↔ SaysOf h w accepted
  pub unfinished : (get_or counts' 0 0 ≡ 2) ↔ SaysOf h w unfinished
  pub wrong : (p : ℕ) → ((get_or counts' 0 0 ≡ 3) × (get_or counts' 1 0 ≡ p)) ↔ SaysOf h w (wrong p)
  pub place : ¬ (get_or counts' 0 0 ≡ 3) → get_or counts' 1 0 ≡ 0
  pub live : Live h w (get_or counts' 2 0)
  pub rest : (i : ℕ) → 3 ≤ i → get_or counts' i 0 ≡ 0
  pub whole : length counts' ≡ length counts

-- "receives the counts (entries, or states, expressions, arcs) .. with zero in the rest".
pub record HostCounts : Type 0 where
  pub reads : {text : Text} {t : Table} {counts : List ℕ} {t' : Table} {counts' : List ℕ} → HostReads text t counts 0 t' counts'
      → (e : Expression) → Writable e → written e ≡ text → counts' ≡ entries e ∷ zeros (length counts - 1)
  pub builds : {g : Table} {c : Lent} {counts : List ℕ} {c' : Lent} {counts' : List ℕ} → HostBuilds g c counts 0 c' counts'
      → counts' ≡ length (states (tree g)) ∷ length (expressions (tree g)) ∷ length (arcs (tree g)) ∷ zeros (length counts - 3)
  pub judges : {h : Handed} {w : Word} {k : Work} {counts : List ℕ} {k' : Work} {counts' : List ℕ} → HostJudges h w k counts 0 k' counts'
      → HostTells h w counts counts'

-- ---- The second and the third demand, by way of the host

-- 01: "a caller who read a text hands on the part of the columns that the reader filled": their first n numbers.
abbrev pub first : ℕ → Table → Table
first n t = table (take n t.kind) (take n t.left) (take n t.right)

-- A text is read, the table that it gives is built, and the record w is judged over what was built; each call answers 0, and each number is handed
-- on from the place in the counts where the call before left it. `counts` is what the last call leaves there.
pub record HostRun (text : Text) (w : Word) (counts : List ℕ) : Type 0 where
  pub table_lent : Table
  pub table_left : Table
  pub read_lent : List ℕ
  pub read_counts : List ℕ
  pub reads : HostReads text table_lent read_lent 0 table_left read_counts
  pub lent : Lent
  pub left : Lent
  pub build_lent : List ℕ
  pub build_counts : List ℕ
  pub builds : HostBuilds (first (get_or read_counts 0 0) table_left) lent build_lent 0 left build_counts
  pub work : Work
  pub work_left : Work
  pub judge_lent : List ℕ
  pub judges : HostJudges (handed (get_or build_counts 0 0) left.accepting (get_or build_counts 2 0) left.arcs) w work judge_lent 0 work_left counts

pub record HostDemands : Type 0 where
  -- Over a table that was built, from a text or not, with enough words lent and a slice of 4 numbers or more, each record is judged.
  pub judged : {g : Table} {c : Lent} {counts : List ℕ} {c' : Lent} {counts' : List ℕ} {w : Word} {k : Work} {judge_lent : List ℕ} {r : ℕ} {k' : Work}
      {told : List ℕ} → HostBuilds g c counts 0 c' counts' → 4 ≤ length judge_lent → ¬ TooShort k (get_or counts' 0 0)
      → HostJudges (handed (get_or counts' 0 0) c'.accepting (get_or counts' 2 0) c'.arcs) w k judge_lent r k' told → r ≡ 0
  -- Where the judgement answers 0, the first count is 1 exactly when the record belongs to the language of the table's tree.
  pub accepts : {g : Table} {c : Lent} {counts : List ℕ} {c' : Lent} {counts' : List ℕ} {w : Word} {k : Work} {judge_lent : List ℕ} {k' : Work}
      {told : List ℕ} → HostBuilds g c counts 0 c' counts'
      → HostJudges (handed (get_or counts' 0 0) c'.accepting (get_or counts' 2 0) c'.arcs) w k judge_lent 0 k' told
      → (get_or told 0 0 ≡ 1) ↔ In (tree g) w
  -- And so for the expression that a text writes.
  pub accepts_text : {text : Text} {w : Word} {counts : List ℕ} → HostRun text w counts → (e : Expression) → Writable e → written e ≡ text
      → (get_or counts 0 0 ≡ 1) ↔ In e w
  -- With m at most 10, n times 2^m plus 1 at most 65,535, even columns of demand 3's sizes for n entries and m letters, as the header's macros give
  -- them, and a slice of 4 numbers or more: no well-formed table of so many entries and letters, or of fewer, is refused.
  pub sized : {g : Table} {c : Lent} {counts : List ℕ} {r : ℕ} {c' : Lent} {counts' : List ℕ} (n m : ℕ) → WellFormed g → size g ≤ n
      → letter_entries g ≤ m → m ≤ 10 → n * 2 ^ m + 1 ≤ 65535 → Roomy c n m → 4 ≤ length counts → HostBuilds g c counts r c' counts' → r ≡ 0
