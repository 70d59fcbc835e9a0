-- 2026-02, the display unit's host program: what the exported functions owe, over what the calls behind them owe.
use Rattle.std.specs.Prelude.{ℕ, ◌+◌, ◌*◌, ◌≤◌, ◌<◌, ◌≡◌, List, [], ◌∷◌, length}
use Rattle.theory.specs.Refusal.{Refusal, refusal, counts_few}
use Rattle.theory.specs.Column.{zeros, filled}
use Rattle.theory.specs.Table.{Table}
use Rattle.theory.specs.Grammar.{Text}
use Rattle.theory.specs.Language.{Word}
use Rattle.theory.specs.Read.{Entered, Read}
use Rattle.theory.specs.Build.{Lent, Counts, Cleared, Built}
use Rattle.theory.specs.Record.{Handed, Work, cleared as rested}
use Rattle.theory.specs.Judge.{Judgement, Judged}
use Rattle.columns.specs.Row.{cleared}

-- "the refusal's number and place packed into one 64-bit number (number times 2^32 plus place)"
abbrev pub packed : Refusal → ℕ
packed r = r.number * 4294967296 + r.place

-- "that slice has fewer than 4 numbers"
abbrev pub fewest_counts : ℕ
fewest_counts = 4

-- A call by way of the host: `Owes a` is what the call owes with the answer a, `Zero` that all it was lent for writing is zero. "A fixed slice of
-- 64-bit numbers receives the counts .. with zero in the rest. Refusals: 23, that slice has fewer than 4 numbers; before all others."
pub record Hosted {A : Type 0} (refusal_of : A → Refusal) (counts_of : A → List ℕ) (Owes : A → Type 0) (Zero : Type 0) (counts : List ℕ) (r : ℕ)
    (counts' : List ℕ) : Type 0 where
  pub few : length counts < fewest_counts → Zero × (r ≡ packed (refusal counts_few 0)) × (counts' ≡ zeros (length counts))
  pub enough : fewest_counts ≤ length counts
      → (a : A) × Owes a × (r ≡ packed (refusal_of a)) × (counts' ≡ filled (length counts) (counts_of a))

-- "entries"
abbrev pub HostReads : Text → Table → List ℕ → ℕ → Table → List ℕ → Type 0
HostReads text t counts r t' counts' =
    Hosted (λ (a : Entered). a.refusal) (λ a. a.entries ∷ []) (λ a. Read text t a t') (t' ≡ cleared t) counts r counts'

-- "or states, expressions, arcs"
abbrev pub HostBuilds : Table → Lent → List ℕ → ℕ → Lent → List ℕ → Type 0
HostBuilds g c counts r c' counts' =
    Hosted (λ (a : Counts). a.refusal) (λ a. a.states ∷ a.expressions ∷ a.arcs ∷ []) (λ a. Built g c a c') (Cleared c c') counts r counts'

-- "or for the matcher the verdict (1 accepted, 2 unfinished, 3 wrong), its place (0 unless wrong) and live"
abbrev pub numbers_of : Judgement → List ℕ
numbers_of a = a.verdict ∷ a.place ∷ a.live ∷ []

abbrev pub HostJudges : Handed → Word → Work → List ℕ → ℕ → Work → List ℕ → Type 0
HostJudges h w k counts r k' counts' =
    Hosted (λ (a : Judgement). a.refusal) numbers_of (λ a. Judged h w k a k') (k' ≡ rested k) counts r counts'
