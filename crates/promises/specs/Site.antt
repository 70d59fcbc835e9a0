-- The site's two calls: demand 1 at `site::automaton` and at `site::judge`, and that two results of either are equal, answer and columns.
use Rattle.std.specs.Prelude.{◌<◌, ◌≡◌, ◌↔◌, length, Result}
use Rattle.theory.specs.Refusal.{Refusal, refusal, success}
use Rattle.theory.specs.declared.refusal.Refusal.{Refusal as Refused}
use Rattle.theory.specs.Expression.{Expression}
use Rattle.theory.specs.Language.{Word}
use Rattle.theory.specs.Automaton.{states}
use Rattle.theory.specs.Arcs.{EvenArcs}
use Rattle.theory.specs.Grammar.{Text}
use Rattle.theory.specs.Build.{OverRoom}
use Rattle.theory.specs.Record.{Work, cleared}
use Rattle.theory.specs.Judge.{Judgement}
use Rattle.theory.specs.Report.{Report, withheld}
use Rattle.site.specs.Site.{Shown, entry_columns, beside, blank, Made}
use Rattle.site.specs.Values.{values}
use Rattle.site.specs.Sited.{JudgesText}
use Rattle.site.specs.declared.Site.{Site}
use Rattle.matcher.specs.Answer as matcher
use Rattle.matcher.specs.declared.Verdict.{Verdict}
use Rattle.promises.specs.Reader.{ReaderCause, Written}
use Rattle.promises.specs.Matcher.{TooShort}

-- The accepting column is as long as the room for states, and the arc columns are equally long.
pub record EvenShown (s : Shown) : Type 0 where
  pub accepting : length s.accepting ≡ 512
  pub arcs : EvenArcs s.arcs

-- `SiteCause text s r`: there is cause for the refusal r. The reader's come first; then 1, where `accepting` is not as long as its states' column
-- or the arc columns differ; then 9.
pub data SiteCause (text : Text) (s : Shown) : Refusal → Type 0 where
  unread : {r : Refusal} → ReaderCause text entry_columns r → ¬ (r.number ≡ 0) → SiteCause text s r
  differ : (e : Expression) → Written text entry_columns e → ¬ EvenShown s → SiteCause text s (refusal 1 0)
  room : (e : Expression) → Written text entry_columns e → EvenShown s → OverRoom e (beside s) → SiteCause text s (refusal 9 0)
  none : (e : Expression) → Written text entry_columns e → EvenShown s → ¬ OverRoom e (beside s) → SiteCause text s success

-- What demand 1 asks of a call: a refusal is given exactly where there is cause for it, and then all counts and columns are zero.
pub record SiteMeets (text : Text) (s : Shown) (answer : Report) (s' : Shown) : Type 0 where
  pub exact : (r : Refusal) → (answer.refusal ≡ r) ↔ SiteCause text s r
  pub numbered : answer.refusal.number < 16
  pub counts : ¬ (answer.refusal.number ≡ 0) → answer ≡ withheld answer.refusal
  pub columns : ¬ (answer.refusal.number ≡ 0) → s' ≡ blank s

-- `TextCause text s k r`: there is cause for the refusal r of a record judged by a text, with the work columns k. Those of `site::automaton` come
-- first; then 11, by the number of states of the expression that the text writes. There is none for 10: what was built is not malformed.
pub data TextCause (text : Text) (s : Shown) (k : Work) : Refusal → Type 0 where
  unbuilt : {r : Refusal} → SiteCause text s r → ¬ (r.number ≡ 0) → TextCause text s k r
  short : (e : Expression) → Written text entry_columns e → EvenShown s → ¬ OverRoom e (beside s) → TooShort k (length (states e))
      → TextCause text s k (refusal 11 0)
  judged : (e : Expression) → Written text entry_columns e → EvenShown s → ¬ OverRoom e (beside s) → ¬ TooShort k (length (states e))
      → TextCause text s k success

-- What demand 1 asks of a call: a refusal is given exactly where there is cause for it, and then verdict, place, live and all columns are zero;
-- the work columns are zero afterwards in any case.
pub record TextMeets (text : Text) (s : Shown) (k : Work) (answer : Judgement) (s' : Shown) (k' : Work) : Type 0 where
  pub exact : (r : Refusal) → (answer.refusal ≡ r) ↔ TextCause text s k r
  pub never_malformed : ¬ (answer.refusal.number ≡ 10)
  pub numbered : answer.refusal.number < 16
  pub counts : ¬ (answer.refusal.number ≡ 0) → (answer.verdict ≡ 0) × (answer.place ≡ 0) × (answer.live ≡ 0)
  pub columns : ¬ (answer.refusal.number ≡ 0) → s' ≡ blank s
  pub work : k' ≡ cleared k

pub record SiteOnce : Type 0 where
  pub automaton : {text : Text} {s : Shown} {a b : Report} {s' s'' : Shown} → Made text s a s' → Made text s b s'' → (a ≡ b) × (s' ≡ s'')
  pub judge : {text : Text} {w : Word} {s : Shown} {k : Work} {a b : Judgement} {s' s'' : Shown} {k' k'' : Work}
      → JudgesText text w s k a s' k' → JudgesText text w s k b s'' k'' → (a ≡ b) × (s' ≡ s'') × (k' ≡ k'')
  -- The same of the answers as the calls return them.
  pub sites : {text : Text} {s : Shown} (a b : Result Site Refused) {s' s'' : Shown} → Made text s (values a) s' → Made text s (values b) s'' → a ≡ b
  pub tells : {text : Text} {w : Word} {s : Shown} {k : Work} (a b : Result Verdict Refused) {s' s'' : Shown} {k' k'' : Work}
      → JudgesText text w s k (matcher.values a) s' k' → JudgesText text w s k (matcher.values b) s'' k'' → a ≡ b
