-- From a text and a record to a verdict: what the site made, and what the matcher answered over it. Leans on `Judging`.
use native.Mathlib.Decide.{ℕ_discrete}
use native.Mathlib.Omega.{arith}
use mathlib.Core.Path.{◌≡◌, refl, sym, ap, ◌∙◌, subst}
use mathlib.Core.Bool.{true, false, true≢false}
use Rattle.std.specs.Prelude.{Result, Ok, Err, MatchResult}
use Rattle.std.specs.Result.{is_err}
use Rattle.theory.specs.Arcs.{ArcColumns}
use Rattle.theory.specs.Expression.{Expression}
use Rattle.theory.specs.Refusal.{Refusal}
use Rattle.theory.specs.Language.{Word}
use Rattle.theory.specs.Grammar.{Text, Reading, read, refused}
use Rattle.theory.specs.Record.{Handed, handed, Work, cleared, live, matcher_refusal}
use Rattle.theory.specs.Judge.{Judgement, Judged, judgement}
use Rattle.theory.specs.Judge as judge
use Rattle.theory.proofs.Answers.{judgement_refused}
use Rattle.theory.proofs.MatcherRefusal as matching
use Rattle.theory.proofs.States.{states_some}
use Rattle.theory.proofs.Stated.{number_some}
use Rattle.theory.specs.declared.refusal.Refusal.{Refusal as Refused}
use Rattle.matcher.specs.Answer.{said, values}
use Rattle.matcher.specs.declared.Verdict.{Verdict}
use Rattle.matcher.specs.declared.Verdict.TheVariants.{Accepted, Unfinished, Wrong}
use Rattle.theory.specs.Report.{Report, withheld, needs}
use Rattle.site.specs.Site.{Shown, site_refusal, answered, blank, holding, left_in, Made}
use Rattle.site.specs.Sited.{told, JudgesText}
use Rattle.site.proofs.Making.{unless_none, unless_some, answered_built, answered_refused, left_refused}
use Rattle.site.proofs.Judging.{built_from, handed_is, sited, of_text, judged_over}

-- ---- Where the text or the room is refused

-- A refusal is the reader's, or there is a number to it.
pub data RefusedBy (s : Shown) (r : Refusal) : Reading → Type 0 where
  unread : RefusedBy s r (refused r)
  no_room : {e : Expression} → r ≡ site_refusal e s → ((site_refusal e s).number ≡ 0 → ⊥) → RefusedBy s r (read e)

by_answer : (q : Reading) (s : Shown) {r : Refusal} → withheld r ≡ answered q s → RefusedBy s r q
unfolding answered needs
by_answer (read e) s {r} h = no_room (ap (λ (a : Report). a.refusal) (h ∙ answered_refused e s over)) over
  where
    over : (site_refusal e s).number ≡ 0 → ⊥
    over z = let q = ap (λ (a : Report). a.states) (h ∙ answered_built e s z) in let p = states_some e in omega arith
by_answer (refused r') s {r} h = subst (λ (x : Refusal). RefusedBy s r (refused x)) (ap (λ (a : Report). a.refusal) h) unread

pub refused_by : {text : Text} {s s' : Shown} {r : Refusal} (h : Made text s (withheld r) s') → RefusedBy s r h.reading
refused_by {s = s} h = by_answer h.reading s h.answers

-- A refusal has no state, and a build has one.
pub refused_number : {text : Text} {s s' : Shown} {r : Refusal} → Made text s (withheld r) s' → r.number ≡ 0 → ⊥
unfolding needs
refused_number h z =
    let b = built_from h z in
    let q = ap (λ (a : Report). a.states) b.counts in
    let p = states_some b.read_as.expression in
    omega arith

told_as : {q : Reading} {s : Shown} (k : Work) (w : Word) {r : Refusal} → RefusedBy s r q
    → (judge.withheld r ≡ told q s k w) × (left_in q s ≡ blank s)
unfolding told left_in
told_as k w unread = (refl, refl)
told_as {s = s} k w (no_room {e} p over) = (ap judge.withheld p ∙ sym (unless_some (site_refusal e s) _ _ over), left_refused e s over)

pub told_refused : {text : Text} {w : Word} {s s' : Shown} {k k' : Work} {r : Refusal} → Made text s (withheld r) s' → k' ≡ cleared k
    → JudgesText text w s k (judge.withheld r) s' k'
told_refused {w = w} {s} {k = k} {r = r} h q =
    let n = refused_number h in
    let t = told_as k w (refused_by h) in
    record {
      reading = h.reading;
      due = h.due;
      answers = t.0;
      judges = λ z. absurd (n z);
      holds = λ z. absurd (n z);
      blank = λ _. h.leaves ∙ t.1;
      cleared = q;
    }

-- ---- Where the matcher answers

module _ {text : Text} {w : Word} {s : Shown} {a : Report} {s₁ : Shown} (h : Made text s a s₁) (z : a.refusal.number ≡ 0)
    {k : Work} {answer : Judgement} {k' : Work} (j : Judged (handed a.states s₁.accepting a.arcs s₁.arcs) w k answer k') where
  told_so : answer ≡ told h.reading s k w
  unfolding told
  told_so =
      let b = built_from h z in
      j.answers ∙ ap (λ (g : Handed). judgement g k w) (handed_is b)
      ∙ sym (unless_none (site_refusal b.read_as.expression s) _ _ b.fits) ∙ sym (ap (λ (q : Reading). told q s k w) b.read_as.is)

  abbrev over : Handed
  over = handed a.states s₁.accepting a.arcs s₁.arcs

  unrefused : answer.refusal.number ≡ 0 → (matcher_refusal over k).number ≡ 0
  unrefused q = elim (ℕ_discrete (matcher_refusal over k).number 0) [
    | yes y ↦ y
    | no n ↦ absurd (n (sym (ap (λ (x : Judgement). x.refusal.number) (j.answers ∙ judgement_refused over k w n)) ∙ q))
  ]

  told_built : answer.refusal.number ≡ 0 → JudgesText text w s k answer s₁ k'
  told_built q = record {
    reading = h.reading;
    due = h.due;
    answers = told_so;
    judges = λ _. (judged_over (sited (built_from h z)) (matching.not_refused over k (unrefused q)).2 j).judges;
    holds = λ _.
        let b = built_from h z in of_text b.read_as.expression b.read_as.writable b.read_as.spelled (λ e. s₁ ≡ holding e s) b.holds;
    blank = λ n. absurd (n q);
    cleared = j.cleared;
  }

  -- A work column is too short.
  told_short : {s' : Shown} → (answer.refusal.number ≡ 0 → ⊥) → s' ≡ blank s → JudgesText text w s k answer s' k'
  told_short n b = record {
    reading = h.reading;
    due = h.due;
    answers = told_so;
    judges = λ q. absurd (n q);
    holds = λ q. absurd (n q);
    blank = λ _. b;
    cleared = j.cleared;
  }

said_success : (v : Verdict) → (said v).refusal.number ≡ 0
said_success (Accepted live) = refl
said_success (Unfinished live) = refl
said_success (Wrong place) = refl

-- The matcher's answer, a verdict or a refusal, over the site's own columns.
module _ {text : Text} {w : Word} {s s₁ : Shown} {a : Report} (h : Made text s a s₁) (z : a.refusal.number ≡ 0) {columns : ArcColumns}
    (same : columns ≡ s₁.arcs) {k k' : Work} where
  over_own : {answer : Judgement} → Judged (handed a.states s₁.accepting a.arcs columns) w k answer k'
      → Judged (handed a.states s₁.accepting a.arcs s₁.arcs) w k answer k'
  over_own {answer} d = subst (λ (c : ArcColumns). Judged (handed a.states s₁.accepting a.arcs c) w k answer k') same d

  pub told_verdict : (j : Result Verdict Refused) → false ≡ is_err j → Judged (handed a.states s₁.accepting a.arcs columns) w k (values j) k'
      → JudgesText text w s k (values j) s₁ k'
  told_verdict (Ok v) e d = told_built h z (over_own d) (said_success v)
  told_verdict (Err r) e d = absurd (true≢false (sym e))

  pub told_refusal : (j : Result Verdict Refused) → true ≡ is_err j → Judged (handed a.states s₁.accepting a.arcs columns) w k (values j) k'
      → {s' : Shown} → s' ≡ blank s → JudgesText text w s k (values j) s' k'
  told_refusal (Ok v) e d b = absurd (true≢false e)
  told_refusal (Err r) e d b = told_short h z (over_own d) (number_some r.cause) b

  settled : (j : Result Verdict Refused) → Judged (handed a.states s₁.accepting a.arcs columns) w k (values j) k' → {s' : Shown}
      → MatchResult j (λ v. s' ≡ s₁) (λ r. s' ≡ blank s₁) → blank s₁ ≡ blank s → JudgesText text w s k (values j) s' k'
  settled (Ok v) d l b = subst (λ (x : Shown). JudgesText text w s k (values (Ok v)) x k') (sym l) (told_verdict (Ok v) refl d)
  settled (Err r) d l b = told_refusal (Err r) refl d (l ∙ b)

  pub told_settled : {j : Result Verdict Refused} → Judged (handed a.states s₁.accepting a.arcs columns) w k (values j) k'
      → {answer : Result Verdict Refused} {s' : Shown} → answer ≡ j → MatchResult answer (λ v. s' ≡ s₁) (λ r. s' ≡ blank s₁)
      → blank s₁ ≡ blank s → JudgesText text w s k (values answer) s' k'
  told_settled d {answer} e l b =
      settled answer
      (subst (λ (x : Result Verdict Refused). Judged (handed a.states s₁.accepting a.arcs columns) w k (values x) k') (sym e) d) l b
