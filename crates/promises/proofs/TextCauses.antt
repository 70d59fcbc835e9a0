-- A record judged by a text: the causes of a refusal. Leans on the causes of `site::automaton` and of the matcher, which finds no automaton that
-- was built malformed.
use Prim.Native.Nat.{◌<◌}
use native.Mathlib.Decide.{ℕ_discrete}
use native.Mathlib.Omega.{arith, by_contra}
use mathlib.Core.Path.{◌≡◌, refl, sym, ap, ◌∙◌}
use lib.ListN.{length}
use Rattle.theory.specs.Refusal.{Refusal}
use Rattle.theory.specs.Expression.{Expression}
use Rattle.theory.specs.Language.{Word}
use Rattle.theory.specs.Automaton.{arcs}
use Rattle.theory.specs.Arcs.{EvenArcs}
use Rattle.theory.specs.Grammar.{Text, Reading, read, refused}
use Rattle.theory.specs.Read.{Due}
use Rattle.theory.specs.Build.{OverRoom, of_states, of_arcs}
use Rattle.theory.specs.Record.{Work, WellFormedAutomaton, matcher_refusal}
use Rattle.theory.specs.Judge.{Judgement, judgement, withheld}
use Rattle.theory.proofs.Due.{due_once}
use Rattle.theory.proofs.Answers.{judgement_refused}
use Rattle.theory.proofs.Filled.{filled_even, filled_well_formed}
use Rattle.site.specs.Site.{Shown, site_refusal, answered, entry_columns, beside}
use Rattle.site.specs.Sited.{automaton_in, told, JudgesText}
use Rattle.site.proofs.Making.{unless_none, unless_some}
use Rattle.promises.specs.Reader as Reader
use Rattle.promises.specs.Matcher as Matcher
use Rattle.promises.specs.Matcher.{MatcherCause}
use Rattle.promises.specs.Site.{EvenShown, TextCause, unbuilt, short, judged, TextMeets}
use Rattle.promises.proofs.Causes.Exactly.{exactly}
use Rattle.promises.proofs.Causes.Reader.{written_due, due_written}
use Rattle.promises.proofs.Causes.Matcher.{never_malformed, matcher_caused, matcher_due, matcher_answers}
use Rattle.promises.proofs.Site.{fitting, fits, refusal_of, unread_some, caused, due, site_number}

-- ---- An expression that builds

module _ (e : Expression) (s : Shown) where
  -- What was built is even and not malformed.
  module _ (v : EvenShown s) (n : ¬ OverRoom e (beside s)) where
    even_built : EvenArcs (automaton_in e s).arcs.columns
    unfolding automaton_in
    even_built = filled_even s.arcs (arcs e) v.arcs (by_contra _ _ (λ l. n (of_arcs (omega arith))))

    formed : WellFormedAutomaton (automaton_in e s)
    unfolding automaton_in
    formed =
        filled_well_formed e (length s.accepting) s.arcs (by_contra _ _ (λ l. n (of_states (omega arith))))
        (by_contra _ _ (λ l. n (of_arcs (omega arith))))

    module _ {text : Text} (k : Work) (w : Reader.Written text entry_columns e) where
      built_caused : {r : Refusal} → MatcherCause (automaton_in e s) k r → TextCause text s k r
      unfolding automaton_in
      built_caused (Matcher.differ d) = absurd (d even_built)
      built_caused (Matcher.malformed u m) = absurd (never_malformed (automaton_in e s) formed m)
      built_caused (Matcher.short u m l) = short e w v n l
      built_caused (Matcher.none u m l) = judged e w v n l

-- ---- The refusal that is told

module _ (s : Shown) (k : Work) (w : Word) where
  told_built : (e : Expression) → (site_refusal e s).number ≡ 0 → (told (read e) s k w).refusal ≡ matcher_refusal (automaton_in e s) k
  unfolding told
  told_built e z =
      ap (λ (a : Judgement). a.refusal) (unless_none (site_refusal e s) (judgement (automaton_in e s) k w) (withheld (site_refusal e s)) z)
      ∙ matcher_answers {h = automaton_in e s} {w = w} {k = k} (record { answers = refl; cleared = refl })

  told_unbuilt : (q : Reading) → ¬ ((answered q s).refusal.number ≡ 0) → told q s k w ≡ withheld (answered q s).refusal
  unfolding told answered
  told_unbuilt (read e) n =
      let r = refusal_of e s in
      unless_some (site_refusal e s) (judgement (automaton_in e s) k w) (withheld (site_refusal e s)) (λ z. n (ap (λ (r : Refusal). r.number) r ∙ z))
      ∙ ap withheld (sym r)
  told_unbuilt (refused r) n = refl

  -- Where the expression that was read builds, the matcher's refusal is told.
  told_of : {text : Text} (q : Reading) (e : Expression) → Due text entry_columns q → Reader.Written text entry_columns e → EvenShown s
      → ¬ OverRoom e (beside s) → (told q s k w).refusal ≡ matcher_refusal (automaton_in e s) k
  told_of q e d x v n =
      ap (λ (p : Reading). (told p s k w).refusal) (due_once d (written_due x)) ∙ told_built e (ap (λ (r : Refusal). r.number) (fits e s v n))

  module _ {text : Text} where
    text_caused : (q : Reading) → Due text entry_columns q → TextCause text s k (told q s k w).refusal
    unfolding told answered
    text_caused (read e) d = go (ℕ_discrete (site_refusal e s).number 0)
      where
        go : Dec ((site_refusal e s).number ≡ 0) → TextCause text s k (told (read e) s k w).refusal
        go (yes z) =
            let (v, n) = fitting e s z in
            rw (told_built e z) (built_caused e s v n k (due_written d) (matcher_caused (automaton_in e s) k))
        go (no n) =
            let m : ¬ ((answered (read e) s).refusal.number ≡ 0) = λ z. n (ap (λ (r : Refusal). r.number) (sym (refusal_of e s)) ∙ z) in
            rw (told_unbuilt (read e) m) (unbuilt (caused (read e) d) m)
    text_caused (refused r) d = unbuilt (caused (refused r) d) (unread_some d)

    text_due : {r : Refusal} (q : Reading) → Due text entry_columns q → TextCause text s k r → (told q s k w).refusal ≡ r
    unfolding automaton_in
    text_due q d (unbuilt c n) =
        let e = due q d c in
        ap (λ (a : Judgement). a.refusal) (told_unbuilt q (λ z. n (ap (λ (r : Refusal). r.number) (sym e) ∙ z))) ∙ e
    text_due q d (short e x v n l) =
        told_of q e d x v n
        ∙ matcher_due (automaton_in e s) k (Matcher.short (even_built e s v n) (never_malformed (automaton_in e s) (formed e s v n)) l)
    text_due q d (judged e x v n l) =
        told_of q e d x v n
        ∙ matcher_due (automaton_in e s) k (Matcher.none (even_built e s v n) (never_malformed (automaton_in e s) (formed e s v n)) l)

-- ---- The numbers

text_number : {text : Text} {s : Shown} {k : Work} {r : Refusal} → TextCause text s k r → (r.number < 16) × ¬ (r.number ≡ 10)
text_number (unbuilt c n) = site_number c
text_number (short e w v n l) = (omega arith, λ z. omega arith)
text_number (judged e w v n l) = (omega arith, λ z. omega arith)

-- ---- The demand

-- A refusal is told with no verdict, no place and no live.
told_nothing : {a : Judgement} {r : Refusal} → a ≡ withheld r → a ≡ withheld a.refusal
told_nothing e = e ∙ ap withheld (sym (ap (λ (a : Judgement). a.refusal) e))

nothing_told : (s : Shown) (k : Work) (w : Word) (q : Reading) → ¬ ((told q s k w).refusal.number ≡ 0)
    → told q s k w ≡ withheld (told q s k w).refusal
unfolding told
nothing_told s k w (read e) n = go (ℕ_discrete (site_refusal e s).number 0)
  where
    go : Dec ((site_refusal e s).number ≡ 0) → told (read e) s k w ≡ withheld (told (read e) s k w).refusal
    go (yes z) =
        told_nothing (unless_none (site_refusal e s) (judgement (automaton_in e s) k w) (withheld (site_refusal e s)) z
        ∙ judgement_refused (automaton_in e s) k w (λ m. n (ap (λ (r : Refusal). r.number) (told_built s k w e z) ∙ m)))
    go (no m) = told_nothing (unless_some (site_refusal e s) (judgement (automaton_in e s) k w) (withheld (site_refusal e s)) m)
nothing_told s k w (refused r) n = refl

pub text_meets : {text : Text} {w : Word} {s : Shown} {k : Work} {answer : Judgement} {s' : Shown} {k' : Work} → JudgesText text w s k answer s' k'
    → TextMeets text s k answer s' k'
text_meets {text} {w} {s} {k} {answer} h = record {
  exact =
      exactly (TextCause text s k) (ap (λ (a : Judgement). a.refusal) h.answers) (text_caused s k w h.reading h.due)
      (λ r. text_due s k w h.reading h.due);
  never_malformed = λ z. number.1 (sym same ∙ z);
  numbered = let l = number.0 in omega (arith, same);
  counts = λ n. let e = h.answers ∙ nothing_told s k w h.reading (λ z. n (same ∙ z)) in
      (ap (λ (a : Judgement). a.verdict) e, ap (λ (a : Judgement). a.place) e, ap (λ (a : Judgement). a.live) e);
  columns = h.blank;
  work = h.cleared;
}
  where
    same : answer.refusal.number ≡ (told h.reading s k w).refusal.number
    same = ap (λ (a : Judgement). a.refusal.number) h.answers

    number : ((told h.reading s k w).refusal.number < 16) × ¬ ((told h.reading s k w).refusal.number ≡ 10)
    number = text_number (text_caused s k w h.reading h.due)
