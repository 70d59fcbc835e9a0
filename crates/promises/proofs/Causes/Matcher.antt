-- The matcher's refusals have their causes. Leans on `MatcherRefusal` of the theory for what the tests mean.
use Prim.Native.Nat.{ℕ, ◌≤◌, ◌<◌}
use native.Mathlib.Nat.{lt_of_not-le}
use native.Mathlib.Decide.{ℕ_discrete, dec_le, dec_lt}
use native.Mathlib.Omega.{arith, by_contra}
use mathlib.Core.Path.{◌≡◌, refl, sym, ap, ◌∙◌, subst}
use mathlib.Core.Logic.{◌⊎◌, inl, inr, ⊎_elim}
use mathlib.Core.Bool.{Bool, true, false, false≢true}
use lib.ListN.{length, get_or}
use Rattle.theory.specs.Limit.{most_states, most_arcs}
use Rattle.theory.specs.Refusal.{Refusal, success, work_short}
use Rattle.theory.specs.Language.{Word}
use Rattle.theory.specs.Arcs.{even_arcs}
use Rattle.theory.specs.Record.{Handed, Work, short, Verdict, accepted, unfinished, wrong, verdict, live, well_formed, WellFormedAutomaton, matcher_refusal}
use Rattle.theory.specs.Judge.{Judgement, Judged, judgement, given}
use Rattle.theory.proofs.Answers.{judgement_given, judgement_refused}
use Rattle.theory.proofs.Arcs.{even_arcs_iff}
use Rattle.theory.proofs.Below.{each_below}
use Rattle.theory.proofs.Tests.{false_of}
use Rattle.theory.proofs.MatcherRefusal.{well_formed_iff, ordered, refusal_by}
use Rattle.promises.specs.Matcher as Causes
use Rattle.promises.specs.Matcher.{Malformed, no_state, many_states, states_beyond, arcs_beyond, many_arcs, accepting_value, from_beyond, to_beyond, letter_zero, MatcherCause, differ, malformed, none, MatcherMeets}
use Rattle.promises.proofs.Words.{short_is}
use Rattle.promises.proofs.Causes.Exactly.{exactly}

-- ---- Refusal 10

module _ (h : Handed) where
  abbrev from : ℕ → ℕ
  from i = get_or h.arcs.columns.from i 0

  abbrev to : ℕ → ℕ
  to i = get_or h.arcs.columns.to i 0

  abbrev letter : ℕ → ℕ
  letter i = get_or h.arcs.columns.letter i 0

  pub never_malformed : WellFormedAutomaton h → ¬ Malformed h
  never_malformed w (no_state z) = let l = w.some_state in omega arith
  never_malformed w (many_states m) = let l = w.few_states in omega arith
  never_malformed w (states_beyond b) = let l = w.accepting_long in omega arith
  never_malformed w (arcs_beyond b) = let l = w.arcs_long in omega arith
  never_malformed w (many_arcs m) = let l = w.few_arcs in omega arith
  never_malformed w (accepting_value t l v) = let m = w.accepting_value t l in omega arith
  never_malformed w (from_beyond i l b) = let m = w.from_below i l in omega arith
  never_malformed w (to_beyond i l b) = let m = w.to_below i l in omega arith
  never_malformed w (letter_zero i l z) = let m = w.letter_some i l in omega arith

  -- A question that is answered no gives cause.
  asked : {A : Type 0} → Dec A → (¬ A → Malformed h) → (A → WellFormedAutomaton h ⊎ Malformed h) → WellFormedAutomaton h ⊎ Malformed h
  asked (yes a) f g = g a
  asked (no n) f g = inr (f n)

  asked_each : (n : ℕ) (P : ℕ → Type 0) → ((k : ℕ) → Dec (P k)) → ((k : ℕ) → k < n → ¬ P k → Malformed h)
      → (((k : ℕ) → k < n → P k) → WellFormedAutomaton h ⊎ Malformed h) → WellFormedAutomaton h ⊎ Malformed h
  asked_each n P d f g = ⊎_elim g (λ (k, l, q). inr (f k l q)) (each_below n P d)

  pub formed_or_not : WellFormedAutomaton h ⊎ Malformed h
  formed_or_not =
      asked (dec_lt 0 h.states) (λ n. no_state (omega arith)) λ some_state.
      asked (dec_le h.states most_states) (λ n. many_states (lt_of_not-le n)) λ few_states.
      asked (dec_le h.states (length h.accepting)) (λ n. states_beyond (lt_of_not-le n)) λ accepting_long.
      asked (dec_le h.arcs.count (length h.arcs.columns.from)) (λ n. arcs_beyond (lt_of_not-le n)) λ arcs_long.
      asked (dec_le h.arcs.count most_arcs) (λ n. many_arcs (lt_of_not-le n)) λ few_arcs.
      asked_each h.states (λ t. get_or h.accepting t 0 ≤ 1) (λ t. dec_le _ 1) (λ t l n. accepting_value t l (lt_of_not-le n)) λ values.
      asked_each h.arcs.count (λ i. from i < h.states) (λ i. dec_lt _ _) (λ i l n. from_beyond i l (by_contra _ _ n)) λ from_below.
      asked_each h.arcs.count (λ i. to i < h.states) (λ i. dec_lt _ _) (λ i l n. to_beyond i l (by_contra _ _ n)) λ to_below.
      asked_each h.arcs.count (λ i. 0 < letter i) (λ i. dec_lt 0 _) (λ i l n. letter_zero i l (omega arith)) λ letter_some.
      inl (record {
        some_state = some_state;
        few_states = few_states;
        accepting_long = accepting_long;
        arcs_long = arcs_long;
        few_arcs = few_arcs;
        accepting_value = values;
        from_below = from_below;
        to_below = to_below;
        letter_some = letter_some;
      })

  malformed_found : well_formed h ≡ false → Malformed h
  malformed_found e = ⊎_elim (λ w. absurd (false≢true (sym e ∙ (well_formed_iff h).1 w))) (λ m. m) formed_or_not

  formed : ¬ Malformed h → well_formed h ≡ true
  formed n = ⊎_elim (λ w. (well_formed_iff h).1 w) (λ m. absurd (n m)) formed_or_not

-- ---- All refusals

module _ (h : Handed) (k : Work) where
  pub matcher_caused : MatcherCause h k (matcher_refusal h k)
  matcher_caused =
      subst (MatcherCause h k) (sym (refusal_by h k refl refl refl))
      (go (even_arcs h.arcs.columns) (well_formed h) (short k h.states) refl refl refl)
    where
      go : (even good few : Bool) → even_arcs h.arcs.columns ≡ even → well_formed h ≡ good → short k h.states ≡ few
          → MatcherCause h k (ordered even good few)
      go false good few e w s = differ (λ v. false≢true (sym e ∙ (even_arcs_iff _).1 v))
      go true false few e w s = malformed ((even_arcs_iff _).0 e) (malformed_found h w)
      go true true true e w s =
          Causes.short ((even_arcs_iff _).0 e) (never_malformed h ((well_formed_iff h).0 w)) ((short_is k h.states).0 s)
      go true true false e w s =
          none ((even_arcs_iff _).0 e) (never_malformed h ((well_formed_iff h).0 w)) (λ l. false≢true (sym s ∙ (short_is k h.states).1 l))

  pub matcher_due : {r : Refusal} → MatcherCause h k r → matcher_refusal h k ≡ r
  matcher_due (differ n) = refusal_by h k (false_of _ (λ e. n ((even_arcs_iff _).0 e))) refl refl
  matcher_due (malformed v m) = refusal_by h k ((even_arcs_iff _).1 v) (false_of _ (λ w. never_malformed h ((well_formed_iff h).0 w) m)) refl
  matcher_due (Causes.short v n l) =
      refusal_by h k ((even_arcs_iff _).1 v) (formed h n) ((short_is k h.states).1 l)
  matcher_due (none v n l) = refusal_by h k ((even_arcs_iff _).1 v) (formed h n) (false_of _ (λ s. l ((short_is k h.states).0 s)))

  pub matcher_numbered : {r : Refusal} → MatcherCause h k r → r.number ≤ work_short
  matcher_numbered (differ n) = omega arith
  matcher_numbered (malformed v m) = omega arith
  matcher_numbered (Causes.short v n l) = omega arith
  matcher_numbered (none v n l) = omega arith

  pub matcher_clear : {r : Refusal} → MatcherCause h k r → r.number ≡ 0 → r ≡ success
  matcher_clear (differ n) z = absurd (omega arith)
  matcher_clear (malformed v m) z = absurd (omega arith)
  matcher_clear (Causes.short v n l) z = absurd (omega arith)
  matcher_clear (none v n l) z = refl

given_success : (v : Verdict) (n : ℕ) → (given v n).refusal ≡ success
given_success accepted n = refl
given_success unfinished n = refl
given_success (wrong p) n = refl

module _ {h : Handed} {w : Word} {k k' : Work} {answer : Judgement} (j : Judged h w k answer k') where
  -- The answer's refusal is the one that is due.
  pub matcher_answers : answer.refusal ≡ matcher_refusal h k
  matcher_answers = ap (λ (a : Judgement). a.refusal) j.answers ∙ go (ℕ_discrete (matcher_refusal h k).number 0)
    where
      go : Dec ((matcher_refusal h k).number ≡ 0) → (judgement h k w).refusal ≡ matcher_refusal h k
      go (yes z) =
          ap (λ (a : Judgement). a.refusal) (judgement_given h k w z) ∙ given_success (verdict h w) (live h w)
          ∙ sym (matcher_clear h k (matcher_caused h k) z)
      go (no n) = ap (λ (a : Judgement). a.refusal) (judgement_refused h k w n)

  pub matcher_meets : MatcherMeets h k answer k'
  matcher_meets = record {
    exact = exactly (MatcherCause h k) matcher_answers (matcher_caused h k) (λ r. matcher_due h k);
    numbered = rw matcher_answers (let l = matcher_numbered h k (matcher_caused h k) in omega arith);
    counts = λ n. let e = j.answers ∙ judgement_refused h k w (λ z. n (ap (λ (r : Refusal). r.number) matcher_answers ∙ z)) in
        (ap (λ (a : Judgement). a.verdict) e, ap (λ (a : Judgement). a.place) e, ap (λ (a : Judgement). a.live) e);
    columns = j.cleared;
  }
