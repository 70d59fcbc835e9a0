-- What the host's functions tell where nothing is refused, and the customer's second and third demand of it. Leans on `Host`.
use Prim.Native.Nat.{ℕ, ◌+◌, ◌*◌, ◌^◌, ◌≤◌}
use native.Mathlib.Nat.{le_trans, mul-le-mul, pow-le-pow_right}
use native.Mathlib.Omega.{arith}
use mathlib.Core.Path.{◌≡◌, refl, sym, ap, ◌∙◌, subst}
use mathlib.Core.Logic.{◌↔◌}
use mathlib.Core.List.{List, [], ◌∷◌}
use lib.ListN.{length, get_or, get_or-eq_default}
use Rattle.theory.specs.Refusal.{Refusal, success}
use Rattle.theory.specs.Expression.{Expression, entries}
use Rattle.theory.specs.Language.{Word, In}
use Rattle.theory.specs.Column.{filled}
use Rattle.theory.specs.Table.{Table, size, tree}
use Rattle.theory.specs.Grammar.{Text, written, Writable}
use Rattle.theory.specs.Read.{Entered, Read, entered}
use Rattle.theory.specs.Build.{Lent, Counts}
use Rattle.theory.specs.Record.{Handed, handed, Work, Verdict, accepted, unfinished, wrong, verdict, live}
use Rattle.theory.specs.Judge.{Judgement, Judged, given}
use Rattle.theory.proofs.Expressed.{expressed}
use Rattle.theory.proofs.Grammar.{unambiguous}
use Rattle.theory.proofs.Answers.{counts_built, judgement_given}
use Rattle.theory.proofs.Column.{get_or_filled, filled_length}
use Rattle.host.specs.Host.{packed, HostBuilds, HostJudges}
use Rattle.promises.specs.Table.{WellFormed}
use Rattle.promises.specs.Matcher as Matcher
use Rattle.promises.specs.Matcher.{MatcherCause, TooShort}
use Rattle.promises.specs.DemandThree.{letter_entries, Roomy}
use Rattle.promises.specs.Host.{HostTells, HostCounts, first, HostRun, HostDemands}
use Rattle.promises.proofs.Causes.Builder.{builder_answers}
use Rattle.promises.proofs.Causes.Matcher.{matcher_meets, matcher_answers}
use Rattle.promises.proofs.JudgesSo.{judges_so}
use Rattle.promises.proofs.DemandTwo.{demand_two}
use Rattle.promises.proofs.DemandThree.{demand_three}
use Rattle.promises.proofs.ReadThenBuild.{read_then_build}
use Rattle.promises.proofs.Host.{by_length, answered}

number_of : {r s : Refusal} → r ≡ s → r.number ≡ s.number
number_of e = ap (λ (r : Refusal). r.number) e

-- ---- What is told

entries_told : {text : Text} {t : Table} {a : Entered} {t' : Table} → Read text t a t' → a.refusal.number ≡ 0 → (e : Expression) → Writable e
    → written e ≡ text → a.entries ≡ entries e
entries_told h z e w s =
    let x = expressed h.due (ap (λ (a : Entered). a.refusal.number) (sym h.answers) ∙ z) in
    ap (λ (a : Entered). a.entries) (h.answers ∙ ap entered x.is) ∙ ap entries (unambiguous _ e x.writable w (x.spelled ∙ sym s))

place_none : (v : Verdict) (n : ℕ) → ¬ ((given v n).verdict ≡ 3) → (given v n).place ≡ 0
place_none accepted n d = refl
place_none unfinished n d = refl
place_none (wrong p) n d = absurd (d refl)

judge_tells : {h : Handed} {w : Word} {k k' : Work} {a : Judgement} (counts : List ℕ) → 4 ≤ length counts → Judged h w k a k' → a.refusal.number ≡ 0
    → HostTells h w counts (filled (length counts) (a.verdict ∷ a.place ∷ a.live ∷ []))
judge_tells {h} {w} {k} {a = a} counts l j z =
    let told = a.verdict ∷ a.place ∷ a.live ∷ [] in
    let t = judges_so.tells j z in
    let is = j.answers ∙ judgement_given h k w (sym (number_of (matcher_answers j)) ∙ z) in
    record {
      accepted = t.accepted;
      unfinished = t.unfinished;
      wrong = t.wrong;
      place = subst (λ (a : Judgement). ¬ (a.verdict ≡ 3) → a.place ≡ 0) (sym is) (place_none (verdict h w) (live h w));
      live = t.live;
      rest = λ i m. get_or_filled (length counts) told i ∙ get_or-eq_default told 0 m;
      whole = filled_length (length counts) told (omega arith);
    }

pub host_counts : HostCounts
host_counts = record {
  reads = λ {counts = counts} h e w s.
      let (a, o, u, k) = answered h refl in
      k ∙ ap (λ (x : ℕ). filled (length counts) (x ∷ [])) (entries_told o (number_of u) e w s);
  builds = λ {g} {c} {counts} h.
      let (a, o, u, k) = answered h refl in
      let z = number_of (sym (builder_answers o) ∙ u) in
      k ∙ ap (λ (x : Counts). filled (length counts) (x.states ∷ x.expressions ∷ x.arcs ∷ [])) (o.answers ∙ counts_built g c z);
  judges = λ {h} {w} {counts = counts} j.
      by_length j (λ l z e k. absurd (omega arith))
      (λ l a o e k. subst (HostTells h w counts) (sym k) (judge_tells counts l o (omega arith)));
}

-- ---- The second demand

long_enough : {h : Handed} {k : Work} {r : Refusal} → MatcherCause h k r → r ≡ success → ¬ TooShort k h.states
long_enough (Matcher.differ n) e = absurd (omega (arith, number_of e))
long_enough (Matcher.malformed v m) e = absurd (omega (arith, number_of e))
long_enough (Matcher.short v m l) e = absurd (omega (arith, number_of e))
long_enough (Matcher.none v m l) e = l

judged : {g : Table} {c : Lent} {counts : List ℕ} {c' : Lent} {counts' : List ℕ} {w : Word} {k : Work} {judge_lent : List ℕ} {r : ℕ} {k' : Work}
    {told : List ℕ} → HostBuilds g c counts 0 c' counts' → 4 ≤ length judge_lent → ¬ TooShort k (get_or counts' 0 0)
    → HostJudges (handed (get_or counts' 0 0) c'.accepting (get_or counts' 2 0) c'.arcs) w k judge_lent r k' told → r ≡ 0
judged {c' = c'} {w = w} {k} {judge_lent} {r} {k'} {told} h l s j =
    let (built, is_built, built_well, built_told) = answered h refl in
    let judges =
    subst (λ (x : List ℕ). HostJudges (handed (get_or x 0 0) c'.accepting (get_or x 2 0) c'.arcs) w k judge_lent r k' told) built_told j in
    let enough = subst (λ (x : List ℕ). ¬ TooShort k (get_or x 0 0)) built_told s in
    let (a, o, e, q) = judges.enough l in
    e ∙ ap packed (demand_two.accepts is_built (number_of built_well) o enough).0

accepts : {g : Table} {c : Lent} {counts : List ℕ} {c' : Lent} {counts' : List ℕ} {w : Word} {k : Work} {judge_lent : List ℕ} {k' : Work}
    {told : List ℕ}
    → HostBuilds g c counts 0 c' counts' → HostJudges (handed (get_or counts' 0 0) c'.accepting (get_or counts' 2 0) c'.arcs) w k judge_lent 0 k' told
    → (get_or told 0 0 ≡ 1) ↔ In (tree g) w
accepts {g} {c' = c'} {w = w} {k} {judge_lent} {k'} {told} h j =
    let (built, is_built, built_well, built_told) = answered h refl in
    let judges =
    subst (λ (x : List ℕ). HostJudges (handed (get_or x 0 0) c'.accepting (get_or x 2 0) c'.arcs) w k judge_lent 0 k' told) built_told j in
    let (verdict, is_judged, judged_well, said) = answered judges refl in
    subst (λ (v : ℕ). (v ≡ 1) ↔ In (tree g) w) (sym (ap (λ (x : List ℕ). get_or x 0 0) said))
    (demand_two.accepts is_built (number_of built_well) is_judged (long_enough (((matcher_meets is_judged).exact _).0 refl) judged_well)).1

accepts_text : {text : Text} {w : Word} {counts : List ℕ} → HostRun text w counts → (e : Expression) → Writable e → written e ≡ text
    → (get_or counts 0 0 ≡ 1) ↔ In e w
accepts_text {w = w} {counts} run e writable spelled =
    let (read, reads, read_well, read_told) = answered run.reads refl in
    let r = read_then_build reads (number_of read_well) in
    let builds =
    subst (λ (k : List ℕ). HostBuilds (first (get_or k 0 0) run.table_left) run.lent run.build_lent 0 run.left run.build_counts) read_told
    run.builds in
    subst (λ (x : Expression). (get_or counts 0 0 ≡ 1) ↔ In x w) (unambiguous _ e r.writable writable (r.spelled ∙ sym spelled))
    (accepts builds run.judges)

-- ---- The third demand

-- Columns that are roomy for more entries and letters are roomy for fewer.
module _ {n m n' m' : ℕ} (fewer : n' ≤ n) (less : m' ≤ m) where
  powers : 2 ^ m' ≤ 2 ^ m
  powers = pow-le-pow_right (omega arith) less

  products : n' * 2 ^ m' ≤ n * 2 ^ m
  products = mul-le-mul fewer powers

  roomy_for : {c : Lent} → Roomy c n m → Roomy c n' m'
  roomy_for r = record {
    even = r.even;
    expressions = let l = products in let b = r.expressions in omega arith;
    states = le_trans powers r.states;
    arcs = le_trans (mul-le-mul less (pow-le-pow_right (omega arith) less)) r.arcs;
  }

sized : {g : Table} {c : Lent} {counts : List ℕ} {r : ℕ} {c' : Lent} {counts' : List ℕ} (n m : ℕ) → WellFormed g → size g ≤ n
    → letter_entries g ≤ m → m ≤ 10 → n * 2 ^ m + 1 ≤ 65535 → Roomy c n m → 4 ≤ length counts → HostBuilds g c counts r c' counts' → r ≡ 0
sized n m w fewer less letters small roomy l h =
    let (a, o, e, k) = h.enough l in
    e ∙ ap packed (demand_three.builds w (le_trans less letters) (let p = products fewer less in omega arith) (roomy_for fewer less roomy) o)

pub host_demands : HostDemands
host_demands = record { judged = judged; accepts = accepts; accepts_text = accepts_text; sized = sized }
