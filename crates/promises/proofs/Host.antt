-- The host's three functions: the packing is undone, the customer's first demand holds of what C is answered, and two results that meet a contract
-- are the same. Leans on the causes of the three calls and on `Once`.
use Prim.Native.Nat.{ℕ, suc, ◌-◌, ◌≤◌, ◌<◌}
use native.Mathlib.Decide.{dec_lt}
use native.Mathlib.Omega.{arith, by_contra}
use mathlib.Core.Path.{◌≡◌, refl, sym, ap, ap₂, ◌∙◌, subst}
use mathlib.Core.Logic.{◌↔◌}
use mathlib.Core.List.{List, [], ◌∷◌}
use lib.ListN.{length, get_or}
use Rattle.theory.specs.Refusal.{Refusal, refusal, success}
use Rattle.theory.specs.Language.{Word}
use Rattle.theory.specs.Column.{zeros, filled}
use Rattle.theory.specs.Table.{Table}
use Rattle.theory.specs.Grammar.{Text}
use Rattle.theory.specs.Build.{Lent}
use Rattle.theory.specs.Record.{Handed, Work}
use Rattle.theory.proofs.Places as Places
use Rattle.host.specs.Host.{packed, Hosted, HostReads, HostBuilds, HostJudges}
use Rattle.host.proofs.Hosting.{no_counts}
use Rattle.promises.specs.Reader as Reader
use Rattle.promises.specs.Reader.{ReaderCause}
use Rattle.promises.specs.Builder.{BuilderCause}
use Rattle.promises.specs.Matcher as Matcher
use Rattle.promises.specs.Matcher.{MatcherCause}
use Rattle.promises.specs.Once.{SameBuild}
use Rattle.promises.specs.Host.{HostCause, few, enough, taken_apart, Reversible, PackingUndone, HostMeets, HostDemandOne, HostedAlike, HostOnce}
use Rattle.promises.proofs.Causes.Reader.{dues, reader_numbered, reader_meets}
use Rattle.promises.proofs.Causes.Builder.{builder_due, builder_numbered, builder_clear, builder_meets}
use Rattle.promises.proofs.Causes.Matcher.{matcher_numbered, matcher_clear, matcher_meets}
use Rattle.promises.proofs.Once.{read_once, build_once, judge_once, cleared_once}

-- ---- The packing

-- A place below 2^32 is the rest, and the number the quotient.
undone : (r : Refusal) → r.place < 4294967296 → taken_apart (packed r) ≡ r
undone r l = ap₂ refusal (omega arith) (omega arith)

reversible : {most : ℕ} (r : Refusal) → r.number < 24 → r.place ≤ most → most < 4294967296 → Reversible most r
reversible r n l m = record { number = n; place = l; holds = omega arith; undone = undone r (omega arith) }

-- Where a refusal with cause can stand.
reader_place : {text : Text} {t : Table} {r : Refusal} → ReaderCause text t r → r.place ≤ 4096
reader_place c = let (q, d, e) = dues c in let l = Places.reader_place d in omega (arith, ap (λ (r : Refusal). r.place) e)

builder_place : {g : Table} {c : Lent} {r : Refusal} → BuilderCause g c r → r.place ≤ 511
builder_place {g} {c} b = let l = Places.builder_place g c in omega (arith, ap (λ (r : Refusal). r.place) (builder_due g c b))

matcher_place : {h : Handed} {k : Work} {r : Refusal} → MatcherCause h k r → r.place ≤ 0
matcher_place (Matcher.differ n) = omega arith
matcher_place (Matcher.malformed v m) = omega arith
matcher_place (Matcher.short v m l) = omega arith
matcher_place (Matcher.none v m l) = omega arith

-- The pairs of the host are 23 at 0 and those of the call.
host_reversible : {Cause : Refusal → Type 0} {counts : List ℕ} {r : Refusal} (most : ℕ) → most < 4294967296
    → ((e : Refusal) → Cause e → (e.number < 24) × (e.place ≤ most)) → HostCause Cause counts r → Reversible most r
host_reversible most m f (few l) = reversible (refusal 23 0) (omega arith) (omega arith) m
host_reversible {r = r} most m f (enough l c) = reversible r (f r c).0 (f r c).1 m

read_pair : {text : Text} {t : Table} (r : Refusal) → ReaderCause text t r → (r.number < 24) × (r.place ≤ 4096)
read_pair r c = (let l = reader_numbered c in omega arith, reader_place c)

build_pair : {g : Table} {c : Lent} (r : Refusal) → BuilderCause g c r → (r.number < 24) × (r.place ≤ 511)
build_pair r b = (let l = builder_numbered _ _ b in omega arith, builder_place b)

judge_pair : {h : Handed} {k : Work} (r : Refusal) → MatcherCause h k r → (r.number < 24) × (r.place ≤ 0)
judge_pair r c = (let l = matcher_numbered _ _ c in omega arith, matcher_place c)

pub packing_undone : PackingUndone
packing_undone = record {
  sum = λ n p. refl;
  reads = host_reversible 4096 (omega arith) read_pair;
  builds = host_reversible 511 (omega arith) build_pair;
  judges = host_reversible 0 (omega arith) judge_pair;
}

-- ---- With few numbers for the counts, and with enough

module _ {A : Type 0} {refusal_of : A → Refusal} {numbers : A → List ℕ} {Owes : A → Type 0} {Zero : Type 0} {counts : List ℕ} {r : ℕ}
    {counts' : List ℕ} (h : Hosted refusal_of numbers Owes Zero counts r counts') where
  -- What follows both ways follows.
  pub by_length : {C : Type 0} → (length counts < 4 → Zero → r ≡ packed (refusal 23 0) → counts' ≡ zeros (length counts) → C)
      → (4 ≤ length counts → (a : A) → Owes a → r ≡ packed (refusal_of a) → counts' ≡ filled (length counts) (numbers a) → C) → C
  by_length {C} f g = go (dec_lt (length counts) 4)
    where
      go : Dec (length counts < 4) → C
      go (yes l) = let (z, e, k) = h.few l in f l z e k
      go (no n) = let l : 4 ≤ length counts = by_contra _ _ n in let (a, o, e, k) = h.enough l in g l a o e k

  -- What is answered 0 was not refused by the call either.
  pub answered : r ≡ 0 → (a : A) × Owes a × (refusal_of a ≡ success) × (counts' ≡ filled (length counts) (numbers a))
  answered z = by_length
      (λ l o e k. absurd (omega arith))
      (λ l a o e k. (a, o, ap₂ refusal (omega arith) (omega arith), k))

  -- Demand 1, where it holds of the call: the call is refused exactly where there is cause, its counts are then zero, and so are its columns.
  host_meets : {Cause : Refusal → Type 0} → ((a : A) → Owes a → (e : Refusal) → (refusal_of a ≡ e) ↔ Cause e)
      → ((e : Refusal) → Cause e → e.place < 4294967296)
      → ((a : A) → Owes a → ¬ (refusal_of a ≡ success) → Zero × (4 ≤ length counts → filled (length counts) (numbers a) ≡ zeros (length counts)))
      → HostMeets Cause Zero counts r counts'
  host_meets {Cause} exact place zero = by_length
      (λ l o e k. record {
        exact = λ q. (
          λ s. subst (HostCause Cause counts) (sym (ap taken_apart e ∙ undone (refusal 23 0) (omega arith)) ∙ s) (few l),
          λ c. ap taken_apart e ∙ undone (refusal 23 0) (omega arith) ∙ first_few l c,
        );
        no_count = λ n. k;
        columns = λ n. o;
      })
      (λ l a o e k. let apart = ap taken_apart e ∙ undone (refusal_of a) (place _ ((exact a o _).0 refl)) in record {
        exact = λ q. (
          λ s. enough l ((exact a o q).0 (sym apart ∙ s)),
          λ c. apart ∙ then_enough l (λ d. (exact a o q).1 d) c,
        );
        no_count = λ n. k ∙ (zero a o (λ s. n (e ∙ ap packed s))).1 l;
        columns = λ n. (zero a o (λ s. n (e ∙ ap packed s))).0;
      })
    where
      first_few : {q : Refusal} → length counts < 4 → HostCause Cause counts q → refusal 23 0 ≡ q
      first_few l (few m) = refl
      first_few l (enough m c) = absurd (omega arith)

      then_enough : {q e : Refusal} → 4 ≤ length counts → (Cause q → e ≡ q) → HostCause Cause counts q → e ≡ q
      then_enough l f (few m) = absurd (omega arith)
      then_enough l f (enough m c) = f c

-- ---- The letter's first demand

reader_clear : {text : Text} {t : Table} {r : Refusal} → ReaderCause text t r → r.number ≡ 0 → r ≡ success
reader_clear (Reader.differ n) z = absurd (omega arith)
reader_clear (Reader.long v l) z = absurd (omega arith)
reader_clear (Reader.broken p b n) z = absurd (omega arith)
reader_clear (Reader.stopped v b n) z = absurd (omega arith)
reader_clear (Reader.deep p b a d) z = absurd (omega arith)
reader_clear (Reader.many p b a d) z = absurd (omega arith)
reader_clear (Reader.none e w) z = refl

-- Counts that are zero fill the slice with zero.
one_zero : {n a : ℕ} → a ≡ 0 → 4 ≤ n → filled n (a ∷ []) ≡ zeros n
one_zero {n} e l = ap (λ (x : ℕ). filled n (x ∷ [])) e ∙ sym (ap zeros (let k : n ≡ suc (n - 1) = omega arith in k))

three_zero : {n a b c : ℕ} → (a ≡ 0) × (b ≡ 0) × (c ≡ 0) → 4 ≤ n → filled n (a ∷ b ∷ c ∷ []) ≡ zeros n
three_zero {n} (e, f, g) l = (λ i. filled n (e i ∷ f i ∷ g i ∷ [])) ∙ sym (no_counts n l)

pub host_demand_one : HostDemandOne
host_demand_one = record {
  reads = λ h. host_meets h (λ a o. (reader_meets o).exact) (λ e c. let l = reader_place c in omega arith) λ a o n.
      let m : ¬ (a.refusal.number ≡ 0) = λ z. n (reader_clear (((reader_meets o).exact _).0 refl) z) in
      ((reader_meets o).columns m, one_zero ((reader_meets o).count m));
  builds = λ {g} {c} h. host_meets h (λ a o. (builder_meets o).exact) (λ e c. let l = builder_place c in omega arith) λ a o n.
      let m : ¬ (a.refusal.number ≡ 0) = λ z. n (builder_clear g c (((builder_meets o).exact _).0 refl) z) in
      ((builder_meets o).columns m, three_zero ((builder_meets o).counts m));
  judges = λ {h} {w} {k} j. host_meets j (λ a o. (matcher_meets o).exact) (λ e c. let l = matcher_place c in omega arith) λ a o n.
      let m : ¬ (a.refusal.number ≡ 0) = λ z. n (matcher_clear h k (((matcher_meets o).exact _).0 refl) z) in
      ((matcher_meets o).columns, three_zero ((matcher_meets o).counts m));
  rests = λ j. by_length j (λ l z e k. z) (λ l a o e k. o.cleared);
}

-- ---- Two results that meet a contract

module _ {A : Type 0} {refusal_of : A → Refusal} {numbers : A → List ℕ} {Owes Owes' : A → Type 0} {Zero Zero' : Type 0} {counts : List ℕ} {r s : ℕ}
    {counts' counts'' : List ℕ} (h : Hosted refusal_of numbers Owes Zero counts r counts')
    (k : Hosted refusal_of numbers Owes' Zero' counts s counts'') where
  -- What follows where both slices are short, and where the answers behind both are the same, follows.
  both : {C : Type 0} → ((a b : A) → Owes a → Owes' b → a ≡ b) → ((r ≡ s) × (counts' ≡ counts'') → r ≡ packed (refusal 23 0) → Zero → Zero' → C)
      → ((r ≡ s) × (counts' ≡ counts'') → (a b : A) → Owes a → Owes' b → r ≡ packed (refusal_of a) → counts' ≡ filled (length counts) (numbers a) → C)
      → C
  both same f g = by_length h
      (λ l z e n. let (z', e', n') = k.few l in f (e ∙ sym e', n ∙ sym n') e z z')
      (λ l a o e n. let (b, o', e', n') = k.enough l in let q = same a b o o' in
      g (e ∙ ap (λ (x : A). packed (refusal_of x)) q ∙ sym e', n ∙ ap (λ (x : A). filled (length counts) (numbers x)) q ∙ sym n') a b o o' e n)

reads_once : {text : Text} {t : Table} {counts : List ℕ} {r s : ℕ} {t' t'' : Table} {counts' counts'' : List ℕ}
    → HostReads text t counts r t' counts' → HostReads text t counts s t'' counts'' → (r ≡ s) × (t' ≡ t'') × (counts' ≡ counts'')
reads_once h k =
    both h k (λ a b o p. (read_once.once o p).0) (λ (e, n) q z y. (e, z ∙ sym y, n)) (λ (e, n) a b o p q c. (e, (read_once.once o p).1, n))

judges_once : {h : Handed} {w : Word} {k : Work} {counts : List ℕ} {r s : ℕ} {k' k'' : Work} {counts' counts'' : List ℕ}
    → HostJudges h w k counts r k' counts' → HostJudges h w k counts s k'' counts'' → (r ≡ s) × (k' ≡ k'') × (counts' ≡ counts'')
judges_once j i =
    both j i (λ a b o p. (judge_once.once o p).0) (λ (e, n) q z y. (e, z ∙ sym y, n)) (λ (e, n) a b o p q c. (e, (judge_once.once o p).1, n))

builds_once : {g : Table} {c : Lent} {counts : List ℕ} {r s : ℕ} {d d' : Lent} {counts' counts'' : List ℕ}
    → HostBuilds g c counts r d counts' → HostBuilds g c counts s d' counts'' → HostedAlike r s d d' counts' counts''
builds_once {g} {c} {r = r} {d = d} {d'} h k = both h k (λ a b o p. (build_once.once o p).answers)
    (λ (e, n) q z y. record { answers = e; counts = n; refused = λ m. cleared_once z y; built = λ z. absurd (omega arith) })
    (λ (e, n) a b o p q f. record {
      answers = e;
      counts = n;
      refused = λ m. (build_once.once o p).refused (λ z. m (q ∙ ap packed (builder_clear g c (((builder_meets o).exact _).0 refl) z)));
      built = λ z. subst (λ (k : List ℕ). SameBuild (get_or k 1 0) (get_or k 0 0) d d') (sym f) ((build_once.once o p).built (omega arith));
    })

pub host_once : HostOnce
host_once = record { reads = reads_once; builds = builds_once; judges = judges_once }
