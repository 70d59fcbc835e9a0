-- The site's two calls: the causes of a refusal, and that two results are equal. Leans on the reader's causes and on `Due`: one reading is due.
use native.Mathlib.Decide.{ℕ_discrete}
use native.Mathlib.Omega.{arith}
use Prim.Native.Nat.{ℕ, ◌<◌}
use mathlib.Core.Path.{◌≡◌, refl, sym, ap, ◌∙◌}
use mathlib.Core.Bool.{Bool, true, false, cond, ◌&&◌, false≢true, and-eq-true_iff}
use lib.ListN.{length}
use lib.Dec.{eqb}
use Rattle.std.specs.Prelude.{Result}
use borrow.Author.Tests.{eqb-true, eq-eqb}
use Rattle.theory.specs.Refusal.{Refusal, refusal, success, columns_differ, room_small}
use Rattle.theory.specs.declared.refusal.Refusal.{Refusal as Refused}
use Rattle.theory.specs.Expression.{Expression}
use Rattle.theory.specs.Language.{Word}
use Rattle.theory.specs.Arcs.{even_arcs}
use Rattle.theory.specs.Grammar.{Text, Reading, read, refused}
use Rattle.theory.specs.Read.{Due, entered}
use Rattle.theory.specs.Build.{over_room, OverRoom}
use Rattle.theory.specs.Record.{Work}
use Rattle.theory.specs.Judge.{Judgement}
use Rattle.theory.proofs.Stated.{told_once}
use Rattle.theory.proofs.Arcs.{even_arcs_iff}
use Rattle.theory.proofs.Due.{due_once}
use Rattle.theory.proofs.Expressed.{expressed}
use Rattle.theory.proofs.BuilderRefusal.{over_iff}
use Rattle.theory.specs.Rooms as Rooms
use Rattle.theory.specs.Report.{Report, withheld, needs}
use Rattle.site.specs.Site.{Shown, site_refusal, answered, left_in, entry_columns, beside, blank, Made}
use Rattle.site.specs.Sited.{told, JudgesText}
use Rattle.site.specs.Values.{values}
use Rattle.site.specs.declared.Site.{Site}
use Rattle.site.proofs.Making.{answered_built, answered_refused, left_refused}
use Rattle.promises.specs.Reader as reader
use Rattle.promises.specs.Reader.{Written}
use Rattle.promises.specs.Site.{EvenShown, SiteCause, unread, differ, room, none, SiteMeets, SiteOnce}
use Rattle.promises.proofs.Answers.{judges_apart}
use Rattle.promises.proofs.Causes.Exactly.{exactly}
use Rattle.promises.proofs.Causes.Reader.{reader_caused, reader_due, written_due, due_written}

-- ---- What is refused of an expression that was read

even_test : Shown → Bool
even_test s = eqb (length s.accepting) Rooms.states && even_arcs s.arcs

even_passed : (s : Shown) → even_test s ≡ true → EvenShown s
unfolding even_test
even_passed s e =
    let (a, b) = (and-eq-true_iff (eqb (length s.accepting) Rooms.states) (even_arcs s.arcs)).0 e in
    record { accepting = eqb-true _ _ a; arcs = (even_arcs_iff s.arcs).0 b }

even_passes : (s : Shown) → EvenShown s → even_test s ≡ true
unfolding even_test
even_passes s v = (and-eq-true_iff _ _).1 (eq-eqb _ _ v.accepting, (even_arcs_iff s.arcs).1 v.arcs)

ordered : Bool → Bool → Refusal
ordered even over = cond even (cond over (refusal room_small 0) success) (refusal columns_differ 0)

by_tests : (e : Expression) (s : Shown) {b o : Bool} → even_test s ≡ b → over_room e (beside s) ≡ o → site_refusal e s ≡ ordered b o
unfolding site_refusal even_test ordered
by_tests e s p q = λ i. ordered (p i) (q i)

not_so : (b : Bool) → (b ≡ true → ⊥) → b ≡ false
not_so true n = absurd (n refl)
not_so false n = refl

caused_by : {text : Text} (e : Expression) (s : Shown) → Written text entry_columns e → SiteCause text s (site_refusal e s)
unfolding ordered
caused_by {text} e s w = go (even_test s) (over_room e (beside s)) refl refl
  where
    go : (b o : Bool) → even_test s ≡ b → over_room e (beside s) ≡ o → SiteCause text s (site_refusal e s)
    go true true p q = rw (by_tests e s p q) (room e w (even_passed s p) ((over_iff e (beside s)).0 q))
    go true false p q = rw (by_tests e s p q) (none e w (even_passed s p) (λ x. false≢true (sym q ∙ (over_iff e (beside s)).1 x)))
    go false o p q = rw (by_tests e s p q) (differ e w (λ v. false≢true (sym p ∙ even_passes s v)))

-- Nothing is refused of an expression just where the columns are even and its needs do not exceed their rooms.
pub fitting : (e : Expression) (s : Shown) → (site_refusal e s).number ≡ 0 → EvenShown s × ¬ OverRoom e (beside s)
unfolding ordered
fitting e s z = go (even_test s) (over_room e (beside s)) refl refl
  where
    at : {b o : Bool} → even_test s ≡ b → over_room e (beside s) ≡ o → (ordered b o).number ≡ 0
    at p q = ap (λ (r : Refusal). r.number) (sym (by_tests e s p q)) ∙ z

    go : (b o : Bool) → even_test s ≡ b → over_room e (beside s) ≡ o → EvenShown s × ¬ OverRoom e (beside s)
    go true true p q = absurd (let n = at p q in omega arith)
    go true false p q = (even_passed s p, λ x. false≢true (sym q ∙ (over_iff e (beside s)).1 x))
    go false o p q = absurd (let n = at p q in omega arith)

pub fits : (e : Expression) (s : Shown) → EvenShown s → ¬ OverRoom e (beside s) → site_refusal e s ≡ success
unfolding ordered
fits e s v n = by_tests e s (even_passes s v) (not_so (over_room e (beside s)) (λ p. n ((over_iff e (beside s)).0 p)))

-- The answer's refusal is the expression's.
pub refusal_of : (e : Expression) (s : Shown) → (answered (read e) s).refusal ≡ site_refusal e s
unfolding ordered needs
refusal_of e s = go (ℕ_discrete (site_refusal e s).number 0)
  where
    clear : (b o : Bool) → (ordered b o).number ≡ 0 → ordered b o ≡ success
    clear true true z = absurd (omega arith)
    clear true false z = refl
    clear false o z = absurd (omega arith)

    go : Dec ((site_refusal e s).number ≡ 0) → (answered (read e) s).refusal ≡ site_refusal e s
    go (yes z) =
        let b = even_test s in
        let o = over_room e (beside s) in
        let by : site_refusal e s ≡ ordered b o = by_tests e s refl refl in
        ap (λ (a : Report). a.refusal) (answered_built e s z) ∙ sym (by ∙ clear b o (ap (λ (r : Refusal). r.number) (sym by) ∙ z))
    go (no n) = ap (λ (a : Report). a.refusal) (answered_refused e s n)

-- ---- The demand

-- A text that is not read is refused with a number.
pub unread_some : {text : Text} {r : Refusal} → Due text entry_columns (refused r) → ¬ (r.number ≡ 0)
unread_some d z = let x = expressed d z in let no : ◌≡◌ {A = ℕ} 0 1 = told_apart x.is in omega arith
  where
    told_apart : {r : Refusal} {e : Expression} → refused r ≡ read e → ◌≡◌ {A = ℕ} 0 1
    told_apart q = cc

module _ {text : Text} {s : Shown} where
  pub caused : (q : Reading) → Due text entry_columns q → SiteCause text s (answered q s).refusal
  unfolding answered
  caused (read e) d = rw (refusal_of e s) (caused_by e s (due_written d))
  caused (refused r) d = unread (reader_caused d) (unread_some d)

  pub due : {r : Refusal} (q : Reading) → Due text entry_columns q → SiteCause text s r → (answered q s).refusal ≡ r
  unfolding answered ordered
  due (read e) d (unread c n) = absurd (n (ap (λ (r : Refusal). r.number) (sym (reader_due d c))))
  due (refused r) d (unread c n) = reader_due d c
  due q d (differ e w n) =
      ap (λ q. (answered q s).refusal) (due_once d (written_due w)) ∙ refusal_of e s
      ∙ by_tests e s (not_so (even_test s) (λ p. n (even_passed s p))) refl
  due q d (room e w v o) =
      ap (λ q. (answered q s).refusal) (due_once d (written_due w)) ∙ refusal_of e s ∙ by_tests e s (even_passes s v) ((over_iff e (beside s)).1 o)
  due q d (none e w v n) =
      ap (λ q. (answered q s).refusal) (due_once d (written_due w)) ∙ refusal_of e s
      ∙ by_tests e s (even_passes s v) (not_so (over_room e (beside s)) (λ p. n ((over_iff e (beside s)).0 p)))

-- The numbers are below 16, and 10 is none of them.
reader_number : {text : Text} {r : Refusal} → reader.ReaderCause text entry_columns r → (r.number < 16) × ¬ (r.number ≡ 10)
reader_number (reader.differ n) = (omega arith, λ z. omega arith)
reader_number (reader.long v l) = (omega arith, λ z. omega arith)
reader_number (reader.broken p r v) = (omega arith, λ z. omega arith)
reader_number (reader.stopped l p n) = (omega arith, λ z. omega arith)
reader_number (reader.deep p r v l) = (omega arith, λ z. omega arith)
reader_number (reader.many p r v l) = (omega arith, λ z. omega arith)
reader_number (reader.none e w) = (omega arith, λ z. omega arith)

pub site_number : {text : Text} {s : Shown} {r : Refusal} → SiteCause text s r → (r.number < 16) × ¬ (r.number ≡ 10)
site_number (unread c n) = reader_number c
site_number (differ e w n) = (omega arith, λ z. omega arith)
site_number (room e w v o) = (omega arith, λ z. omega arith)
site_number (none e w v n) = (omega arith, λ z. omega arith)

nothing_left : (s : Shown) (q : Reading) → ¬ ((answered q s).refusal.number ≡ 0)
    → (answered q s ≡ withheld (answered q s).refusal) × (left_in q s ≡ blank s)
unfolding answered left_in
nothing_left s (read e) n =
    let m : ¬ ((site_refusal e s).number ≡ 0) = λ z. n (ap (λ (r : Refusal). r.number) (refusal_of e s) ∙ z) in
    (answered_refused e s m ∙ ap withheld (sym (refusal_of e s)), left_refused e s m)
nothing_left s (refused r) n = (refl, refl)

pub site_meets : {text : Text} {s : Shown} {answer : Report} {s' : Shown} → Made text s answer s' → SiteMeets text s answer s'
site_meets {text} {s} {answer} h = record {
  exact = exactly (SiteCause text s) (ap (λ (a : Report). a.refusal) h.answers) (caused h.reading h.due) (λ r. due h.reading h.due);
  numbered = let l = (site_number {s = s} (caused h.reading h.due)).0 in omega (arith, ap (λ (a : Report). a.refusal.number) h.answers);
  counts = λ n. h.answers ∙ (nothing_left s h.reading (again n)).0 ∙ ap (λ (a : Report). withheld a.refusal) (sym h.answers);
  columns = λ n. h.leaves ∙ (nothing_left s h.reading (again n)).1;
}
  where
    again : ¬ (answer.refusal.number ≡ 0) → ¬ ((answered h.reading s).refusal.number ≡ 0)
    again n z = n (ap (λ (a : Report). a.refusal.number) h.answers ∙ z)

-- ---- Two results

made_once : {text : Text} {s : Shown} {a b : Report} {s' s'' : Shown} → Made text s a s' → Made text s b s'' → (a ≡ b) × (s' ≡ s'')
made_once {s = s} h k =
    let same = due_once h.due k.due in
    (h.answers ∙ ap (λ q. answered q s) same ∙ sym k.answers, h.leaves ∙ ap (λ q. left_in q s) same ∙ sym k.leaves)

read_number : (q : Reading) (s : Shown) (k : Work) (w : Word) → (told q s k w).refusal.number ≡ 0 → (entered q).refusal.number ≡ 0
unfolding told
read_number (read e) s k w z = refl
read_number (refused r) s k w z = z

judged_once : {text : Text} {w : Word} {s : Shown} {k : Work} {a b : Judgement} {s' s'' : Shown} {k' k'' : Work}
    → JudgesText text w s k a s' k' → JudgesText text w s k b s'' k'' → (a ≡ b) × (s' ≡ s'') × (k' ≡ k'')
judged_once {text} {w} {s} {k} {a} {b} {s'} {s''} h j = (answers, columns (ℕ_discrete a.refusal.number 0), h.cleared ∙ sym j.cleared)
  where
    answers : a ≡ b
    answers = h.answers ∙ ap (λ q. told q s k w) (due_once h.due j.due) ∙ sym j.answers

    number : a.refusal.number ≡ b.refusal.number
    number = ap (λ (x : Judgement). x.refusal.number) answers

    columns : Dec (a.refusal.number ≡ 0) → s' ≡ s''
    columns (yes z) =
        let x = expressed h.due (read_number h.reading s k w (ap (λ (y : Judgement). y.refusal.number) (sym h.answers) ∙ z)) in
        h.holds z x.expression x.writable x.spelled ∙ sym (j.holds (sym number ∙ z) x.expression x.writable x.spelled)
    columns (no n) = h.blank n ∙ sym (j.blank (λ z. n (number ∙ z)))

sites_apart : (a b : Result Site Refused) → values a ≡ values b → a ≡ b
sites_apart =
    told_once values (λ x. x.refusal)
    (λ x. record { entries = x.entries; letters = x.letters; states = x.states; expressions = x.expressions; arcs = x.arcs }) (λ v. refl)
    (λ r. refl) (λ v. refl)

pub site_once : SiteOnce
site_once = record {
  automaton = made_once;
  judge = judged_once;
  sites = λ a b h k. sites_apart a b (made_once h k).0;
  tells = λ a b h k. judges_apart a b (judged_once h k).0;
}
