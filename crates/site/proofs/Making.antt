-- From the reader's promise and the builder's to that of a site. Leans on `Expressed`, by which a text that is read is read as the expression
-- that it writes, and on `Fitting`.
use Prim.Native.Nat.{ℕ, ◌≤◌}
use native.Mathlib.Omega.{arith}
use mathlib.Core.Path.{◌≡◌, refl, sym, ap, ◌∙◌, subst}
use mathlib.Core.List.{List, map}
use lib.ListN.{length, length-map}
use borrow.Author.Tests.{eq-eqb, ne_eqb}
use native.Mathlib.Decide.{ℕ_discrete}
use Rattle.theory.specs.Expression.{Expression, entries, letters}
use Rattle.theory.specs.Refusal.{Refusal, success}
use Rattle.theory.specs.Column.{filled}
use Rattle.theory.specs.Automaton.{states, accepting, expressions, arcs}
use Rattle.theory.specs.Arcs.{filled_arcs}
use Rattle.theory.specs.Table.{Table, Row, columns}
use Rattle.theory.specs.Grammar.{Text, Reading, read, refused, rows}
use Rattle.theory.specs.Read.{Read, Entered, entered, filled_part, column_of, Due}
use Rattle.theory.specs.Build.{lent, Counts, Built, build_refusal}
use Rattle.theory.proofs.Answers.{counts_built, counts_refused}
use Rattle.theory.proofs.Column.{filled_length}
use Rattle.theory.proofs.Expressed.{Expressed, expressed, filled_rows}
use Rattle.theory.proofs.Rows.{rows_length, rows_tree, rows_refused_never}
use Rattle.theory.proofs.Rows.Trees.{entries_positive}
use Rattle.theory.proofs.States.{states_some}
use Rattle.theory.proofs.WellFormed.{well_formed, tree_letters}
use Rattle.theory.specs.Rooms
use Rattle.theory.specs.Report.{withheld, needs}
use Rattle.site.specs.Site.{Shown, entry_columns, beside, site_refusal, unless_refused, answered, blank, holding, left_in, BuiltBeside, Made}
use Rattle.site.proofs.Counting.{lettered}
use Rattle.site.proofs.Fitting.{site_built}

-- ---- By the refusal's number

pub unless_none : {A : Type 0} (r : Refusal) (a b : A) → r.number ≡ 0 → unless_refused r a b ≡ a
unless_none r a b z = rw (eq-eqb r.number 0 z, unless_refused)

pub unless_some : {A : Type 0} (r : Refusal) (a b : A) → (r.number ≡ 0 → ⊥) → unless_refused r a b ≡ b
unless_some r a b n = rw (ne_eqb r.number 0 n, unless_refused)

module _ (e : Expression) (s : Shown) where
  pub answered_built : (site_refusal e s).number ≡ 0 → answered (read e) s ≡ needs e
  unfolding answered
  answered_built z = unless_none (site_refusal e s) _ _ z

  pub answered_refused : ((site_refusal e s).number ≡ 0 → ⊥) → answered (read e) s ≡ withheld (site_refusal e s)
  unfolding answered
  answered_refused n = unless_some (site_refusal e s) _ _ n

  pub left_built : (site_refusal e s).number ≡ 0 → left_in (read e) s ≡ holding e s
  unfolding left_in
  left_built z = unless_none (site_refusal e s) _ _ z

  pub left_refused : ((site_refusal e s).number ≡ 0 → ⊥) → left_in (read e) s ≡ blank s
  unfolding left_in
  left_refused n = unless_some (site_refusal e s) _ _ n

-- ---- Where a text was refused

-- The answers of the reader and the builder as numbers.
abbrev pub none_entered : Refusal → Entered
none_entered r = record { refusal = r; entries = 0 }

abbrev pub none_counted : Refusal → Counts
none_counted r = record { refusal = r; states = 0; expressions = 0; arcs = 0 }

abbrev pub some_counted : ℕ → ℕ → ℕ → Counts
some_counted n x a = record { refusal = success; states = n; expressions = x; arcs = a }

refused_as : (q : Reading) (r : Refusal) → none_entered r ≡ entered q → q ≡ refused r
refused_as (read e) r s = let p = entries_positive e in let z = ap (λ (a : Entered). a.entries) s in absurd (omega arith)
refused_as (refused r') r s = ap refused (sym (ap (λ (a : Entered). a.refusal) s))

pub made_unread : {text : Text} {r : Refusal} {t' : Table} {s s' : Shown} → Read text entry_columns (none_entered r) t' → s' ≡ blank s
    → Made text s (withheld r) s'
unfolding answered left_in
made_unread {text} {r} h k = record {
  reading = refused r;
  due = subst (Due text entry_columns) (refused_as h.reading r h.answers) h.due;
  answers = refl;
  leaves = k;
}

-- ---- What the builder makes of an expression that was read

module _ {text : Text} {q : Reading} (x : Expressed text q) {s s' : Shown} {rows' : Table} {expression : List ℕ} {answer : Counts}
    (b : Built (columns (rows 0 x.expression)) (beside s) answer (lent rows' expression s'.accepting s'.arcs)) where
  -- The refusal is the site's.
  refusal_is : build_refusal (columns (rows 0 x.expression)) (beside s) ≡ site_refusal x.expression s
  refusal_is = site_built x.expression x.writable x.fits s

  number_is : (build_refusal (columns (rows 0 x.expression)) (beside s)).number ≡ (site_refusal x.expression s).number
  number_is = ap (λ (r : Refusal). r.number) refusal_is

  stands_in : (site_refusal x.expression s).number ≡ 0 → s' ≡ left_in (read x.expression) s
  unfolding holding
  stands_in z =
      let c = b.stands (number_is ∙ z) in
      let accepts = c.accepting ∙ ap (λ (y : Expression). filled (length s.accepting) (accepting y)) (rows_tree x.expression) in
      let leads = c.arcs ∙ ap (λ (y : Expression). filled_arcs s.arcs (arcs y)) (rows_tree x.expression) in
      (λ i. record { accepting = accepts i; arcs = leads i }) ∙ sym (left_built x.expression s z)

  blank_in : ((site_refusal x.expression s).number ≡ 0 → ⊥) → s' ≡ left_in (read x.expression) s
  blank_in n =
      let c = b.refused (λ z. n (sym number_is ∙ z)) in
      (λ i. record { accepting = c.accepting i; arcs = c.arcs i }) ∙ sym (left_refused x.expression s n)

  counts_in : (site_refusal x.expression s).number ≡ 0
      → answer ≡ some_counted (length (states x.expression)) (length (expressions x.expression)) (length (arcs x.expression))
  counts_in z =
      b.answers ∙ counts_built (columns (rows 0 x.expression)) (beside s) (number_is ∙ z)
      ∙ ap (λ (y : Expression). some_counted (length (states y)) (length (expressions y)) (length (arcs y))) (rows_tree x.expression)

  none_in : ((site_refusal x.expression s).number ≡ 0 → ⊥) → answer ≡ none_counted (site_refusal x.expression s)
  none_in n =
      b.answers ∙ counts_refused (columns (rows 0 x.expression)) (beside s) (λ z. n (sym number_is ∙ z)) ∙ ap none_counted refusal_is

-- ---- Where it was read

module _ {text : Text} {n : ℕ} {t' : Table} (h : Read text entry_columns (record { refusal = success; entries = n }) t') where
  pub read_as : Expressed text h.reading
  read_as = expressed h.due (ap (λ (a : Entered). a.refusal.number) (sym h.answers))

  counted : n ≡ entries read_as.expression
  counted = ap (λ (a : Entered). a.entries) (h.answers ∙ ap entered read_as.is)

  -- So many entries stand in each of the three columns.
  pub within : {t : Table} → t ≡ t' → (n ≤ length t.kind) × (n ≤ length t.left) × (n ≤ length t.right)
  within is = (
    column (λ w. w.kind) (ap (λ (g : Table). g.kind) is ∙ h.kind),
    column (λ w. w.left) (ap (λ (g : Table). g.left) is ∙ h.left),
    column (λ w. w.right) (ap (λ (g : Table). g.right) is ∙ h.right),
  )
    where
      column : (field : Row → ℕ) {xs : List ℕ} → xs ≡ column_of field h.reading Rooms.entries → n ≤ length xs
      column field q =
          let x = read_as.expression in
          let many = length-map (rows 0 x) field ∙ rows_length 0 x in
          let long = filled_length Rooms.entries (map field (rows 0 x)) (omega (arith, read_as.fits)) in
          let same = ap length (q ∙ ap (λ (r : Reading). column_of field r Rooms.entries) read_as.is) in
          omega (arith, read_as.fits, counted)

  due : Due text entry_columns (read read_as.expression)
  due = subst (Due text entry_columns) read_as.is h.due

  -- The builder has the part that is filled.
  module _ {given : Table} (g : given ≡ filled_part (record { refusal = success; entries = n }) t') where
    -- The letters among the entries.
    letters_read : lettered given.kind (length given.kind) ≡ length (letters read_as.expression)
    letters_read =
        let x = read_as.expression in
        let faultless = ap (λ (r : Refusal). r.number) (rows_refused_never x read_as.writable read_as.fits) in
        ap (λ (xs : List ℕ). lettered xs (length xs)) (ap (λ (g : Table). g.kind) (g ∙ filled_rows h read_as))
        ∙ sym (tree_letters (well_formed (columns (rows 0 x)) faultless)) ∙ ap (λ (y : Expression). length (letters y)) (rows_tree x)

    module _ {s s' : Shown} {answer : Counts} (b : BuiltBeside given s answer s') where
      rows_built : Built (columns (rows 0 read_as.expression)) (beside s) answer (lent b.rows b.expression s'.accepting s'.arcs)
      rows_built =
          subst (λ (g : Table). Built g (beside s) answer (lent b.rows b.expression s'.accepting s'.arcs)) (g ∙ filled_rows h read_as) b.built

    pub made_built : {s s' : Shown} {k x a m : ℕ} → m ≡ lettered given.kind (length given.kind) → BuiltBeside given s (some_counted k x a) s'
        → Made text s (record { refusal = success; entries = n; letters = m; states = k; expressions = x; arcs = a }) s'
    unfolding needs
    made_built {s} {s'} q b' = elim (ℕ_discrete (site_refusal read_as.expression s).number 0) [
      | yes z ↦
          let b = rows_built b' in
          let c = counts_in read_as b z in
          let l = q ∙ letters_read in
          record {
            reading = read read_as.expression;
            due = due;
            answers =
                (λ i.
                record {
                  refusal = success;
                  entries = counted i;
                  letters = l i;
                  states = (c i).states;
                  expressions = (c i).expressions;
                  arcs = (c i).arcs;
                })
                ∙ sym (answered_built read_as.expression s z);
            leaves = stands_in read_as b z;
          }
      | no n' ↦ absurd (n' (sym (ap (λ (a : Counts). a.refusal.number) (none_in read_as (rows_built b') n'))))
    ]

    pub made_refused : {s s' : Shown} {r : Refusal} → BuiltBeside given s (none_counted r) s' → Made text s (withheld r) s'
    made_refused {s} {s'} {r} b' = elim (ℕ_discrete (site_refusal read_as.expression s).number 0) [
      | yes z ↦
          let c = ap (λ (a : Counts). a.states) (counts_in read_as (rows_built b') z) in
          let some = states_some read_as.expression in absurd (omega arith)
      | no n' ↦
          let b = rows_built b' in
          record {
            reading = read read_as.expression;
            due = due;
            answers = ap withheld (ap (λ (a : Counts). a.refusal) (none_in read_as b n')) ∙ sym (answered_refused read_as.expression s n');
            leaves = blank_in read_as b n';
          }
    ]
