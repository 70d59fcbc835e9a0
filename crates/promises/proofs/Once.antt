-- Any two results that meet a promise are equal, the numbering of the expressions' rows put aside.
use mathlib.Core.Path.{◌≡◌, sym, ap, ◌∙◌, subst}
use lib.ListN.{length}
use Rattle.theory.specs.Expression.{Expression}
use Rattle.theory.specs.Automaton.{states, expressions}
use Rattle.theory.specs.Table.{Table, table}
use Rattle.theory.specs.Read.{entered}
use Rattle.theory.specs.Build.{Lent, lent, Counts, Built, build_refusal, Cleared, Stands}
use Rattle.theory.proofs.Due.{due_once, left_by, leaves}
use Rattle.theory.proofs.Answers.{counts_built}
use Rattle.promises.specs.Once.{ReadOnce, JudgeOnce, SameBuild, BuiltAlike, BuildOnce}
use Rattle.promises.proofs.Causes.Builder.{builder_number}

pub read_once : ReadOnce
read_once = record {
  once = λ {t = t} h k.
      let same = due_once h.due k.due in
      (h.answers ∙ ap entered same ∙ sym k.answers, leaves h ∙ ap (left_by t) same ∙ sym (leaves k));
}

pub judge_once : JudgeOnce
judge_once = record { once = λ h k. (h.answers ∙ sym k.answers, h.cleared ∙ sym k.cleared) }

pub cleared_once : {c d d' : Lent} → Cleared c d → Cleared c d' → d ≡ d'
cleared_once h k =
    λ i. lent (table ((h.kind ∙ sym k.kind) i) ((h.left ∙ sym k.left) i) ((h.right ∙ sym k.right) i)) ((h.expression ∙ sym k.expression) i)
    ((h.accepting ∙ sym k.accepting) i) ((h.arcs ∙ sym k.arcs) i)

stands_once : {e : Expression} {c d d' : Lent} → Stands e c d → Stands e c d' → SameBuild (length (expressions e)) (length (states e)) d d'
stands_once h k = record {
  accepting = h.accepting ∙ sym k.accepting;
  arcs = h.arcs ∙ sym k.arcs;
  kind_length = h.kind_length ∙ sym k.kind_length;
  left_length = h.left_length ∙ sym k.left_length;
  right_length = h.right_length ∙ sym k.right_length;
  expression_length = h.expression_length ∙ sym k.expression_length;
  forth = λ z m. k.rows.all z (h.rows.only z m);
  back = λ z m. h.rows.all z (k.rows.only z m);
  named = λ i l. h.expression.named i l ∙ sym (k.expression.named i l);
  rows_beyond = λ i l. h.rows.blank i l ∙ sym (k.rows.blank i l);
  states_beyond = λ i l. h.expression.blank i l ∙ sym (k.expression.blank i l);
}

alike : {g : Table} {c : Lent} {a b : Counts} {d d' : Lent} → Built g c a d → Built g c b d' → BuiltAlike a b d d'
alike {g} {c} {d = d} {d'} h k = record {
  answers = h.answers ∙ sym k.answers;
  refused = λ n. let f : ¬ ((build_refusal g c).number ≡ 0) = λ z. n (builder_number h ∙ z) in cleared_once (h.refused f) (k.refused f);
  built = λ z. let f = sym (builder_number h) ∙ z in
      subst (λ (x : Counts). SameBuild x.expressions x.states d d') (sym (h.answers ∙ counts_built g c f)) (stands_once (h.stands f) (k.stands f));
}

pub build_once : BuildOnce
build_once = record { once = alike }
