-- Stores change no column's length.
use mathlib.Core.Path.{◌≡◌, refl, ap, ◌∙◌}
use mathlib.Core.List.{List, map}
use Prim.Native.Nat.{ℕ}
use lib.ListN.{length, length-replicate, length-set}
use Rattle.theory.specs.Column.{zeros, filled}
use Rattle.theory.specs.Automaton.{Arc}
use Rattle.theory.specs.Arcs.{ArcColumns, arc_columns, Spans, with_arc, no_arcs, filled_arcs}
use Rattle.theory.specs.Build.{Lent, Cleared}
use Rattle.columns.specs.Table.{SameTable}
use Rattle.columns.specs.States.{SameStates}
use Rattle.columns.specs.Arcs as lent
use Rattle.columns.specs.Lent.{lent_all}
use Rattle.columns.specs.declared.table.TableMut.{TableMut}
use Rattle.columns.specs.declared.states.StatesMut.{StatesMut}
use Rattle.columns.specs.declared.arcs.ArcsMut.{ArcsMut}

-- ---- The arc columns

pub record SameArcs (c₀ c : ArcColumns) : Type 0 where
  pub from : length c.from ≡ length c₀.from
  pub letter : length c.letter ≡ length c₀.letter
  pub to : length c.to ≡ length c₀.to

pub same_arcs : {c : ArcColumns} → SameArcs c c
same_arcs = record { from = refl; letter = refl; to = refl }

pub arcs_after : {c c₁ c' : ArcColumns} → SameArcs c c₁ → SameArcs c₁ c' → SameArcs c c'
arcs_after h k = record { from = k.from ∙ h.from; letter = k.letter ∙ h.letter; to = k.to ∙ h.to }

pub stored_same : (c : ArcColumns) (n : ℕ) (z : Arc) → SameArcs c (with_arc c n z)
stored_same c n z = record {
  from = length-set c.from n z.from;
  letter = length-set c.letter n z.letter;
  to = length-set c.to n z.to;
}

module _ {c₀ c : ArcColumns} (h : SameArcs c₀ c) where
  pub spans_same : {n : ℕ} → Spans c₀ n → Spans c n
  spans_same s = record { from = rw h.from s.from; letter = rw h.letter s.letter; to = rw h.to s.to }

  pub no_arcs_same : no_arcs c ≡ no_arcs c₀
  no_arcs_same = λ i. arc_columns (zeros (h.from i)) (zeros (h.letter i)) (zeros (h.to i))

  pub filled_same : (zs : List Arc) → filled_arcs c zs ≡ filled_arcs c₀ zs
  filled_same zs =
      λ i. arc_columns (filled (h.from i) (map (λ (z : Arc). z.from) zs)) (filled (h.letter i) (map (λ (z : Arc). z.letter) zs))
      (filled (h.to i) (map (λ (z : Arc). z.to) zs))

-- ---- All lent columns

pub record SameLengths (c₀ c : Lent) : Type 0 where
  pub kind : length c.rows.kind ≡ length c₀.rows.kind
  pub left : length c.rows.left ≡ length c₀.rows.left
  pub right : length c.rows.right ≡ length c₀.rows.right
  pub expression : length c.expression ≡ length c₀.expression
  pub accepting : length c.accepting ≡ length c₀.accepting
  pub arcs : SameArcs c₀.arcs c.arcs

pub lengths_after : {c c₁ c' : Lent} → SameLengths c c₁ → SameLengths c₁ c' → SameLengths c c'
lengths_after h k =
    record {
      kind = k.kind ∙ h.kind;
      left = k.left ∙ h.left;
      right = k.right ∙ h.right;
      expression = k.expression ∙ h.expression;
      accepting = k.accepting ∙ h.accepting;
      arcs = arcs_after h.arcs k.arcs;
    }

-- Columns that are those that were lent.
pub lengths_of : {t t' : TableMut} {s s' : StatesMut} {a a' : ArcsMut} → SameTable t t' → SameStates s s' → lent.SameArcs a a'
    → SameLengths (lent_all t s a) (lent_all t' s' a')
lengths_of h k l =
    record {
      kind = h.kind.length;
      left = h.left.length;
      right = h.right.length;
      expression = k.expression.length;
      accepting = k.accepting.length;
      arcs = record { from = l.from.length; letter = l.letter.length; to = l.to.length };
    }

-- ---- Cleared columns

cleared_length : {column : List ℕ} {n : ℕ} → column ≡ zeros n → length column ≡ n
cleared_length {n = n} e = ap length e ∙ length-replicate n 0

pub cleared_lengths : {c c' : Lent} → Cleared c c' → SameLengths c c'
cleared_lengths h =
    record {
      kind = cleared_length h.kind;
      left = cleared_length h.left;
      right = cleared_length h.right;
      expression = cleared_length h.expression;
      accepting = cleared_length h.accepting;
      arcs = record {
        from = cleared_length (ap (λ (a : ArcColumns). a.from) h.arcs);
        letter = cleared_length (ap (λ (a : ArcColumns). a.letter) h.arcs);
        to = cleared_length (ap (λ (a : ArcColumns). a.to) h.arcs);
      };
    }

-- Columns that were cleared after others as long.
pub cleared_as : {c c₁ c' : Lent} → SameLengths c c₁ → Cleared c₁ c' → Cleared c c'
cleared_as h k =
    record {
      kind = k.kind ∙ ap zeros h.kind;
      left = k.left ∙ ap zeros h.left;
      right = k.right ∙ ap zeros h.right;
      expression = k.expression ∙ ap zeros h.expression;
      accepting = k.accepting ∙ ap zeros h.accepting;
      arcs = k.arcs ∙ no_arcs_same h.arcs;
    }
