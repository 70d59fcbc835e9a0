-- What the builder refuses of an expression that was read, in the columns of a site, and what holds where nothing is refused. Leans on
-- `rows_refused_never`: a text that is read is never refused with 1 to 8.
use Prim.Native.Nat.{◌≤◌}
use native.Mathlib.Omega.{arith, by_contra}
use mathlib.Core.Path.{◌≡◌, refl, sym, ap, ◌∙◌}
use mathlib.Core.Bool.{Bool, true, false, cond, ◌&&◌, false≢true}
use lib.ListN.{length}
use lib.Dec.{eqb}
use borrow.Author.Tests.{eqb-true}
use Rattle.theory.specs.Expression.{Expression, entries}
use Rattle.theory.specs.Limit.{most_entries, most_arcs}
use Rattle.theory.specs.Refusal.{refusal, success, columns_differ, room_small}
use Rattle.theory.specs.Table.{columns}
use Rattle.theory.specs.Automaton.{states, arcs}
use Rattle.theory.specs.Arcs.{even_arcs, EvenArcs}
use Rattle.theory.specs.Grammar.{rows, Writable}
use Rattle.theory.specs.Build.{even, over_room, build_refusal, OverRoom, of_states, of_arcs}
use Rattle.theory.proofs.Arcs.{even_arcs_iff}
use Rattle.theory.proofs.BuilderRefusal.{over_iff, refusal_by}
use Rattle.theory.proofs.Rows.{rows_tree, rows_refused_never}
use Rattle.theory.proofs.Tests.{and_left, and_right}
use Rattle.theory.specs.Rooms
use Rattle.site.specs.Site.{Shown, beside, site_refusal}

even_beside : (s : Shown) → even (beside s) ≡ (eqb (length s.accepting) Rooms.states && even_arcs s.arcs)
unfolding even
even_beside s = refl

-- The builder refuses of the rows of e what the site refuses of e.
pub site_built : (e : Expression) → Writable e → entries e ≤ most_entries → (s : Shown)
    → build_refusal (columns (rows 0 e)) (beside s) ≡ site_refusal e s
unfolding site_refusal
site_built e w l s =
    refusal_by (columns (rows 0 e)) (beside s) (even_beside s) (rows_refused_never e w l)
    (ap (λ (x : Expression). over_room x (beside s)) (rows_tree e))

-- Nothing is refused: the columns are equally long, and the needs are within the rooms.
pub record Fits (e : Expression) (s : Shown) : Type 0 where
  pub accepting : length s.accepting ≡ Rooms.states
  pub equal : EvenArcs s.arcs
  pub few_states : length (states e) ≤ Rooms.states
  pub few_arcs : length (arcs e) ≤ length s.arcs.from
  pub most : length (arcs e) ≤ most_arcs

pub fitting : (e : Expression) (s : Shown) → (site_refusal e s).number ≡ 0 → Fits e s
unfolding site_refusal
fitting e s = go (eqb (length s.accepting) Rooms.states && even_arcs s.arcs) (over_room e (beside s)) refl refl
  where
    go : (b o : Bool) → (eqb (length s.accepting) Rooms.states && even_arcs s.arcs) ≡ b → over_room e (beside s) ≡ o
        → (cond b (cond o (refusal room_small 0) success) (refusal columns_differ 0)).number ≡ 0 → Fits e s
    go true false p q z =
        let room : ¬ OverRoom e (beside s) = λ o. false≢true (sym q ∙ (over_iff e (beside s)).1 o) in
        let few = by_contra _ _ (λ l. room (of_arcs l)) in
        record {
          accepting = eqb-true _ _ (and_left _ _ p);
          equal = (even_arcs_iff s.arcs).0 (and_right (eqb (length s.accepting) Rooms.states) _ p);
          few_states = let n = by_contra _ _ (λ l. room (of_states l)) in omega arith;
          few_arcs = omega arith;
          most = omega arith;
        }
    go true true p q z = absurd (omega arith)
    go false o p q z = absurd (omega arith)
