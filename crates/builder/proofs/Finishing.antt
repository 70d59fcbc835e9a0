-- All states left: what the columns then hold is the automaton, and the counts are its needs.
use Prim.Native.Nat.{ℕ, zero, suc, ◌<◌}
use native.Mathlib.Nat.{le_refl, le_step}
use native.Mathlib.Omega.{arith}
use mathlib.Core.Path.{◌≡◌, sym, ap, ap₂, ◌∙◌, subst}
use mathlib.Core.Bool.{cond}
use mathlib.Core.Logic.{⊎_elim}
use mathlib.Core.List.Memᴰ
use mathlib.Core.List.{List, [], ◌∷◌, ◌++◌, map, Memᴰ}
use lib.ListN.{length, get_or, length-map}
use Rattle.theory.specs.Expression.{Expression, same, ∅, binary, star, parts}
use Rattle.theory.specs.Distinct.{Within, place}
use Rattle.theory.specs.Automaton.{states, arcs, expressions, accepting}
use Rattle.theory.specs.Derivative.{empty_word}
use Rattle.theory.specs.Column.{filled}
use Rattle.theory.specs.Table.{Table, Row, row, row_tree, Sound, of_∅, of_ε, of_letter, of_sign, of_star, meaning, node, trees, tree_at}
use Rattle.theory.specs.Build.{Lent, Names, Holds, Stands}
use Rattle.theory.proofs.Distinct.{get_or_member, no_longer, place_below, at_place}
use Rattle.theory.proofs.Trees.{trees_length, to_trees}
use Rattle.theory.proofs.Sound.{sign_tree}
use Rattle.theory.specs.Needs.{Tree, empty, part}
use Rattle.theory.specs.Meetings.{meetings, to_arc}
use Rattle.theory.specs.Arcs.{filled_arcs}
use Rattle.theory.proofs.Needs.{counted}
use Rattle.theory.proofs.Meetings.{states_met, arcs_met}
use Rattle.derive.specs.Rows.{Rows}
use Rattle.builder.specs.Progress.{Progress}
use Rattle.builder.specs.Columns.{Counts}
use Rattle.builder.proofs.Lengths.{SameLengths, filled_same}

-- ---- Every part of a row's tree is a row's tree

module _ (ts : List Expression) (held : (x z : Expression) → Memᴰ x ts → Memᴰ z (parts x) → Memᴰ z ts) where
  Goes : Expression → Expression → Type 0
  Goes z x = Memᴰ z (parts x) → Memᴰ z (ts ++ (x ∷ []))

  child : (z : Expression) (l i : ℕ) (more : List Expression) → i ≡ length ts → l < i → Memᴰ z (parts (get_or ts l ∅)) → Memᴰ z (ts ++ more)
  child z l i more e h m = Memᴰ.append_left more (held (get_or ts l ∅) z (get_or_member ts l ∅ (subst (λ (k : ℕ). l < k) e h)) m)

  part_held : (z : Expression) (i : ℕ) (w : Row) → i ≡ length ts → Sound i w → Goes z (row_tree w ts)
  unfolding Goes parts row_tree meaning node
  part_held z i w e (of_∅ q) = subst (λ v. Goes z (row_tree v ts)) (sym q) (λ m. Memᴰ.append_right ts m)
  part_held z i w e (of_ε q) = subst (λ v. Goes z (row_tree v ts)) (sym q) (λ m. Memᴰ.append_right ts m)
  part_held z i w e (of_letter a low high q) = subst (λ v. Goes z (row_tree v ts)) (sym q) (λ m. Memᴰ.append_right ts m)
  part_held z i w e (of_sign s l r hl hr q) =
      subst (λ v. Goes z (row_tree v ts)) (sym q)
      (subst (Goes z) (sym (sign_tree s l r ts))
      (λ m.
      ⊎_elim (λ k. ⊎_elim (child z l i _ e hl) (child z r i _ e hr) (Memᴰ.append_cases (parts (get_or ts l ∅)) k)) (λ j. Memᴰ.append_right ts j)
      (Memᴰ.append_cases (parts (get_or ts l ∅) ++ parts (get_or ts r ∅)) {t = binary s (get_or ts l ∅) (get_or ts r ∅) ∷ []} m)))
  part_held z i w e (of_star l hl q) =
      subst (λ v. Goes z (row_tree v ts)) (sym q)
      (λ m. ⊎_elim (child z l i _ e hl) (λ j. Memᴰ.append_right ts j) (Memᴰ.append_cases (parts (get_or ts l ∅)) {t = star (get_or ts l ∅) ∷ []} m))

parts_held : (t : Table) (n : ℕ) → ((i : ℕ) → i < n → Sound i (row t i)) → (x z : Expression) → Memᴰ x (trees t n) → Memᴰ z (parts x)
    → Memᴰ z (trees t n)
unfolding trees Goes
parts_held t zero sound x z m p = absurd (Memᴰ.not-nil m)
parts_held t (suc n) sound x z m p =
    let held = parts_held t n (λ i l. sound i (le_step l)) in
    ⊎_elim (λ k. Memᴰ.append_left _ (held x z k p))
    (λ k.
    part_held (trees t n) held z n (row t n) (sym (trees_length t n)) (sound n (le_refl (suc n)))
    (subst (λ y. Memᴰ z (parts y)) (Memᴰ.eq_of_singleton k) p))
    (Memᴰ.append_cases (trees t n) m)

-- ---- The rows are the expressions

expressions_held : (e : Expression) (t : Table) (n : ℕ) (column : List ℕ) → Rows t n → Names t n column (states e) → Within (expressions e) (trees t n)
expressions_held e t n column r names z m = held (((counted e).expressions z).0 m)
  where
    held : Tree e z → Memᴰ z (trees t n)
    held (empty q) = subst (λ y. Memᴰ y (trees t n)) (r.literal ∙ sym q) (to_trees t n 0 r.nonempty)
    held (part {s = x} s p) =
        let i = place same x (states e) in
        let l = place_below same x (states e) s in
        let is : tree_at t (get_or column i 0) ≡ x = names.named i l ∙ at_place same x (states e) ∅ s in
        parts_held t n r.sound x z (subst (λ y. Memᴰ y (trees t n)) is (to_trees t n (get_or column i 0) (names.within i l))) p

-- ---- The whole

module _ {e : Expression} {c : Lent} {k : Counts} (p : Progress e (meetings e) c k) where
  names : Names c.rows k.rows c.expression (states e)
  names = subst (Names c.rows k.rows c.expression) (states_met e) p.named

  held : Within (expressions e) (trees c.rows k.rows)
  held = expressions_held e c.rows k.rows c.expression p.rows names

  pub all_states : k.states ≡ length (states e)
  all_states = p.state_count ∙ ap length (states_met e)

  pub all_rows : k.rows ≡ length (expressions e)
  all_rows =
      let ts = trees c.rows k.rows in
      let less = no_longer same ts (expressions e) p.rows.once p.needed in
      let more = no_longer same (expressions e) ts (counted e).expressions_once held in
      let n = trees_length c.rows k.rows in
      omega (arith, less, more, n)

  pub all_arcs : k.arcs ≡ length (arcs e)
  all_arcs = p.arc_count ∙ sym (ap length (arcs_met e) ∙ length-map (meetings e) (to_arc (states e)))

  pub stands : {c₀ : Lent} → SameLengths c₀ c → Stands e c₀ c
  unfolding accepting
  stands {c₀} h =
      record {
        kind_length = h.kind;
        left_length = h.left;
        right_length = h.right;
        expression_length = h.expression;
        rows =
            subst (λ (n : ℕ). Holds c.rows n (expressions e)) all_rows
            (record { sound = p.rows.sound; once = p.rows.once; all = held; only = p.needed; blank = p.rows.blank });
        expression = subst (λ (n : ℕ). Names c.rows n c.expression (states e)) all_rows names;
        accepting = p.accepting ∙ ap₂ filled h.accepting (ap (map (λ x. cond (empty_word x) 1 0)) (states_met e));
        arcs = p.arcs ∙ filled_same h.arcs (map (to_arc (states e)) (meetings e)) ∙ ap (filled_arcs c₀.arcs) (sym (arcs_met e));
      }
