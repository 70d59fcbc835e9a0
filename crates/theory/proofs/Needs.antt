-- 01, "Needs": each of the three needs counts different things, and those that 01 names. Leans on `States`, `Derivative` and `Accepts.Arcs`.
use Prim.Native.Nat.{ℕ, suc, ◌≤◌}
use native.Mathlib.Nat.{le_of_eq}
use native.Mathlib.Omega.{arith}
use mathlib.Core.Path.{◌≡◌, refl, sym, ap, ◌∙◌, subst}
use mathlib.Core.Logic.{◌↔◌, ⊎_elim}
use mathlib.Core.List.Memᴰ
use mathlib.Core.List.{List, [], ◌∷◌, ◌++◌, map, flat_map, Memᴰ}
use lib.ListN.{get_or}
use Rattle.theory.specs.Expression.{Expression, ∅, ε, same, parts}
use Rattle.theory.specs.Distinct.{distinct, NoRepeats, place}
use Rattle.theory.specs.Needs.{Tree, empty, part, Counted}
use Rattle.theory.specs.Derivative.{derivative}
use Rattle.theory.specs.Automaton.{alphabet, successors, states, onward, Arc, arc, leaving, leaving_all, arcs, expressions}
use Rattle.theory.proofs.Distinct.{at_place, distinct_no_repeats, distinct_of, to_distinct}
use Rattle.theory.proofs.Members.{flat_map_of, to_flat_map}
use Rattle.theory.proofs.Derivative.{derivative_no_repeats}
use Rattle.theory.proofs.States.{states_no_repeats, states_derived, derived_states}
use Rattle.theory.proofs.Bounds.{alphabet_no_repeats}
use Rattle.theory.proofs.Accepts.Arcs.{triple_iff}

-- ---- Lists without repeats

no_repeats_append : {A : Type 0} (xs ys : List A) → NoRepeats xs → NoRepeats ys → ((z : A) → Memᴰ z xs → Memᴰ z ys → ⊥) → NoRepeats (xs ++ ys)
no_repeats_append [] ys n m d = m
no_repeats_append (x ∷ xs) ys (f, n) m d =
    (λ h. ⊎_elim f (d x (Memᴰ.head refl)) (Memᴰ.append_cases xs h), no_repeats_append xs ys n m (λ z h. d z (Memᴰ.tail h)))

no_repeats_map : {A B : Type 0} (f : A → B) (xs : List A) → ((x y : A) → Memᴰ x xs → Memᴰ y xs → f x ≡ f y → x ≡ y) → NoRepeats xs
    → NoRepeats (map f xs)
no_repeats_map f [] inj n = tt
no_repeats_map f (x ∷ xs) inj (g, n) = (
  λ h. let (y, m, e) = Memᴰ.of_map f xs h in g (subst (λ z. Memᴰ z xs) (inj y x (Memᴰ.tail m) (Memᴰ.head refl) e) m),
  no_repeats_map f xs (λ y z h k. inj y z (Memᴰ.tail h) (Memᴰ.tail k)) n,
)

-- Members that tell which list they come from.
no_repeats_flat_map : {A B : Type 0} (f : A → List B) (key : B → A) → ((x : A) (z : B) → Memᴰ z (f x) → key z ≡ x)
    → (xs : List A) → ((x : A) → Memᴰ x xs → NoRepeats (f x)) → NoRepeats xs → NoRepeats (flat_map f xs)
unfolding flat_map
no_repeats_flat_map f key told [] each n = tt
no_repeats_flat_map f key told (x ∷ xs) each (g, n) =
    no_repeats_append (f x) (flat_map f xs) (each x (Memᴰ.head refl)) (no_repeats_flat_map f key told xs (λ y h. each y (Memᴰ.tail h)) n)
    (λ z h k. let (y, m, l) = flat_map_of f xs k in g (subst (λ w. Memᴰ w xs) (sym (told y z l) ∙ told x z h) m))

-- ---- Arcs

-- Where the members of the derivatives of x stand among s.
Closed : List Expression → Expression → Type 0
Closed s x = (a : ℕ) → Memᴰ a alphabet → (m : Expression) → Memᴰ m (derivative a x) → Memᴰ m s

module _ (s : List Expression) where
  by_letter : ℕ → Expression → ℕ → List Arc
  by_letter i x a = map (λ m. arc i a (place same m s)) (derivative a x)

  told : (i : ℕ) (x : Expression) (a : ℕ) (z : Arc) → Memᴰ z (by_letter i x a) → (z.from ≡ i) × (z.letter ≡ a)
  unfolding by_letter
  told i x a z h =
      let (m, _, e) = Memᴰ.of_map (λ m. arc i a (place same m s)) (derivative a x) h in
      (sym (ap (λ (w : Arc). w.from) e), sym (ap (λ (w : Arc). w.letter) e))

  leaving_once : (i : ℕ) (x : Expression) → Closed s x → NoRepeats (leaving s i x)
  unfolding leaving by_letter Closed
  leaving_once i x closed =
      no_repeats_flat_map (by_letter i x) (λ (z : Arc). z.letter) (λ a z h. (told i x a z h).1) alphabet
      (λ a h. no_repeats_map (λ m. arc i a (place same m s)) (derivative a x)
      (λ m n p q e. sym (at_place same m s ∅ (closed a h m p)) ∙ ap (λ (z : Arc). get_or s z.to ∅) e ∙ at_place same n s ∅ (closed a h n q))
      (derivative_no_repeats a x)) alphabet_no_repeats

  leaving_from : (i : ℕ) (x : Expression) (z : Arc) → Memᴰ z (leaving s i x) → z.from ≡ i
  unfolding leaving by_letter
  leaving_from i x z h = let (a, _, m) = flat_map_of (by_letter i x) alphabet h in (told i x a z m).0

  all_from : (i : ℕ) (xs : List Expression) (z : Arc) → Memᴰ z (leaving_all s i xs) → i ≤ z.from
  unfolding leaving_all
  all_from i [] z h = absurd (Memᴰ.not-nil h)
  all_from i (x ∷ xs) z h =
      ⊎_elim (λ m. le_of_eq (sym (leaving_from i x z m))) (λ m. let l = all_from (suc i) xs z m in omega arith) (Memᴰ.append_cases (leaving s i x) h)

  all_once : (i : ℕ) (xs : List Expression) → ((x : Expression) → Memᴰ x xs → Closed s x) → NoRepeats (leaving_all s i xs)
  unfolding leaving_all
  all_once i [] closed = tt
  all_once i (x ∷ xs) closed =
      no_repeats_append (leaving s i x) (leaving_all s (suc i) xs) (leaving_once i x (closed x (Memᴰ.head refl)))
      (all_once (suc i) xs (λ y h. closed y (Memᴰ.tail h)))
      (λ z h k. let e = leaving_from i x z h in let l = all_from (suc i) xs z k in omega arith)

-- ---- The three needs

arcs_once : (e : Expression) → NoRepeats (arcs e)
unfolding arcs Closed successors
arcs_once e =
    all_once (states e) 0 (states e)
    (λ x h a k m d. derived_states (onward (states_derived e x h) (to_flat_map (λ b. derivative b x) k d)))

tree_iff : (e x : Expression) → Memᴰ x (expressions e) ↔ Tree e x
unfolding expressions
tree_iff e x = (forth, back)
  where
    forth : Memᴰ x (distinct same (ε ∷ flat_map parts (states e))) → Tree e x
    forth h =
        ⊎_elim (λ q. empty q) (λ m. let (s, k, p) = flat_map_of parts (states e) m in part k p)
        (Memᴰ.cases_cons (distinct_of same (ε ∷ flat_map parts (states e)) x h))

    back : Tree e x → Memᴰ x (distinct same (ε ∷ flat_map parts (states e)))
    back (empty q) = to_distinct same (ε ∷ flat_map parts (states e)) x (Memᴰ.head q)
    back (part k p) = to_distinct same (ε ∷ flat_map parts (states e)) x (Memᴰ.tail (to_flat_map parts k p))

pub counted : (e : Expression) → Counted e
unfolding expressions
counted e = record {
  states_once = states_no_repeats e;
  states = λ x. (states_derived e x, derived_states);
  arcs_once = arcs_once e;
  arcs = triple_iff e;
  expressions_once = distinct_no_repeats same (ε ∷ flat_map parts (states e));
  expressions = tree_iff e;
}
