-- What the verdict on a record and live say, over any automaton: the definitions of `Record` meet the meanings of `Verdict`, each in one way only,
-- so that automata with the same meanings have the same verdicts. Leans on `Arcs`: the states reached are those to which used arcs lead.
use Prim.Native.Nat.{ℕ, suc, ◌+◌, ◌-◌, ◌≤◌, ◌<◌, zero-le, suc-le-suc}
use native.Mathlib.Nat.{add-zero, zero-add, add-suc, suc-add, lt_of_not-le, le_antisymm}
use native.Mathlib.Omega.{arith, by_contra}
use mathlib.Core.Path.{◌≡◌, refl, sym, ap, ◌∙◌, subst}
use mathlib.Core.Logic.Iff
use mathlib.Core.Logic.{◌↔◌}
use mathlib.Core.Bool.{Bool, true, false, cond, ◌&&◌, false≢true, and-eq-true_iff}
use mathlib.Core.List.{List, [], ◌∷◌, ◌++◌}
use mathlib.Core.Option.{Option, none, some}
use lib.ListN.{length, get_or, take, drop, take-append-drop}
use lib.Seq.{take-add}
use lib.Dec.{eqb}
use borrow.Author.Tests.{eqb-true, eq-eqb}
use Rattle.theory.specs.Language.{Word}
use Rattle.theory.specs.Automaton.{Arc, Leads}
use Rattle.theory.specs.Below.{some_below, count_below}
use Rattle.theory.specs.Arcs.{Arcs, used, States, start, moved, after, reached, leads_on, dead_at}
use Rattle.theory.specs.Record.{Handed, Verdict, accepted, unfinished, wrong, accepts, verdict, live, WellFormedAutomaton}
use Rattle.theory.specs.Verdict.{Says, Alive, Accepted, SaysOf, Live}
use Rattle.theory.proofs.Below.{some_at, some_of, count_cong, count_none, how_many_once, how_many_cong, count_how_many}
use Rattle.theory.proofs.Tests.{same_test}
use Rattle.theory.proofs.Arcs.{leads_on_iff, reached_iff}
use Rattle.theory.proofs.Reached.{start_below, after_below, dead_cons, dead_after, moved_none}

-- ---- A verdict over any two predicates

module _ {S A S' A' : Word → Type 0} (s : (u : Word) → S u ↔ S' u) (a : (u : Word) → A u ↔ A' u) where
  -- What a verdict says depends on which starts stand and which records are accepted, and on nothing else.
  pub says_cong : (w : Word) (v : Verdict) → Says S A w v → Says S' A' w v
  says_cong w accepted h = (a w).0 h
  says_cong w unfinished (h, n) = ((s w).0 h, λ k. n ((a w).1 k))
  says_cong w (wrong p) (l, h, n) = (l, (s (take p w)).0 h, λ k. n ((s (take (suc p) w)).1 k))

module _ {S A : Word → Type 0} (begins : (u v : Word) → S (u ++ v) → S u) (stands : (u : Word) → A u → S u) (w : Word) where
  earlier : (i j : ℕ) → i ≤ j → S (take j w) → S (take i w)
  earlier i j l s =
      let parts : j ≡ i + (j - i) = omega arith in
      begins (take i w) (take (j - i) (drop i w)) (subst S (ap (λ (n : ℕ). take n w) parts ∙ take-add i (j - i) w) s)

  wrong_not_whole : (p : ℕ) → Says S A w (wrong p) → S w → ⊥
  wrong_not_whole p (_, _, n) s = n (begins (take (suc p) w) (drop (suc p) w) (subst S (sym (take-append-drop (suc p) w)) s))

  wrong_once : (p q : ℕ) → Says S A w (wrong p) → Says S A w (wrong q) → p ≡ q
  wrong_once p q (_, c, d) (_, f, g) =
      le_antisymm (by_contra p q (λ l. g (earlier (suc q) p l c))) (by_contra q p (λ l. d (earlier (suc p) q l f)))

  -- Where the starts of what stands stand, and what is accepted stands, one verdict says the truth.
  pub says_once : (u v : Verdict) → Says S A w u → Says S A w v → u ≡ v
  says_once accepted accepted a b = refl
  says_once accepted unfinished a b = absurd (b.1 a)
  says_once accepted (wrong q) a b = absurd (wrong_not_whole q b (stands w a))
  says_once unfinished accepted a b = absurd (a.1 b)
  says_once unfinished unfinished a b = refl
  says_once unfinished (wrong q) a b = absurd (wrong_not_whole q b a.0)
  says_once (wrong p) accepted a b = absurd (wrong_not_whole p a (stands w b))
  says_once (wrong p) unfinished a b = absurd (wrong_not_whole p a b.0)
  says_once (wrong p) (wrong q) a b = ap wrong (wrong_once p q a b)

-- ---- The starts that stand, and the records that are accepted

leads_append : (zs : List Arc) (i : ℕ) (u v : Word) (t : ℕ) → Leads zs i (u ++ v) t → (k : ℕ) × Leads zs i u k × Leads zs k v t
leads_append zs i [] v t m = (i, refl, m)
leads_append zs i (a ∷ u) v t (j, z, m) = let (k, p, q) = leads_append zs j u v t m in (k, (j, z, p), q)

-- Where a record reaches a state, each beginning of it does.
alive_begins : (a : Arcs) (u v : Word) → Alive a (u ++ v) → Alive a u
alive_begins a u v (t, m) = let (k, p, _) = leads_append (used a) 0 u v t m in (k, p)

alive_iff : (a : Arcs) (w : Word) → ((t : ℕ) × (reached a w t ≡ true)) ↔ Alive a w
alive_iff a w = (λ (t, r). (t, (reached_iff a w t).0 r), λ (t, m). (t, (reached_iff a w t).1 m))

accepted_alive : (h : Handed) (w : Word) → Accepted h w → Alive h.arcs w
accepted_alive h w (t, m, _, _) = (t, m)

pub accepts_iff : (h : Handed) (w : Word) → (accepts h w ≡ true) ↔ Accepted h w
unfolding accepts
accepts_iff h w = (forth, λ (t, m, l, a). some_at h.states test t l ((and-eq-true_iff _ _).1 ((reached_iff h.arcs w t).1 m, eq-eqb _ _ a)))
  where
    test : ℕ → Bool
    test t = reached h.arcs w t && eqb (get_or h.accepting t 0) 1

    forth : some_below h.states test ≡ true → Accepted h w
    forth e =
        let (t, l, q) = some_of h.states test e in
        let (r, a) = (and-eq-true_iff _ _).0 q in
        (t, (reached_iff h.arcs w t).0 r, l, eqb-true _ _ a)

-- ---- The first dead byte

-- Some state is in s.
abbrev Some : States → Type 0
Some s = (t : ℕ) × (s t ≡ true)

-- The course of a record from the states s: it dies at a byte of its own, or lives to its end.
data Course (a : Arcs) (s : States) (p : ℕ) (w : Word) : Type 0 where
  dies : (k : ℕ) → k < length w → Some (after a s (take k w)) → (Some (after a s (take (suc k) w)) → ⊥) → dead_at a s p w ≡ some (p + k) → Course a s p w
  lives : Some (after a s w) → dead_at a s p w ≡ none → Course a s p w

course : (a : Arcs) (s : States) (p : ℕ) (w : Word) → Some s → Course a s p w
unfolding after dead_at
course a s p [] h = lives h refl
course a s p (b ∷ w) h = go (leads_on a s b) refl (course a (moved a s b) (suc p) w)
  where
    go : (d : Bool) → leads_on a s b ≡ d → (Some (moved a s b) → Course a (moved a s b) (suc p) w) → Course a s p (b ∷ w)
    go true e later = on (later ((leads_on_iff a s b).0 e))
      where
        on : Course a (moved a s b) (suc p) w → Course a s p (b ∷ w)
        on (dies k l c d q) = dies (suc k) (suc-le-suc l) c d (dead_cons a s p b w true e ∙ q ∙ ap some (suc-add p k ∙ sym (add-suc p k)))
        on (lives c q) = lives c (dead_cons a s p b w true e ∙ q)
    go false e later =
        dies 0 (suc-le-suc zero-le) h (λ (t, r). false≢true (sym (moved_none a s b e t) ∙ r)) (dead_cons a s p b w false e ∙ ap some (sym (add-zero p)))

-- ---- The verdict

pub verdict_wrong : (h : Handed) (w : Word) (p : ℕ) → dead_at h.arcs start 0 w ≡ some p → verdict h w ≡ wrong p
unfolding verdict
verdict_wrong h w p e = ap (λ (d : Option ℕ). elim d [ some q ↦ wrong q | none ↦ cond (accepts h w) accepted unfinished ]) e

pub verdict_whole : (h : Handed) (w : Word) → dead_at h.arcs start 0 w ≡ none → verdict h w ≡ cond (accepts h w) accepted unfinished
unfolding verdict
verdict_whole h w e = ap (λ (d : Option ℕ). elim d [ some q ↦ wrong q | none ↦ cond (accepts h w) accepted unfinished ]) e

says_true : (h : Handed) (w : Word) → SaysOf h w (verdict h w)
unfolding reached start
says_true h w = go (course h.arcs start 0 w (0, refl))
  where
    whole : (b : Bool) → accepts h w ≡ b → Alive h.arcs w → SaysOf h w (cond b accepted unfinished)
    whole true e s = (accepts_iff h w).0 e
    whole false e s = (s, λ a. false≢true (sym e ∙ (accepts_iff h w).1 a))

    go : Course h.arcs start 0 w → SaysOf h w (verdict h w)
    go (dies k l c d q) =
        subst (SaysOf h w) (sym (verdict_wrong h w k (q ∙ ap some (zero-add k))))
        (l, (alive_iff h.arcs (take k w)).0 c, λ s. d ((alive_iff h.arcs (take (suc k) w)).1 s))
    go (lives c q) = subst (SaysOf h w) (sym (verdict_whole h w q)) (whole (accepts h w) refl ((alive_iff h.arcs w).0 c))

pub verdict_says : (h : Handed) (w : Word) (v : Verdict) → (verdict h w ≡ v) ↔ SaysOf h w v
verdict_says h w v = (
  λ e. subst (SaysOf h w) e (says_true h w),
  says_once (alive_begins h.arcs) (accepted_alive h) w (verdict h w) v (says_true h w),
)

-- Automata along which the same starts stand and that accept the same records have the same verdicts.
pub verdict_cong : (h k : Handed) → ((u : Word) → Alive h.arcs u ↔ Alive k.arcs u) → ((u : Word) → Accepted h u ↔ Accepted k u)
    → (w : Word) → verdict h w ≡ verdict k w
verdict_cong h k s a w = sym ((verdict_says k w (verdict h w)).1 (says_cong s a w (verdict h w) (says_true h w)))

-- ---- Live

-- Automata with as many states, of which a record reaches the same, have the same live.
pub live_cong : (h k : Handed) → h.states ≡ k.states → ((u : Word) (t : ℕ) → Leads (used h.arcs) 0 u t ↔ Leads (used k.arcs) 0 u t)
    → (w : Word) → live h w ≡ live k w
unfolding live
live_cong h k n e w =
    count_cong h.states _ _
    (λ t _. same_test _ _ (Iff.trans (reached_iff h.arcs w t) (Iff.trans (e w t) (Iff.symm (reached_iff k.arcs w t)))))
    ∙ ap (λ (m : ℕ). count_below m (reached k.arcs w)) n

module _ (h : Handed) (good : WellFormedAutomaton h) where
  reached_below : (w : Word) (t : ℕ) → reached h.arcs w t ≡ true → t < h.states
  unfolding reached
  reached_below w t r =
      lt_of_not-le (λ l. false≢true (sym (after_below h.arcs good.to_below start (start_below h.states good.some_state) w t l) ∙ r))

  -- Every state that is reached is counted.
  pub live_says : (w : Word) (n : ℕ) → (live h w ≡ n) ↔ Live h w n
  unfolding live
  live_says w n = (λ e. subst (Live h w) e is, λ k. how_many_once is k)
    where
      is : Live h w (live h w)
      is =
          how_many_cong (λ t. Iff.trans (λ (l, r). r, λ r. (reached_below w t r, r)) (reached_iff h.arcs w t))
          (count_how_many h.states (reached h.arcs w))

-- 01: "wrong at p: .. live is 0".
pub live_dead : (h : Handed) (p : ℕ) (w : Word) → dead_at h.arcs start 0 w ≡ some p → live h w ≡ 0
unfolding live reached
live_dead h p w e = count_none h.states (after h.arcs start w) (λ t _. dead_after h.arcs start 0 p w e t)
