-- From letter to letter and from state to state, until every state so far has been left by every letter.
use Prim.Native.Nat.{ℕ, ◌+◌, ◌*◌, ◌-◌, ◌≤◌, ◌<◌}
use native.Mathlib.Numerals.{add-one}
use native.Mathlib.Omega.{arith}
use mathlib.Core.Path.{◌≡◌, refl, sym, ap, ◌∙◌, subst}
use mathlib.Core.Logic.{⊎_elim}
use mathlib.Core.Bool.{false}
use mathlib.Core.List.{[], flat_map}
use lib.ListN.{length, get_or}
use Rattle.theory.specs.Expression.{Expression, ∅}
use Rattle.theory.specs.Derivative.{derivative}
use Rattle.theory.specs.Automaton.{states, ascending}
use Rattle.theory.specs.Build.{Lent}
use Rattle.theory.proofs.Distinct.{get_or_member}
use Rattle.theory.specs.Limit.{most_states, last_letter}
use Rattle.theory.specs.Meetings.{meetings, before, by_letters, by_states, Starts, so_far}
use Rattle.theory.proofs.Meetings.{before_skip, before_state}
use Rattle.theory.proofs.Nearing.{starts_before, states_enough, unused_nothing, all_left}
use Rattle.builder.specs.Letters.{used, IsNext, IsTurn}
use Rattle.builder.specs.declared.letters.Letters.{Letters}
use Rattle.std.specs.Prelude.{Some, None}
use Rattle.builder.specs.Progress.{Progress, Knows, Started, root}
use Rattle.builder.specs.Columns.{Counts}
use Rattle.builder.proofs.Starting.{one_so_far}
use Rattle.builder.proofs.Walking.{AtMember, AtLetter, member_first}

-- ---- Before the first letter

nothing_before : (e : Expression) → before e 0 0 ≡ []
unfolding before by_states by_letters flat_map ascending
nothing_before e = refl

pub started : {c : Lent} {rooms k : Counts} → Started c rooms k → AtLetter (root c) 0 0 rooms c k
started {c} {rooms} {k} h =
    let e = root c in
    let one : k.states ≡ 1 = h.progress.state_count ∙ ap length (one_so_far e) in
    let some : length (so_far e []) ≤ length (states e) = states_enough (record { rest = meetings e; goes_on = refl }) in
    record {
      progress = subst (λ ms. Progress e ms c k) (sym (nothing_before e)) h.progress;
      roomy = h.roomy;
      state = omega arith;
      within = omega (arith, h.progress.state_count);
      high = omega arith;
    }

-- ---- The next letter, the next state, the end

-- The pairs of a state and a letter that are left, where state i is left by the letter a.
abbrev pub turns_left : ℕ → ℕ → ℕ
turns_left i a = (most_states + 1) * (last_letter + 1) - (i * (last_letter + 1) + a)

module _ {e : Expression} (gathered : Letters) (knows : Knows gathered e) {rooms : Counts} {c : Lent} {k : Counts} where
  -- By letters that are not used nothing is met.
  nothing : {i a : ℕ} → AtLetter e i a rooms c k → (b : ℕ) → b ≤ last_letter → used gathered b ≡ false → derivative b (get_or (states e) i ∅) ≡ []
  nothing {i} m b l q = unused_nothing e (get_or (states e) i ∅) b (get_or_member (states e) i ∅ m.within) (knows b l q)

  pub next_letter : {i a b : ℕ} → AtLetter e i a rooms c k → IsNext gathered a (Some b)
      → AtMember e i b (get_or c.expression i 0) rooms None c k
  next_letter {i} {a} {b} m next =
      let above = next.0 in
      let most = next.1 in
      let skipped : before e i (b - 1) ≡ before e i a =
      before_skip e i a (b - 1) (omega arith) (λ j l u. nothing m j (omega arith) (next.3 j l (omega arith))) in
      member_first (subst (λ ms. Progress e ms c k) (sym skipped) m.progress) m.roomy m.state m.within (omega arith) most

  all_letters : {i a : ℕ} → AtLetter e i a rooms c k → IsNext gathered a None → before e i a ≡ before e (i + 1) 0
  all_letters {i} {a} m over =
      sym (before_skip e i a last_letter m.high (λ j l u. nothing m j u (over j l u))) ∙ before_state e i m.within
      ∙ ap (λ (n : ℕ). before e n 0) (sym (add-one i))

  next_state : {i a : ℕ} → AtLetter e i a rooms c k → IsNext gathered a None → i + 1 < k.states → AtLetter e (i + 1) 0 rooms c k
  next_state {i} {a} m over more =
      record {
        progress = subst (λ ms. Progress e ms c k) (all_letters m over) m.progress;
        roomy = m.roomy;
        state = more;
        within = omega (arith, states_enough (starts_before e i a m.within m.high), m.progress.state_count);
        high = omega arith;
      }

  -- Every state so far has been left: nothing is missing.
  pub all_met : {i a : ℕ} → AtLetter e i a rooms c k → k.states ≤ i + 1 → IsNext gathered a None → Progress e (meetings e) c k
  all_met {i} {a} m last over =
      let q = all_letters m over in
      let p : Progress e (before e (i + 1) 0) c k = subst (λ ms. Progress e ms c k) q m.progress in
      subst (λ ms. Progress e ms c k)
      (all_left e (i + 1) (subst (Starts e) q (starts_before e i a m.within m.high)) (omega (arith, m.state, p.state_count))) p

  module _ {first : ℕ} (least : IsNext gathered 0 (Some first)) {i a : ℕ} (m : AtLetter e i a rooms c k) {j b : ℕ}
      (turn : IsTurn gathered first i a k.states (Some (j, b))) where
    pub turned : AtMember e j b (get_or c.expression j 0) rooms None c k
    turned =
        ⊎_elim (λ t. subst (λ (n : ℕ). AtMember e n b (get_or c.expression n 0) rooms None c k) (sym t.0) (next_letter m t.1))
        (λ t.
        subst (λ (n : ℕ). AtMember e n b (get_or c.expression n 0) rooms None c k) (sym t.0)
        (subst (λ (l : ℕ). AtMember e (i + 1) l (get_or c.expression (i + 1) 0) rooms None c k) (sym t.2)
        (next_letter (next_state m t.3 t.1) least)))
        turn

    -- What is left of the states and letters falls.
    pub turned_less : turns_left j b < turns_left i a
    turned_less =
        let h = turned in
        ⊎_elim (λ t. omega (arith, t.0, t.1.0, m.high, m.state, m.roomy.states_fit, m.roomy.states_small, h.high))
        (λ t. omega (arith, t.0, t.1, h.low, m.high, m.state, m.roomy.states_fit, m.roomy.states_small, h.high)) turn

-- No letter is used at all.
pub none_met : (gathered : Letters) {c : Lent} {rooms k : Counts} → Knows gathered (root c) → Started c rooms k → IsNext gathered 0 None
    → Progress (root c) (meetings (root c)) c k
none_met gathered {c} knows h over =
    all_met gathered knows (started h) (omega (arith, h.progress.state_count ∙ ap length (one_so_far (root c)))) over
