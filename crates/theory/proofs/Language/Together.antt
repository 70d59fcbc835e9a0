-- Two languages put together word by word: the shape that concatenation and shuffle share.
use mathlib.Core.Path.{◌≡◌, refl, sym, subst}
use mathlib.Core.Logic.Iff
use mathlib.Core.Logic.{◌↔◌}
use mathlib.Core.Bool.{Bool, true, ◌&&◌, and-eq-true_iff}
use mathlib.Core.List.{List, []}
use Rattle.theory.specs.Language.{Word}
use Rattle.theory.proofs.Language.Some.{Some}

-- w is made by R of a word of P and a word of Q.
abbrev pub Together : (Word → Word → Word → Type 0) → (Word → Type 0) → (Word → Type 0) → Word → Type 0
Together R P Q w = (u : Word) × (v : Word) × P u × Q v × R u v w

module _ (R : Word → Word → Word → Type 0) where
  pub together_iff : {P P' Q Q' : Word → Type 0} (w : Word) → ((u : Word) → P u ↔ P' u) → ((v : Word) → Q v ↔ Q' v)
      → Together R P Q w ↔ Together R P' Q' w
  together_iff w p q = (
    λ t. (t.0, t.1, (p t.0).0 t.2, (q t.1).0 t.3, t.4),
    λ t. (t.0, t.1, (p t.0).1 t.2, (q t.1).1 t.3, t.4),
  )

  -- The empty word is made of two empty words alone, where R says so.
  pub together_nil : (P Q : Word → Type 0) → ((u v : Word) → R u v [] ↔ ((u ≡ []) × (v ≡ []))) → Together R P Q [] ↔ (P [] × Q [])
  together_nil P Q r = (
    λ t. let e = (r t.0 t.1).0 t.4 in (subst P e.0 t.2, subst Q e.1 t.3),
    λ t. ([], [], t.0, t.1, (r [] []).1 (refl, refl)),
  )

  -- So a test for the empty word on either side makes one for both together.
  pub together_test : (P Q : Word → Type 0) → ((u v : Word) → R u v [] ↔ ((u ≡ []) × (v ≡ []))) → (b c : Bool) → (b ≡ true) ↔ P [] → (c ≡ true) ↔ Q []
      → ((b && c) ≡ true) ↔ Together R P Q []
  together_test P Q r b c p q = Iff.trans (and-eq-true_iff b c) (Iff.trans (Iff.and p q) (Iff.symm (together_nil P Q r)))

  -- The language of the empty word alone is a unit, where the empty word is one for R.
  pub together_unit_right : (P : Word → Type 0) (w : Word) → ((u : Word) → R u [] w ↔ (w ≡ u)) → Together R P (λ v. v ≡ []) w ↔ P w
  together_unit_right P w r =
      (λ t. subst P (sym ((r t.0).0 (subst (λ v. R t.0 v w) t.3 t.4))) t.2, λ p. (w, [], p, refl, (r w).1 refl))

  pub together_unit_left : (Q : Word → Type 0) (w : Word) → ((v : Word) → R [] v w ↔ (w ≡ v)) → Together R (λ u. u ≡ []) Q w ↔ Q w
  together_unit_left Q w r =
      (λ t. subst Q (sym ((r t.1).0 (subst (λ u. R u t.1 w) t.2 t.4))) t.3, λ q. ([], w, refl, q, (r w).1 refl))

  -- A choice among languages on either side can be made before or after.
  pub some_left : {A : Type 0} (P : A → Word → Type 0) (Q : Word → Type 0) (xs : List A) (w : Word)
      → Some (λ x. Together R (P x) Q w) xs ↔ Together R (λ u. Some (λ x. P x u) xs) Q w
  some_left P Q xs w = (
    λ s. let t = s.2 in (t.0, t.1, (s.0, s.1, t.2), t.3, t.4),
    λ t. let s = t.2 in (s.0, s.1, (t.0, t.1, s.2, t.3, t.4)),
  )

  pub some_right : {A : Type 0} (P : Word → Type 0) (Q : A → Word → Type 0) (xs : List A) (w : Word)
      → Some (λ x. Together R P (Q x) w) xs ↔ Together R P (λ v. Some (λ x. Q x v) xs) w
  some_right P Q xs w = (
    λ s. let t = s.2 in (t.0, t.1, t.2, (s.0, s.1, t.3), t.4),
    λ t. let s = t.3 in (s.0, s.1, (t.0, t.1, t.2, s.2, t.4)),
  )
