-- What the reader answers at the text's end, at a byte that is an expression by itself, and at a star.
-- Leans on the steps of the scan and on the laws of rows that are laid into columns; knows nothing of the code.
use Prim.Native.Nat.{ℕ, ◌+◌, ◌-◌, ◌≤◌, ◌<◌, pred}
use native.Mathlib.Nat.{eq-or-lt_of_le}
use native.Mathlib.Omega.{arith}
use mathlib.Core.Path.{◌≡◌, sym, ap, ◌∙◌}
use mathlib.Core.Logic.{inl, inr}
use mathlib.Core.List.{List, [], ◌∷◌}
use mathlib.Core.Option.{Option, none, some}
use lib.ListN.{length, get_or}
use Rattle.theory.specs.Kind
use Rattle.theory.specs.Expression.{Expression, star, entries}
use Rattle.std.specs.Prelude.{Ok, Err}
use Rattle.theory.specs.Refusal.{refusal, not_grammar}
use Rattle.theory.specs.Stated.{stated}
use Rattle.theory.specs.declared.refusal.Refusal.{Refusal}
use Rattle.theory.specs.Table.{Table, Row, entry}
use Rattle.theory.specs.Grammar.{Text, refused, rows, byte_open, byte_*, makes_entry}
use Rattle.theory.specs.Scan.{token, Stand, before, after, next, open_at, finish}
use Rattle.theory.proofs.Scan.{at_end, at_broken, at_many, at_entry, after_star}
use Rattle.theory.proofs.Rows.Trees.{rows_length, entries_positive}
use Rattle.columns.specs.declared.cursor.Cursor.{Cursor}
use Rattle.reader.specs.Found.{Found, laid, Entry, leaf_of, scan_at, Start, MayBegin, After, Answered}
use Rattle.reader.proofs.Leaf.{leaf_next, leaf_none, leaf_makes, leaf_entries}
use Rattle.reader.proofs.Laid.{laid_append}
use Rattle.columns.proofs.ByteAt.{ByteAt}
use Rattle.reader.proofs.Stepped.{byte_before}

-- The row over the last row made: a star's, where k is its kind.
abbrev pub star_row : (k made : ℕ) → Row
star_row k made = entry k (made - 1) 0

module _ (room : ℕ) (text : Text) where
  -- ---- The text's end, and a leaf

  -- 01: "the first byte after which the grammar alone allows no text, or the text's length if it stops early".
  pub stuck_here : (at made : ℕ) (c : Stand) → at ≤ length text → (at < length text → next c (token (get_or text at 0)) ≡ none)
      → finish at c ≡ refused (refusal not_grammar at) → scan_at room text at made c ≡ refused (refusal not_grammar at)
  stuck_here at made c w h f = elim (eq-or-lt_of_le w) [
    | inl q ↦ at_end room text at made c (omega arith) ∙ f
    | inr q ↦ at_broken room text at made c q (h q)
  ]

  pub end_answers : (s : Start) (r : Refusal) → stated r ≡ refusal not_grammar s.at → length text ≤ s.at → Answered room text s (Err r) s.columns
  unfolding finish
  end_answers s r e l fs d = rw e (at_end room text s.at s.made (before fs) l)

  module _ (s : Start) (b : MayBegin room text s) {byte : ℕ} {cursor : Cursor} (i : ByteAt text s.at byte cursor) where
    leaf_here : {o : Option Expression} → leaf_of (token byte) ≡ o → leaf_of (token (get_or text s.at 0)) ≡ o
    leaf_here e = rw i.here e

    pub leaf_refused : (r : Refusal) → stated r ≡ refusal not_grammar s.at → (byte ≡ byte_open → ⊥) → leaf_of (token byte) ≡ none
        → Answered room text s (Err r) s.columns
    leaf_refused r q n e fs d =
        rw q
        (at_broken room text s.at s.made (before fs) i.inside
        (leaf_none fs (get_or text s.at 0) (leaf_here e) (λ z. n (sym i.here ∙ z)) (λ z. b.no_∅ (sym d ∙ z))))

    pub leaf_made : (w : Row) (x : Expression) → leaf_of (token byte) ≡ some x → rows s.made x ≡ w ∷ [] → (r : Found) (t' : Table)
        → Entry room s.made cursor (w ∷ []) s.columns r t' → Answered room text s r t'
    unfolding open_at
    leaf_made w x e q (Ok v) t' h =
        let next_at : v.1.at ≡ s.at + 1 = ap (λ (c : Cursor). c.at) h.2 ∙ i.next in
        let one = leaf_entries (token byte) x e in
        let inside = i.inside in
        let fits = h.0 in
        let more = h.1 in
        let shallow = b.shallow in
        record {
          expression = x;
          reads = λ fs d. rw (next_at, more)
              (at_entry room text s.at s.made (before fs) i.inside (after x fs) (leaf_next fs (token (get_or text s.at 0)) x (leaf_here e))
              (omega arith) (leaf_makes (get_or text s.at 0) x (leaf_here e)) h.0);
          shallow = b.shallow;
          onward = omega arith;
          within = omega arith;
          counted = omega arith;
          fits = omega arith;
          laid_out = h.3 ∙ ap (λ (ws : List Row). laid s.made ws s.columns) (sym q);
        }
    leaf_made w x e q (Err r) t' h = λ fs d.
        rw (h.1, byte_before i)
        (at_many room text s.at s.made (before fs) i.inside (after x fs) (leaf_next fs (token (get_or text s.at 0)) x (leaf_here e))
        (omega (arith, b.shallow)) (leaf_makes (get_or text s.at 0) x (leaf_here e)) h.0)

  -- ---- A star

  star_laid : (base : ℕ) (x : Expression) (t : Table)
      → laid (base + entries x) (star_row Kind.star (base + entries x) ∷ []) (laid base (rows base x) t) ≡ laid base (rows base (star x)) t
  unfolding rows
  star_laid base x t =
      let last : base + entries x - 1 ≡ base + pred (entries x) = omega (arith, entries_positive x) in
      sym (laid_append base (rows base x) (entry Kind.star (base + pred (entries x)) 0 ∷ []) t ∙ rw (rows_length, last))

  pub star_answers : (s : Start) (at made : ℕ) (t : Table) → After room text s at made t → (byte : ℕ) (cursor : Cursor)
      → ByteAt text at byte cursor → byte ≡ byte_* → (k : ℕ) → k ≡ Kind.star → (r : Found) (t' : Table)
      → Entry room made cursor (star_row k made ∷ []) t r t' → Answered room text s r t'
  unfolding open_at entries makes_entry
  star_answers s at made t x byte cursor i b k e (Ok v) t' h =
      let next_at : v.1.at ≡ at + 1 = ap (λ (q : Cursor). q.at) h.2 ∙ i.next in
      let l = i.inside in
      let fits = h.0 in
      let more = h.1 in
      record {
        expression = star x.expression;
        reads = λ fs d. x.reads fs d ∙ rw (next_at, more)
            (at_entry room text at made (after x.expression fs) l (after (star x.expression) fs)
            (after_star x.expression fs (get_or text at 0) (i.here ∙ b)) (omega (arith, x.shallow)) (rw (i.here ∙ b)) h.0);
        shallow = x.shallow;
        onward = omega (arith, x.onward);
        within = omega arith;
        counted = omega (arith, x.counted);
        fits = omega arith;
        laid_out = h.3 ∙ rw (x.laid_out, x.counted, e) (star_laid s.made x.expression s.columns);
      }
  star_answers s at made t x byte cursor i b k e (Err r) t' h = λ fs d.
      x.reads fs d ∙ rw (h.1, byte_before i)
      (at_many room text at made (after x.expression fs) i.inside (after (star x.expression) fs)
      (after_star x.expression fs (get_or text at 0) (i.here ∙ b)) (omega (arith, x.shallow)) (rw (i.here ∙ b)) h.0)

  pub after_positive : {s : Start} {at made : ℕ} {t : Table} → After room text s at made t → 0 < made
  after_positive x = omega (arith, x.counted, entries_positive x.expression)
