-- `(` expression sign expression `)`: where the scan stands after each of its parts, and what is answered where one is missing.
-- Leans on the steps of the scan and on the laws of rows that are laid into columns; knows nothing of the code.
use Prim.Native.Nat.{ℕ, ◌+◌, ◌-◌, ◌≤◌, ◌<◌, pred}
use native.Mathlib.Nat.{add_assoc}
use native.Mathlib.Omega.{arith}
use mathlib.Core.Path.{◌≡◌, refl, sym, ap, subst, ◌∙◌}
use mathlib.Core.Logic.{◌⊎◌, inl, inr}
use mathlib.Core.List.{List, [], ◌∷◌, ◌++◌}
use lib.ListN.{length, get_or, length-append}
use Rattle.theory.specs.Expression.{Expression, Sign, binary, entries}
use Rattle.theory.specs.Limit.{most_open}
use Rattle.theory.specs.Refusal.{refusal, not_grammar, too_deep, too_many_entries}
use Rattle.theory.specs.Meant.{as_sign, sign_number}
use Rattle.theory.specs.Stated.{stated}
use Rattle.theory.specs.Table.{Table, Row, entry, kind_of_sign}
use Rattle.theory.specs.declared.kind.Sign.{Sign as CodeSign}
use Rattle.theory.specs.declared.kind.Sign.TheVariants.{Union, Concatenation, Shuffle}
use Rattle.theory.specs.declared.refusal.Refusal.{Refusal}
use Rattle.std.specs.Prelude.{Ok, Err}
use Rattle.theory.specs.Grammar.{Text, refused, rows, byte_open, byte_close, byte_*, makes_entry}
use Rattle.theory.specs.Scan.{Frame, opened, signed, Stand, before, after, open_at, finish}
use Rattle.theory.proofs.Grammar.Count.{sign_makes_none}
use Rattle.theory.proofs.Scan.{at_deep, at_many, at_entry, at_mark, before_opening, after_sign, after_close, after_unsigned, after_unclosed}
use Rattle.theory.proofs.Rows.Trees.{rows_length, entries_positive}
use Rattle.columns.specs.declared.cursor.Cursor.{Cursor}
use Rattle.reader.specs.Found.{Found, laid, SignAt, CloseAt, scan_at, Start, start, MayBegin, After, Answered}
use Rattle.reader.proofs.Laid.{laid_append}
use Rattle.columns.proofs.ByteAt.{ByteAt}
use Rattle.reader.proofs.Answers.{stuck_here}

-- The scan from s, before an expression, comes to stand at place `at`, whatever lies open around it.
abbrev Comes : (room : ℕ) → Text → Start → (at made : ℕ) → (List Frame → Stand) → Type 0
Comes room text s at made stand =
    (fs : List Frame) → length fs ≡ s.depth → scan_at room text s.at s.made (before fs) ≡ scan_at room text at made (stand fs)

-- ---- `(`

pub record Inside (room : ℕ) (text : Text) (s : Start) (at : ℕ) : Type 0 where
  pub comes : Comes room text s at s.made (λ fs. before (opened ∷ fs))
  pub shallow : s.depth < most_open
  pub onward : s.at < at
  pub within : at ≤ length text

module _ {room : ℕ} {text : Text} {s : Start} (b : MayBegin room text s) {byte : ℕ} {cursor : Cursor} (i : ByteAt text s.at byte cursor)
    (o : byte ≡ byte_open) where
  pub deep_answers : (r : Refusal) → stated r ≡ refusal too_deep s.at → most_open ≤ s.depth → Answered room text s (Err r) s.columns
  unfolding open_at
  deep_answers r q d fs e =
      rw q
      (at_deep room text s.at s.made (before fs) i.inside (before (opened ∷ fs)) (before_opening fs (get_or text s.at 0) (i.here ∙ o)) (omega arith))

  pub inside : s.depth < most_open → Inside room text s cursor.at
  unfolding open_at makes_entry
  inside d =
      let next_at = i.next in
      let room_here = i.inside in
      record {
        comes = λ fs e. rw next_at
            (at_mark room text s.at s.made (before fs) i.inside (before (opened ∷ fs)) (before_opening fs (get_or text s.at 0) (i.here ∙ o))
            (omega arith) (rw (i.here ∙ o)) b.fits);
        shallow = d;
        onward = omega arith;
        within = omega arith;
      }

-- ---- The left expression

-- Where an expression begins inside the parenthesis that opened at s.
abbrev pub within_pair : Start → (at made : ℕ) → Table → Start
within_pair s at made t = start (s.depth + 1) at made t

-- The left expression lies before place `at`: the scan stands there as `stand` says, and the rows are made, the last of them row `made` - 1.
pub record Half (room : ℕ) (text : Text) (s : Start) (stand : Expression → List Frame → Stand) (at made : ℕ) (t : Table) : Type 0 where
  pub expression : Expression
  pub comes : Comes room text s at made (stand expression)
  pub shallow : s.depth < most_open
  pub onward : s.at < at
  pub within : at ≤ length text
  pub counted : made ≡ s.made + entries expression
  pub fits : made ≤ room
  pub laid_out : t ≡ laid s.made (rows s.made expression) s.columns

pub record Left (room : ℕ) (text : Text) (s : Start) (at made : ℕ) (t : Table) : Type 0 where
  pub half : Half room text s (λ x fs. after x (opened ∷ fs)) at made t
  pub unstarred : get_or text at 0 ≡ byte_* → ⊥

module _ {room : ℕ} {text : Text} {s : Start} {at₀ : ℕ} (i : Inside room text s at₀) where
  pub left_refused : {found : Refusal} (t : Table) (r : Found) → r ≡ Err found
      → Answered room text (within_pair s at₀ s.made s.columns) r t → Answered room text s r t
  left_refused t r q h =
      subst (λ (r' : Found). Answered room text s r' t) (sym q)
      (λ fs e. i.comes fs e ∙ subst (λ (r' : Found). Answered room text (within_pair s at₀ s.made s.columns) r' t) q h (opened ∷ fs) (omega arith))

  pub left : {at made : ℕ} {t : Table} → After room text (within_pair s at₀ s.made s.columns) at made t → (get_or text at 0 ≡ byte_* → ⊥)
      → Left room text s at made t
  left x n =
      record {
        half = record {
          expression = x.expression;
          comes = λ fs e. i.comes fs e ∙ x.reads (opened ∷ fs) (omega arith);
          shallow = i.shallow;
          onward = omega (arith, i.onward, x.onward);
          within = x.within;
          counted = x.counted;
          fits = x.fits;
          laid_out = x.laid_out;
        };
        unstarred = n;
      }

-- ---- The sign

-- Where the scan stands after the left expression and its sign.
abbrev pub signed_with : CodeSign → Expression → List Frame → Stand
signed_with g x fs = before (signed x (as_sign g) ∷ fs)

module _ {room : ℕ} {text : Text} {s : Start} {at made : ℕ} {t : Table} (x : Left room text s at made t) where
  pub sign_refused : (found : Refusal) (t' : Table) → SignAt text at (Err found) → Answered room text s (Err found) t'
  unfolding finish
  sign_refused found t' h fs e =
      let y = x.half in
      y.comes fs e
      ∙ rw h.0
      (stuck_here room text at made (after y.expression (opened ∷ fs)) y.within
      (λ l. after_unsigned y.expression fs (get_or text at 0) x.unstarred (λ g. h.1 g l)) refl)

  pub signed_on : (v : CodeSign × Cursor) → SignAt text at (Ok v) → Half room text s (signed_with v.0) v.1.at made t
  unfolding open_at
  signed_on v h =
      let y = x.half in
      let shallow = y.shallow in
      let next_at = h.2 in
      let before_end = h.0 in
      let onward = y.onward in
      record {
        expression = y.expression;
        comes = λ fs e.
            y.comes fs e
            ∙ rw next_at
            (at_mark room text at made (after y.expression (opened ∷ fs)) h.0 (before (signed y.expression (as_sign v.0) ∷ fs))
            (after_sign y.expression (as_sign v.0) fs (get_or text at 0) h.1) (omega arith) (rw h.1 (sign_makes_none (as_sign v.0))) y.fits);
        shallow = y.shallow;
        onward = omega arith;
        within = omega arith;
        counted = y.counted;
        fits = y.fits;
        laid_out = y.laid_out;
      }

-- ---- The right expression and `)`

-- The row of a sign over the last rows of its two parts.
abbrev pub pair_row : (kind first second : ℕ) → Row
pair_row kind first second = entry kind (first - 1) (second - 1)

kind_is : (g : CodeSign) → sign_number g ≡ kind_of_sign (as_sign g)
unfolding kind_of_sign
kind_is Union = refl
kind_is Concatenation = refl
kind_is Shuffle = refl

pair_laid : (base : ℕ) (g : Sign) (x y : Expression) (t : Table)
    → laid (base + entries x + entries y) (pair_row (kind_of_sign g) (base + entries x) (base + entries x + entries y) ∷ [])
    (laid (base + entries x) (rows (base + entries x) y) (laid base (rows base x) t))
    ≡ laid base (rows base (binary g x y)) t
unfolding rows
pair_laid base g x y t =
    let lefts : base + entries x - 1 ≡ base + pred (entries x) = omega (arith, entries_positive x) in
    let rights : base + entries x + entries y - 1 ≡ base + entries x + pred (entries y) = omega (arith, entries_positive y) in
    let w = entry (kind_of_sign g) (base + pred (entries x)) (base + entries x + pred (entries y)) in
    let xy = rows base x ++ rows (base + entries x) y in
    sym (laid_append base xy (w ∷ []) t
    ∙ ap (laid (base + length xy) (w ∷ [])) (laid_append base (rows base x) (rows (base + entries x) y) t)
    ∙ rw (length-append, rows_length base x, rows_length (base + entries x) y, ← add_assoc, lefts, rights))

module _ {room : ℕ} {text : Text} {s : Start} (g : CodeSign) {at made : ℕ} {t : Table} (x : Half room text s (signed_with g) at made t) where
  pub right_refused : {found : Refusal} (t' : Table) (r : Found) → r ≡ Err found → Answered room text (within_pair s at made t) r t'
      → Answered room text s r t'
  right_refused t' r q h =
      subst (λ (r' : Found). Answered room text s r' t') (sym q)
      (λ fs e.
      x.comes fs e
      ∙ subst (λ (r' : Found). Answered room text (within_pair s at made t) r' t') q h (signed x.expression (as_sign g) ∷ fs) (omega arith))

  module _ {at₂ made₂ : ℕ} {t₂ : Table} (y : After room text (within_pair s at made t) at₂ made₂ t₂) (n : get_or text at₂ 0 ≡ byte_* → ⊥) where
    right_comes : Comes room text s at₂ made₂ (λ fs. after y.expression (signed x.expression (as_sign g) ∷ fs))
    right_comes fs e = x.comes fs e ∙ y.reads (signed x.expression (as_sign g) ∷ fs) (omega arith)

    close_refused : (kind : ℕ) (found : Refusal) (t₃ : Table) → CloseAt text room at₂ made₂ (pair_row kind made made₂) t₂ (Err found) t₃
        → Answered room text s (Err found) t₃
    unfolding open_at makes_entry finish
    close_refused kind found t₃ h fs e = right_comes fs e ∙ go h
      where
        c : Stand
        c = after y.expression (signed x.expression (as_sign g) ∷ fs)

        go : ((stated found ≡ refusal not_grammar at₂) × (at₂ < length text → get_or text at₂ 0 ≡ byte_close → ⊥))
            ⊎ ((stated found ≡ refusal too_many_entries at₂) × (at₂ < length text) × (get_or text at₂ 0 ≡ byte_close) × (room ≤ made₂))
            → scan_at room text at₂ made₂ c ≡ refused (stated found)
        go (inl k) =
            rw k.0
            (stuck_here room text at₂ made₂ c y.within
            (λ q. after_unclosed x.expression y.expression (as_sign g) fs (get_or text at₂ 0) n (k.1 q)) refl)
        go (inr k) =
            rw k.0
            (at_many room text at₂ made₂ c k.1 (after (binary (as_sign g) x.expression y.expression) fs)
            (after_close x.expression y.expression (as_sign g) fs (get_or text at₂ 0) k.2) (omega (arith, x.shallow)) (rw k.2) k.3)

    pub pair_answers : (kind : ℕ) → kind ≡ sign_number g → (r : Found) (t₃ : Table) → CloseAt text room at₂ made₂ (pair_row kind made made₂) t₂ r t₃
        → Answered room text s r t₃
    unfolding open_at entries makes_entry
    pair_answers kind k (Ok v) t₃ h =
        record {
          expression = binary (as_sign g) x.expression y.expression;
          reads = λ fs e.
              right_comes fs e
              ∙ rw (h.4, h.3)
              (at_entry room text at₂ made₂ (after y.expression (signed x.expression (as_sign g) ∷ fs)) h.0
              (after (binary (as_sign g) x.expression y.expression) fs)
              (after_close x.expression y.expression (as_sign g) fs (get_or text at₂ 0) h.1) (omega (arith, x.shallow)) (rw h.1) h.2);
          shallow = omega (arith, x.shallow);
          onward = omega (arith, h.4, x.onward, y.onward);
          within = omega (arith, h.4, h.0);
          counted = omega (arith, h.3, x.counted, y.counted);
          fits = omega (arith, h.3, h.2);
          laid_out =
              h.5
              ∙ rw (y.laid_out, y.counted, x.laid_out, x.counted, k ∙ kind_is g)
              (pair_laid s.made (as_sign g) x.expression y.expression s.columns);
        }
    pair_answers kind k (Err found) t₃ h = close_refused kind found t₃ h
