-- Bytes taken one after the other, from the block and from what reads put there, and a line of them as it is stored. Knows nothing of the code.
use Prim.Native.Nat.{ℕ, ◌+◌, ◌≤◌, ◌<◌}
use native.Mathlib.Numerals.{add-one}
use native.Mathlib.Omega.{arith}
use mathlib.Core.Path.{◌≡◌, refl, sym, ap, ap₂, ◌∙◌, subst}
use mathlib.Core.Bool.{Bool, true, false, cond}
use mathlib.Core.Logic.{◌⊎◌, inl, inr, ⊎_elim}
use mathlib.Core.List.Memᴰ
use mathlib.Core.List.{List, [], ◌∷◌, ◌++◌, append-nil, append_assoc, Memᴰ}
use lib.ListN.{length, get_or, take, set, length-set, length-append}
use lib.Seq.{slice, slice_empty, slice-cons, length-slice, length-take-le, take_all, take-suc, take-suc-set}
use lib.Dec.{eqb}
use borrow.Author.Tests.{eqb-true, eqb-false}
use Rattle.std.specs.Prelude.{Option, None, Some, Ok, Err}
use Rattle.theory.specs.Lines.{newline}
use Rattle.lines.specs.declared.failure.Failure.{Failure}
use Rattle.lines.specs.declared.failure.Failure.TheVariants.{Read, Write}
use Rattle.lines.specs.declared.input.Line.{Line}
use Rattle.lines.specs.declared.input.Line.TheVariants.{Ended, Full}
use Rattle.lines.specs.declared.place.Place.{Place}
use Rattle.lines.specs.Input.{Input, input_of, Taken, Unbroken}
use Rattle.lines.specs.Place.{Inside, standing, Nexts, last, Took, Passes}

-- ---- Bytes taken

pub untaken_short : (block : List ℕ) (at : ℕ) {end : ℕ} → end ≤ length block → length (slice at end block) ≤ end
untaken_short block at {end} l = let n = length-slice at end block l in omega arith

pub used_up : (block : List ℕ) {at end : ℕ} → at ≡ end → slice at end block ≡ []
used_up block {at} e = ap (λ (n : ℕ). slice at n block) (sym e) ∙ slice_empty at block

pub taken_none : {input : Input} → Taken input [] input
taken_none {input} = record { came = []; all = append-nil input.untaken; asked = inl (refl, sym (append-nil input.taken), refl) }

-- The first byte of a part.
first_of : (l : List ℕ) (i end : ℕ) → i < end → end ≤ length l → slice i end l ≡ get_or l i 0 ∷ slice (i + 1) end l
first_of l i end p q = slice-cons i end l 0 p q ∙ ap (λ (n : ℕ). get_or l i 0 ∷ slice n end l) (sym (add-one i))

-- The next byte of the block.
pub taken_here : (block : List ℕ) {at end : ℕ} → at < end → end ≤ length block
    → Taken (input_of block at end) (get_or block at 0 ∷ []) (input_of block (at + 1) end)
taken_here block {at} {end} l m = record {
  came = [];
  all = append-nil (slice at end block) ∙ first_of block at end l m;
  asked = inl (refl, ap (λ (n : ℕ). take n block) (add-one at) ∙ take-suc block at 0 (omega arith), refl);
}

-- The first byte that a read put into the block.
pub taken_read : {input : Input} (block : List ℕ) {end : ℕ} → input.untaken ≡ [] → 0 < end → end ≤ length block
    → Taken input (get_or block 0 0 ∷ []) (input_of block 1 end)
taken_read {input} block {end} e p q = record {
  came = take end block;
  all = ap (λ (x : List ℕ). x ++ take end block) e ∙ first_of block 0 end p q;
  asked = inr (let n = ap length e in omega arith);
}

module _ {input : Input} {bytes : List ℕ} {between : Input} (t : Taken input bytes between) where
  -- What comes then comes after what came before.
  pub after : (came : List ℕ) {more : List ℕ} → between.untaken ++ came ≡ more → input.untaken ++ (t.came ++ came) ≡ bytes ++ more
  after came e =
      sym (append_assoc input.untaken t.came came) ∙ ap (λ (x : List ℕ). x ++ came) t.all ∙ append_assoc bytes between.untaken came
      ∙ ap (λ (x : List ℕ). bytes ++ x) e

  pub taken_then : {more : List ℕ} {end : Input} → Taken between more end → Taken input (bytes ++ more) end
  taken_then {more} {end} u = record {
    came = t.came ++ u.came;
    all = after u.came u.all ∙ sym (append_assoc bytes more end.untaken);
    asked = asked t.asked u.asked;
  }
    where
      asked : ((t.came ≡ []) × (between.taken ≡ input.taken ++ bytes) × (between.spare ≡ input.spare)) ⊎ (length input.untaken < length bytes)
          → ((u.came ≡ []) × (end.taken ≡ between.taken ++ more) × (end.spare ≡ between.spare)) ⊎ (length between.untaken < length more)
          → ((t.came ++ u.came ≡ []) × (end.taken ≡ input.taken ++ (bytes ++ more)) × (end.spare ≡ input.spare))
          ⊎ (length input.untaken < length (bytes ++ more))
      asked (inl p) (inl q) =
          inl (
            ap₂ (λ (x y : List ℕ). x ++ y) p.0 q.0,
            q.1 ∙ ap (λ (x : List ℕ). x ++ more) p.1 ∙ append_assoc input.taken bytes more,
            q.2 ∙ p.2,
          )
      asked (inl p) (inr l) =
          let e = ap length t.all in
          let z = ap length p.0 in
          inr (omega (arith, simp length-append at e, length-append bytes more))
      asked (inr l) k = inr (omega (arith, length-append bytes more))

  -- No newline was untaken where none is in what was taken and none is untaken now.
  pub unbroken_before : Unbroken bytes → Unbroken between.untaken → Unbroken input.untaken
  unbroken_before u v m = ⊎_elim u v (Memᴰ.append_cases bytes (subst (Memᴰ newline) t.all (Memᴰ.append_left t.came m)))

  -- Nor where all that was untaken is taken.
  pub unbroken_all : Unbroken bytes → length input.untaken ≤ length bytes → Unbroken input.untaken
  unbroken_all u l m = u (in_longer input.untaken t.came bytes between.untaken l t.all m)
    where
      in_longer : {z : ℕ} (xs us ys vs : List ℕ) → length xs ≤ length ys → xs ++ us ≡ ys ++ vs → Memᴰ z xs → Memᴰ z ys
      in_longer [] us ys vs l e m = absurd (Memᴰ.not-nil m)
      in_longer (x ∷ xs) us [] vs l e m = absurd (omega arith)
      in_longer {z} (x ∷ xs) us (y ∷ ys) vs l e (Memᴰ.head q) = let same : z ≡ y = cc in Memᴰ.head same
      in_longer (x ∷ xs) us (y ∷ ys) vs l e (Memᴰ.tail q) =
          let rest : xs ++ us ≡ ys ++ vs = cc in Memᴰ.tail (in_longer xs us ys vs (omega arith) rest q)

pub unbroken_joined : {xs ys : List ℕ} → Unbroken xs → Unbroken ys → Unbroken (xs ++ ys)
unbroken_joined {xs} u v m = ⊎_elim u v (Memᴰ.append_cases xs m)

no_bytes : (xs : List ℕ) → length xs ≡ 0 → xs ≡ []
no_bytes [] e = refl
no_bytes (x ∷ xs) e = absurd (omega arith)

pub unbroken_more : {bytes : List ℕ} {b : ℕ} → Unbroken bytes → (b ≡ newline → ⊥) → Unbroken (bytes ++ (b ∷ []))
unbroken_more u d = unbroken_joined u (λ m. d (sym (Memᴰ.eq_of_singleton m)))

-- Where the input ends, all that was taken is all there was.
all_there : {input : Input} {bytes : List ℕ} {between : Input} → Taken input bytes between → between.untaken ≡ []
    → (came : List ℕ) × (input.untaken ++ came ≡ bytes)
all_there {bytes = bytes} t e = (t.came, t.all ∙ ap (λ (x : List ℕ). bytes ++ x) e ∙ append-nil bytes)

none_unbroken : {bytes : List ℕ} → bytes ≡ [] → Unbroken bytes
none_unbroken e = subst Unbroken (sym e) Memᴰ.not-nil

-- ---- A place in a block

pub inside_as : {place : Place} {block block' : List ℕ} → length block' ≡ length block → Inside place block → Inside place block'
inside_as e i = record { ordered = i.ordered; within = let w = i.within in omega arith }

pub nothing_left : (block : List ℕ) (place : Place) → place.at ≡ place.end → (standing block place).untaken ≡ []
nothing_left block place e = used_up block e

pub next_as : (block : List ℕ) (place : Place) (block' : List ℕ) {r r' : Option (ℕ × Place)} → r ≡ r' → Nexts block place (Ok r) block'
    → Nexts block place (Ok r') block'
next_as block place block' e h = subst (λ (r : Option (ℕ × Place)). Nexts block place (Ok r) block') e h

-- ---- A line as it is stored

-- So many bytes of the line are stored, and taken.
pub record Stored (block₀ column₀ : List ℕ) (place₀ : Place) (block column : List ℕ) (place : Place) (n : ℕ) : Type 0 where
  pub inside : Inside place block
  pub column_length : length column ≡ length column₀
  pub unbroken : Unbroken (take n column)
  pub taken : Taken (standing block₀ place₀) (take n column) (standing block place)

pub stored_none : {block column : List ℕ} {place : Place} → Inside place block → Stored block column place block column place 0
stored_none i = record { inside = i; column_length = refl; unbroken = Memᴰ.not-nil; taken = taken_none }

module _ {block₀ column₀ block column : List ℕ} {place₀ place : Place} {n : ℕ} (s : Stored block₀ column₀ place₀ block column place n) where
  module _ {block' : List ℕ} {b : ℕ} {place' : Place} (h : Nexts block place (Ok (Some (b, place'))) block') where
    -- The byte ends the line, or it is stored.
    pub line_ended : n < length column₀ → b ≡ newline → Took block₀ place₀ (Ok (Some (Ended n, place'))) block' column
    line_ended l e = record {
      holds = (
        let same = s.column_length in omega arith,
        h.0,
        inl (
          s.unbroken,
          subst (λ (x : ℕ). Taken (standing block₀ place₀) (take n column ++ (x ∷ [])) (standing block' place')) e (taken_then s.taken h.1),
        ),
      );
    }

    pub stored_byte : n < length column₀ → (b ≡ newline → ⊥) → Stored block₀ column₀ place₀ block' (set column n b) place' (n + 1)
    stored_byte l d =
        let more : take (n + 1) (set column n b) ≡ take n column ++ (b ∷ [])
        = ap (λ (k : ℕ). take k (set column n b)) (add-one n) ∙ take-suc-set column n b (let e = s.column_length in omega arith) in
        record {
          inside = h.0;
          column_length = length-set column n b ∙ s.column_length;
          unbroken = subst Unbroken (sym more) (unbroken_more s.unbroken d);
          taken = subst (λ (x : List ℕ). Taken (standing block₀ place₀) x (standing block' place')) (sym more) (taken_then s.taken h.1);
        }

  pub line_full : length column ≤ n → Took block₀ place₀ (Ok (Some (Full, place))) block column
  line_full l =
      let whole : take n column ≡ column = take_all n column l in
      record {
        holds = (
          s.inside,
          (
            subst Unbroken whole s.unbroken,
            subst (λ (x : List ℕ). Taken (standing block₀ place₀) x (standing block place)) whole s.taken,
          ),
        );
      }

  -- The input ends, or a read fails, where the block is used up.
  module _ {block' : List ℕ} where
    pub line_last : place.at ≡ place.end → length block' ≡ length block → n < length column₀ → {line : Option (Line × Place)}
        → line ≡ last n place → Took block₀ place₀ (Ok line) block' column
    line_last e kept l q = subst (λ (r : Option (Line × Place)). Took block₀ place₀ (Ok r) block' column) (sym q) (go (eqb n 0) refl)
      where
        within : n < length column
        within = let e = s.column_length in omega arith

        all : (came : List ℕ) × ((standing block₀ place₀).untaken ++ came ≡ take n column)
        all = all_there s.taken (nothing_left block place e)

        go : (b : Bool) → eqb n 0 ≡ b → Took block₀ place₀ (Ok (cond b None (Some (Ended n, place)))) block' column
        go true z =
            let none = all.1 ∙ ap (λ (k : ℕ). take k column) (eqb-true n 0 z) in
            let n = ap length none in
            record { holds = no_bytes (standing block₀ place₀).untaken (omega (arith, simp length-append at n)) }
        go false z = record {
          holds = (
            within,
            inside_as kept s.inside,
            inr (
              let k = length-take-le n column (omega (arith, within)) in let d = eqb-false n 0 z in omega arith,
              (s.unbroken, all, nothing_left block' place e),
            ),
          );
        }

  pub line_failed : (block' : List ℕ) (f : Failure) → Nexts block place (Err f) block' → Took block₀ place₀ (Err f) block' column
  line_failed block' Read e = record { holds = unbroken_before s.taken s.unbroken (none_unbroken (nothing_left block place e)) }
  line_failed block' Write e = absurd e

-- ---- The rest of a line

-- The bytes passed over are as many as the turns that are gone.
pub record Passing (block₀ : List ℕ) (place₀ : Place) (block : List ℕ) (place : Place) (turns : ℕ) : Type 0 where
  pub inside : Inside place block
  pub bytes : List ℕ
  pub unbroken : Unbroken bytes
  pub taken : Taken (standing block₀ place₀) bytes (standing block place)
  pub counted : length bytes ≡ turns

pub passing_none : {block : List ℕ} {place : Place} → Inside place block → Passing block place block place 0
passing_none i = record { inside = i; bytes = []; unbroken = Memᴰ.not-nil; taken = taken_none; counted = refl }

module _ {block₀ : List ℕ} {place₀ : Place} {block : List ℕ} {place : Place} {turns : ℕ} (s : Passing block₀ place₀ block place turns) where
  module _ {block' : List ℕ} {b : ℕ} {place' : Place} (h : Nexts block place (Ok (Some (b, place'))) block') where
    pub rest_ended : b ≡ newline → Passes block₀ place₀ (Ok place') block'
    rest_ended e = (
      h.0,
      (
        s.bytes,
        inl (
          s.unbroken,
          subst (λ (x : ℕ). Taken (standing block₀ place₀) (s.bytes ++ (x ∷ [])) (standing block' place')) e (taken_then s.taken h.1),
        ),
      ),
    )

    pub passing_byte : (b ≡ newline → ⊥) → Passing block₀ place₀ block' place' (turns + 1)
    passing_byte d = record {
      inside = h.0;
      bytes = s.bytes ++ (b ∷ []);
      unbroken = unbroken_more s.unbroken d;
      taken = taken_then s.taken h.1;
      counted = let k = s.counted in let m = length-append s.bytes (b ∷ []) in omega arith;
    }

  module _ {block' : List ℕ} where
    pub rest_last : place.at ≡ place.end → length block' ≡ length block → Passes block₀ place₀ (Ok place) block'
    rest_last e kept = (
      inside_as kept s.inside,
      (s.bytes, inr (s.unbroken, all_there s.taken (nothing_left block place e), nothing_left block' place e)),
    )

  pub rest_failed : (block' : List ℕ) (f : Failure) → Nexts block place (Err f) block' → Passes block₀ place₀ (Err f) block'
  rest_failed block' Read e = unbroken_before s.taken s.unbroken (none_unbroken (nothing_left block place e))
  rest_failed block' Write e = absurd e

  -- What was untaken is not longer than the turns, so that all of it is passed over by then.
  pub rest_endless : Inside place₀ block₀ → length block₀ ≤ turns → Passes block₀ place₀ (Err Read) block
  rest_endless i l =
      let short = untaken_short block₀ place₀.at i.within in
      let w = i.within in
      let k = s.counted in
      unbroken_all s.taken s.unbroken (omega arith)
