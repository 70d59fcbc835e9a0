-- Where a newline stands among the bytes that are not taken yet, and the column holds the bytes before it, all is settled: the line is those
-- bytes, the block stays as it is, and the next line begins after the newline. What a read would put into the block plays no part.
use Prim.Native.Nat.{ℕ, ◌+◌, ◌≤◌, ◌<◌}
use native.Mathlib.Omega.{arith}
use mathlib.Core.Path.{◌≡◌, refl, sym, ap, ap₂, ◌∙◌, subst}
use mathlib.Core.Logic.{◌⊎◌, inl, inr}
use mathlib.Core.List.Memᴰ
use mathlib.Core.List.{List, [], ◌∷◌, ◌++◌, append-nil, append_assoc, Memᴰ}
use lib.ListN.{length, take, drop, length-drop, length-append, take-append-drop}
use lib.Seq.{slice, length-take-le, take-take}
use Rattle.std.specs.Prelude.{Option, None, Some, Result, Ok, Err}
use Rattle.theory.specs.Lines.{newline}
use Rattle.lines.specs.declared.failure.Failure.{Failure}
use Rattle.lines.specs.declared.failure.Failure.TheVariants.{Read, Write}
use Rattle.lines.specs.declared.input.Line.{Line}
use Rattle.lines.specs.declared.input.Line.TheVariants.{Ended, Full}
use Rattle.lines.specs.declared.place.Place.{Place}
use Rattle.lines.specs.Input.{Input, Taken, Unbroken, ToNewline, Took}
use Rattle.lines.specs.Place.{Inside, standing}
use Rattle.lines.specs.Place as place

-- Up to its first newline a text is one list.
first_newline : (xs us ys vs : List ℕ) → Unbroken xs → Unbroken ys → xs ++ newline ∷ us ≡ ys ++ newline ∷ vs → (xs ≡ ys) × (us ≡ vs)
first_newline [] us [] vs u v e = (refl, cc)
first_newline [] us (y ∷ ys) vs u v e = absurd (v (Memᴰ.head cc))
first_newline (x ∷ xs) us [] vs u v e = absurd (u (Memᴰ.head cc))
first_newline (x ∷ xs) us (y ∷ ys) vs u v e =
    let more = first_newline xs us ys vs (λ m. u (Memᴰ.tail m)) (λ m. v (Memᴰ.tail m)) cc in
    let heads : x ≡ y = cc in
    (ap₂ (λ (z : ℕ) (zs : List ℕ). z ∷ zs) heads more.0, more.1)

-- A newline after fewer bytes than ys has stands in ys.
newline_within : (xs us ys vs : List ℕ) → length xs < length ys → xs ++ newline ∷ us ≡ ys ++ vs → Memᴰ newline ys
newline_within xs us [] vs l e = absurd (omega arith)
newline_within [] us (y ∷ ys) vs l e = let q : newline ≡ y = cc in Memᴰ.head q
newline_within (x ∷ xs) us (y ∷ ys) vs l e = Memᴰ.tail (newline_within xs us ys vs (omega arith) cc)

-- The line is these bytes of the block, no more was taken than its newline, and the rest is untaken still.
pub record LineOfBlock (input : Input) (bytes rest : List ℕ) (line : Result (Option Line) Failure) (input' : Input) (column : List ℕ) : Type 0 where
  pub is : line ≡ Ok (Some (Ended (length bytes)))
  pub taken : input'.taken ≡ input.taken ++ (bytes ++ (newline ∷ []))
  pub untaken : input'.untaken ≡ rest
  pub spare : input'.spare ≡ input.spare
  pub stored : take (length bytes) column ≡ bytes

module _ (input : Input) (bytes rest : List ℕ) (u : Unbroken bytes) (stands : input.untaken ≡ bytes ++ newline ∷ rest) where
  -- A newline is untaken.
  broken : Unbroken input.untaken → ⊥
  broken v = v (subst (Memᴰ newline) (sym stands) (Memᴰ.append_right bytes (Memᴰ.head refl)))

  -- What comes after what was untaken comes after the newline.
  with_more : (came : List ℕ) → input.untaken ++ came ≡ bytes ++ newline ∷ (rest ++ came)
  with_more came = ap (λ (x : List ℕ). x ++ came) stands ∙ append_assoc bytes (newline ∷ rest) came

  module _ {input' : Input} {column : List ℕ} where
    of_line : {n : ℕ} → n ≤ length column → ToNewline input (take n column) input' → LineOfBlock input bytes rest (Ok (Some (Ended n))) input' column
    of_line {n} w (v, t) =
        let split = first_newline bytes (rest ++ t.came) (take n column) input'.untaken u v
        (sym (with_more t.came) ∙ t.all ∙ append_assoc (take n column) (newline ∷ []) input'.untaken) in
        let long = length-take-le n column w in
        let short = ap length split.0 in
        let held = ap length stands in
        elim t.asked [
          | inl k ↦
              let many : n ≡ length bytes = omega arith in
              record {
                is = ap (λ (m : ℕ). Ok (Some (Ended m))) many;
                taken = k.1 ∙ ap (λ (x : List ℕ). input.taken ++ (x ++ (newline ∷ []))) (sym split.0);
                untaken = sym split.1 ∙ ap (λ (x : List ℕ). rest ++ x) k.0 ∙ append-nil rest;
                spare = k.2;
                stored = ap (λ (m : ℕ). take m column) (sym many) ∙ sym split.0;
              }
          | inr l ↦ absurd (omega (arith, simp length-append at held, simp length-append at l))
        ]

    pub settled : (line : Result (Option Line) Failure) → length bytes < length column → Took input line input' column
        → LineOfBlock input bytes rest line input' column
    settled (Ok None) l h = absurd (broken (subst Unbroken (sym h.holds.0) Memᴰ.not-nil))
    settled (Ok (Some (Ended n))) l h = elim h.holds.1 [
      | inl t ↦ of_line (let k = h.holds.0 in omega arith) t
      | inr t ↦ absurd (broken (λ m. t.1.0 (subst (Memᴰ newline) t.1.1.1 (Memᴰ.append_left t.1.1.0 m))))
    ]
    settled (Ok (Some Full)) l h =
        let (v, t) = h.holds in
        absurd (v (newline_within bytes (rest ++ t.came) column input'.untaken l (sym (with_more t.came) ∙ t.all)))
    settled (Err Read) l h = absurd (broken h.holds.0)
    settled (Err Write) l h = absurd h.holds

-- ---- At a place of a lent block

pieces : (block : List ℕ) (place : Place) → Inside place block
    → (take place.at block ++ slice place.at place.end block) ++ drop place.end block ≡ block
pieces block place i =
    ap (λ (x : List ℕ). (x ++ slice place.at place.end block) ++ drop place.end block) (sym (take-take place.at place.end block i.ordered))
    ∙ ap (λ (x : List ℕ). x ++ drop place.end block) (take-append-drop place.at (take place.end block)) ∙ take-append-drop place.end block

-- Where no more is taken than stood there, the block and its end stay as they are.
pub stays : {block block' : List ℕ} {from to : Place} {bytes : List ℕ} → Inside from block → Inside to block'
    → (t : Taken (standing block from) bytes (standing block' to))
    → ((t.came ≡ []) × (block' ≡ block) × (to.end ≡ from.end)) ⊎ (length (standing block from).untaken < length bytes)
stays {block} {block'} {from} {to} {bytes} i j t = go t.asked
  where
    left : List ℕ
    left = slice to.at to.end block'

    go : ((t.came ≡ []) × (take to.at block' ≡ take from.at block ++ bytes) × (drop to.end block' ≡ drop from.end block))
        ⊎ (length (standing block from).untaken < length bytes)
        → ((t.came ≡ []) × (block' ≡ block) × (to.end ≡ from.end)) ⊎ (length (standing block from).untaken < length bytes)
    go (inl (none, taken, spare)) =
        let same_block : block' ≡ block =
        sym (pieces block' to j) ∙ ap (λ (x : List ℕ). (x ++ left) ++ drop to.end block') taken
        ∙ ap (λ (x : List ℕ). ((take from.at block ++ bytes) ++ left) ++ x) spare
        ∙ ap (λ (x : List ℕ). x ++ drop from.end block)
        (append_assoc (take from.at block) bytes left
        ∙ ap (λ (x : List ℕ). take from.at block ++ x)
        (sym t.all ∙ ap (λ (x : List ℕ). slice from.at from.end block ++ x) none ∙ append-nil (slice from.at from.end block)))
        ∙ pieces block from i in
        let e = ap length same_block in
        let long = length-drop from.end block in
        let long' = length-drop to.end block' in
        let same = ap length spare in
        let within = i.within in
        let within' = j.within in
        inl (none, same_block, omega arith)
    go (inr l) = inr l

-- The line is these bytes of the block, and the place after it is right after its newline.
pub record LineAtPlace (block : List ℕ) (from : Place) (bytes : List ℕ) (line : Result (Option (Line × Place)) Failure) (block' column : List ℕ)
    : Type 0 where
  pub is : line ≡ Ok (Some (Ended (length bytes), record { at = from.at + length bytes + 1; end = from.end }))
  pub kept : block' ≡ block
  pub stored : take (length bytes) column ≡ bytes

ended_length : Result (Option Line) Failure → ℕ
ended_length (Ok None) = 0
ended_length (Ok (Some (Ended n))) = n
ended_length (Ok (Some Full)) = 0
ended_length (Err f) = 0

module _ {block : List ℕ} {from : Place} (i : Inside from block) (bytes rest : List ℕ) (u : Unbroken bytes)
    (stands : (standing block from).untaken ≡ bytes ++ newline ∷ rest) {block' column : List ℕ} where
  line_at : {n : ℕ} {to : Place} → n ≤ length column → Inside to block' → ToNewline (standing block from) (take n column) (standing block' to)
      → LineAtPlace block from bytes (Ok (Some (Ended n, to))) block' column
  unfolding ended_length
  line_at {n} {to} w j (v, t) =
      let s = of_line (standing block from) bytes rest u stands w (v, t) in
      let many : n ≡ length bytes = ap ended_length s.is in
      elim (stays i j t) [
        | inl k ↦
            let before = length-take-le from.at block (let o = i.ordered in let m = i.within in omega arith) in
            let now = length-take-le to.at block' (let o = j.ordered in let m = j.within in omega arith) in
            let taken = ap length s.taken in
            let at : to.at ≡ from.at + length bytes + 1 = omega (arith, simp length-append at taken) in
            record {
              is = ap₂ (λ (m : ℕ) (p : Place). Ok (Some (Ended m, p))) many (ap₂ (λ (a z : ℕ). record { at = a; end = z }) at k.2);
              kept = k.1;
              stored = s.stored;
            }
        | inr l ↦
            let held = ap length stands in
            let long = length-take-le n column w in
            absurd (omega (arith, simp length-append at held, simp length-append at l))
      ]

  pub settled_at : (line : Result (Option (Line × Place)) Failure) → length bytes < length column → place.Took block from line block' column
      → LineAtPlace block from bytes line block' column
  settled_at (Ok None) l h = absurd (broken (standing block from) bytes rest u stands (subst Unbroken (sym h.holds) Memᴰ.not-nil))
  settled_at (Ok (Some (Ended n, to))) l h = elim h.holds.2 [
    | inl t ↦ line_at (let k = h.holds.0 in omega arith) h.holds.1 t
    | inr t ↦
        absurd (broken (standing block from) bytes rest u stands (λ m. t.1.0 (subst (Memᴰ newline) t.1.1.1 (Memᴰ.append_left t.1.1.0 m))))
  ]
  settled_at (Ok (Some (Full, to))) l h =
      let (v, t) = h.holds.1 in
      absurd (
      v (
      newline_within bytes (rest ++ t.came) column (standing block' to).untaken l
      (sym (with_more (standing block from) bytes rest u stands t.came) ∙ t.all)
      )
      )
  settled_at (Err Read) l h = absurd (broken (standing block from) bytes rest u stands h.holds)
  settled_at (Err Write) l h = absurd h.holds
