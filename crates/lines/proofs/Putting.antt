-- Text after text in a block: a byte, a number, a row of numbers.
use Prim.Native.Nat.{ℕ, suc, ◌+◌, ◌*◌, ◌^◌, ◌≤◌, ◌<◌}
use native.Mathlib.Nat.{add-zero, le_refl}
use native.Mathlib.Omega.{arith}
use mathlib.Core.Path.{◌≡◌, refl, sym, ap, ◌∙◌, subst}
use mathlib.Core.List.{List, [], ◌∷◌, ◌++◌, flat_map, append-nil, append_assoc}
use lib.ListN.{length, get_or, take, set, length-set, length-append}
use lib.Seq.{take_all, take-suc, take-suc-set}
use Rattle.io.specs.Digits.{last_digits, IsDigitCount}
use Rattle.theory.specs.Lines.{decimal, number_and, space, newline, row}
use Rattle.theory.proofs.Members.{flat_map_append}
use Rattle.lines.specs.Output.{number_room}
use Rattle.lines.specs.Block.{Put}
use Rattle.lines.proofs.Decimal.{decimal_digits, decimal_short}

pub put_length : (before text : List ℕ) {after : List ℕ} → after ≡ before ++ text → length after ≡ length before + length text
put_length before text e = ap length e ∙ length-append before text

pub put_nothing : {block : List ℕ} {used : ℕ} → Put [] block used block used
put_nothing {block} {used} = record { count = sym (add-zero used); stands = sym (append-nil (take used block)); same_length = refl }

one_more : (n : ℕ) → n + 1 ≡ suc n
one_more n = omega arith

pub put_byte : {text before after : List ℕ} {used used' : ℕ} (b : ℕ) → Put text before used after used' → used' < length after
    → Put (text ++ (b ∷ [])) before used (set after used' b) (used' + 1)
put_byte {text} {before} {after} {used} {used'} b p l = record {
  count = let n = p.count in let k = length-append text (b ∷ []) in omega arith;
  stands =
      ap (λ (n : ℕ). take n (set after used' b)) (one_more used') ∙ take-suc-set after used' b l ∙ ap (λ (r : List ℕ). r ++ (b ∷ [])) p.stands
      ∙ append_assoc (take used before) text (b ∷ []);
  same_length = length-set after used' b ∙ p.same_length;
}

pub put_then : {text more before between after : List ℕ} {used used' used'' : ℕ} → Put text before used between used'
    → Put more between used' after used'' → Put (text ++ more) before used after used''
put_then {text} {more} {before} {between} {after} {used} p q = record {
  count = let m = p.count in let n = q.count in let k = length-append text more in omega arith;
  stands = q.stands ∙ ap (λ (r : List ℕ). r ++ more) p.stands ∙ append_assoc (take used before) text more;
  same_length = q.same_length ∙ p.same_length;
}

-- ---- A number and a byte

-- A number and a byte, where the digits are the fewest that hold the number.
pub number_text : (n k : ℕ) (digits : List ℕ) → IsDigitCount 10 1 n k → take k digits ≡ last_digits 10 k n → take k digits ≡ decimal n
number_text n k digits f d = d ∙ decimal_digits n k f

-- They have room, and so has the byte after them.
module _ (used n after : ℕ) {digits : List ℕ} (d : digits ≡ decimal n) where
  pub digits_fit : {room : ℕ} → used + length (number_and n after) ≤ room → used + length digits ≤ room
  digits_fit r = let e = ap length d in let m = length-append (decimal n) (after ∷ []) in omega arith

  pub byte_fits : {at room : ℕ} → at ≡ used + length digits → used + length (number_and n after) ≤ room → at + 1 ≤ room
  byte_fits c r = let e = ap length d in let m = length-append (decimal n) (after ∷ []) in omega arith

-- The byte makes the number whole.
pub record Numbered (before : List ℕ) (used : ℕ) (between : List ℕ) (at n after : ℕ) : Type 0 where
  pub inside : at < length between
  pub put : Put (number_and n after) before used (set between at after) (at + 1)

pub numbered : {n after : ℕ} {text before between : List ℕ} {used at : ℕ} → text ≡ decimal n → used + length (number_and n after) ≤ length before
    → Put text before used between at → Numbered before used between at n after
numbered {n} {after} {text} {before} {between} {used} {at} e r p = record {
  inside = inside;
  put = subst (λ (t : List ℕ). Put (t ++ (after ∷ [])) before used (set between at after) (at + 1)) e (put_byte after p inside);
}
  where
    inside : at < length between
    inside = let f = byte_fits used n after e p.count r in let s = p.same_length in omega arith

pub number_short : (n after : ℕ) → n < 2 ^ 64 → length (number_and n after) ≤ number_room
number_short n after l = let d = decimal_short n 19 (omega arith) in let m = length-append (decimal n) (after ∷ []) in omega arith

pub number_long : (before : List ℕ) (n after : ℕ) {whole : List ℕ} → n < 2 ^ 64 → whole ≡ before ++ number_and n after
    → length whole ≤ length before + number_room
number_long before n after l e = let a = number_short n after l in let c = put_length before (number_and n after) e in omega arith

-- ---- A row of numbers

unfoldable pub spaced : List ℕ → ℕ → List ℕ
unfolding flat_map decimal
spaced numbers i = flat_map (λ n. number_and n space) (take i numbers)

spaced_more : (numbers : List ℕ) (i : ℕ) → i < length numbers → spaced numbers (i + 1) ≡ spaced numbers i ++ number_and (get_or numbers i 0) space
unfolding spaced flat_map
spaced_more numbers i l =
    ap (λ (xs : List ℕ). flat_map (λ n. number_and n space) xs) (ap (λ (n : ℕ). take n numbers) (one_more i) ∙ take-suc numbers i 0 l)
    ∙ flat_map_append (λ n. number_and n space) (take i numbers) (get_or numbers i 0 ∷ [])
    ∙ ap (λ (x : List ℕ). flat_map (λ n. number_and n space) (take i numbers) ++ x) (append-nil (number_and (get_or numbers i 0) space))

-- After i of so many numbers the next has its room.
pub spaced_fits : (used i n after : ℕ) {at most room : ℕ} → at ≤ used + i * number_room → n < 2 ^ 64 → i ≤ most
    → used + (most + 1) * number_room ≤ room → at + length (number_and n after) ≤ room
spaced_fits used i n after s l m r = let a = number_short n after l in omega arith

-- The first i numbers stand, each in its room.
pub record Spaced (numbers before : List ℕ) (used : ℕ) (after : List ℕ) (at i : ℕ) : Type 0 where
  pub put : Put (spaced numbers i) before used after at
  pub room : at ≤ used + i * number_room
  pub within : i ≤ length numbers

pub spaced_none : (numbers before : List ℕ) (used : ℕ) → Spaced numbers before used before used 0
unfolding spaced flat_map
spaced_none numbers before used = record { put = put_nothing; room = omega arith; within = omega arith }

module _ {numbers before between : List ℕ} {used at i : ℕ} (s : Spaced numbers before used between at i) {after : List ℕ} {at' : ℕ} where
  pub spaced_next : i < length numbers → get_or numbers i 0 < 2 ^ 64 → Put (number_and (get_or numbers i 0) space) between at after at'
      → Spaced numbers before used after at' (i + 1)
  spaced_next l m p = record {
    put = rw (spaced_more numbers i l) (put_then s.put p);
    room = let a = number_short (get_or numbers i 0) space m in let c = p.count in let r = s.room in omega arith;
    within = omega arith;
  }

  pub row_put : {last : ℕ} → length numbers ≤ i → last < 2 ^ 64 → Put (number_and last newline) between at after at'
      → Put (row numbers last) before used after at' × (at' ≤ used + (length numbers + 1) * number_room)
  unfolding row spaced
  row_put {last} l m p = (
    subst (λ (xs : List ℕ). Put (flat_map (λ n. number_and n space) xs ++ number_and last newline) before used after at') (take_all i numbers l)
        (put_then s.put p),
    let f = spaced_fits used i last newline s.room m s.within (le_refl _) in let c = p.count in omega arith,
  )
