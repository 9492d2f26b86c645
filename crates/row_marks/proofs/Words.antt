-- Words of marks: made, put and read. Assumes nothing.
use Prim.Native.Nat.{ℕ, min, zero, suc, ◌+◌, ◌-◌, ◌*◌, ◌/◌, ◌%◌, ◌^◌, ◌≤◌, ◌<◌}
use mathlib.Core.Path.{◌≡◌, refl, sym, ap, ◌∙◌}
use mathlib.Core.Bool.{Bool, true, false, ◌&&◌, cond}
use mathlib.Core.List.{List, [], ◌∷◌}
use native.Mathlib.Nat.{pow-suc, pow-zero}
use native.Mathlib.Omega.{arith}
use mir.Syntax.{w64}
use mir.Val.{Fits, bool_byte}
use lib.Dec.{eqb, ltb}
use lib.Pow.{shr-shr}
use lib.ListN.{length, get_or, take, drop, set, length-set, length-take, length-drop}
use lib.Seq.{drop-cons, drop-length, get_or-set_same, get_or-set_other, get_or-take, get_or-drop}
use borrow.Author.Tests.{eq-eqb, ne_eqb, ltb-true, ltb-false}
use Rattle.std.specs.Prelude.{IsTrue, EachIndex, ◌↔◌}
use Rattle.model.specs.Lists.{cases}
use Rattle.overwriting.specs.Marks.{bit}
use Rattle.row_marks.specs.Words.{unmarked, word_of, ChangedIn}
use Rattle.row_marks.specs.WordLaws.{bit_zero, unmarked_word}

-- `word_of`

at_most : (b : Bool) → cond b 1 0 ≤ 1
at_most true = omega arith
at_most false = omega arith

word_below : (o k : ℕ) (leads : List ℕ) → length leads ≤ k → word_of o leads < 2 ^ k
unfolding word_of
word_below o zero [] h = rw pow-zero (omega arith)
word_below o zero (x ∷ leads) h = absurd (omega arith)
word_below o (suc k) [] h = let z = word_below o k [] (omega arith) in rw (pow-suc 2 k) (omega (arith, z))
word_below o (suc k) (x ∷ leads) h =
    let z = word_below o k leads (omega arith) in rw (pow-suc 2 k) (omega (arith, z, at_most (eqb x o)))

pub word_fits : (o : ℕ) (leads : List ℕ) → length leads ≤ 64 → Fits w64 (word_of o leads)
word_fits o leads h = record { fits = word_below o 64 leads h }

word_none : (o : ℕ) → word_of o [] ≡ 0
unfolding word_of
word_none o = refl

bit_is : (b : Bool) → bool_byte b ≡ cond b 1 0
bit_is true = refl
bit_is false = refl

word_cons : (o x : ℕ) (leads : List ℕ) → word_of o (x ∷ leads) ≡ word_of o leads * 2 + cond (eqb x o) 1 0
unfolding word_of
word_cons o x leads = refl

-- the leads from i on are in the word
pub record WordSoFar (leads : List ℕ) (o word i : ℕ) : Type 0 where
  pub within : i ≤ length leads
  pub is : word ≡ word_of o (drop i leads)

module _ (leads : List ℕ) (o : ℕ) where
  pub word_starts : WordSoFar leads o 0 (length leads)
  word_starts = record { within = omega arith; is = rw (drop-length leads) (sym (word_none o)) }

  module _ (word i : ℕ) (inv : WordSoFar leads o word i) (h : 0 < i) where
    word_step : (x : ℕ) → x ≡ bool_byte (eqb (get_or leads (i - 1) 0) o) → word * 2 + x ≡ word_of o (drop (i - 1) leads)
    word_step x e =
        let n : suc (i - 1) ≡ i = omega arith in
        rw (
          drop-cons leads (i - 1) 0 (omega (arith, inv.within)),
          word_cons o (get_or leads (i - 1) 0) (drop (suc (i - 1)) leads),
          n,
          ← inv.is,
          e,
          bit_is,
        )

    pub word_turn : (x : ℕ) → x ≡ bool_byte (eqb (get_or leads (i - 1) 0) o) → WordSoFar leads o (word * 2 + x) (i - 1)
    word_turn x e = record { within = omega (arith, inv.within); is = word_step x e }

    module _ (few : length leads ≤ 64) where
      pub sum_fits : (x : ℕ) → x ≡ bool_byte (eqb (get_or leads (i - 1) 0) o) → Fits w64 (word * 2 + x)
      sum_fits x e = rw (word_step x e) (word_fits o (drop (i - 1) leads) (omega (arith, length-drop (i - 1) leads)))

      pub double_fits : Fits w64 (word * 2)
      double_fits = let z = sum_fits (bool_byte (eqb (get_or leads (i - 1) 0) o)) refl in omega (arith, z)

-- the bits of a word

bit_low : (w x : ℕ) (b : Bool) → x ≡ cond b 1 0 → eqb ((w * 2 + x) / 2 ^ 0 % 2) 1 ≡ b
bit_low w x true e = rw pow-zero (eq-eqb ((w * 2 + x) / 1 % 2) 1 (omega (arith, e)))
bit_low w x false e = rw pow-zero (ne_eqb ((w * 2 + x) / 1 % 2) 1 (λ f. omega (arith, e, f)))

bit_high : (w x n : ℕ) → x ≤ 1 → (w * 2 + x) / 2 ^ suc n ≡ w / 2 ^ n
bit_high w x n h =
    let a : 1 + n ≡ suc n = omega arith in
    let b : (w * 2 + x) / 2 ^ 1 ≡ w = half in
    rw (← a, ← shr-shr (w * 2 + x) 1 n, b)
  where
    half : (w * 2 + x) / 2 ^ 1 ≡ w
    half = let z : 2 ^ 1 ≡ 2 = refl in rw z (omega (arith, h))

pub word_bit : (o : ℕ) (leads : List ℕ) (n : ℕ) → n < length leads → bit (word_of o leads) n ≡ eqb (get_or leads n 0) o
unfolding bit word_of
word_bit o [] n h = absurd (omega arith)
word_bit o (x ∷ leads) zero h = bit_low (word_of o leads) (cond (eqb x o) 1 0) (eqb x o) refl
word_bit o (x ∷ leads) (suc n) h =
    rw (bit_high (word_of o leads) (cond (eqb x o) 1 0) n (at_most (eqb x o))) (word_bit o leads n (omega arith))

word_above : (o : ℕ) (leads : List ℕ) (n : ℕ) → length leads ≤ n → bit (word_of o leads) n ≡ false
unfolding bit word_of
word_above o [] n h = bit_zero n
word_above o (x ∷ leads) zero h = absurd (omega arith)
word_above o (x ∷ leads) (suc n) h =
    rw (bit_high (word_of o leads) (cond (eqb x o) 1 0) n (at_most (eqb x o))) (word_above o leads n (omega arith))

-- the bits of the next 64 leads from a place on, or of those that are left
word_at : (o : ℕ) (leads : List ℕ) (j to n : ℕ) → to ≡ min (length leads) (64 * (j + 1)) → n < 64
    → bit (word_of o (take (to - 64 * j) (drop (64 * j) leads))) n
    ≡ (ltb (64 * j + n) (length leads) && eqb (get_or leads (64 * j + n) 0) o)
word_at o leads j to n ht h =
    cases (ltb (64 * j + n) (length leads))
    (λ e. (let l = ltb-true (64 * j + n) (length leads) e in rw e
    (word_bit o (take (to - 64 * j) (drop (64 * j) leads)) n (long l)
    ∙ ap (λ y. eqb y o) (get_or-take (to - 64 * j) (drop (64 * j) leads) n 0 (omega (arith, ht, l))
    ∙ get_or-drop (64 * j) leads n 0))))
    (λ e. (let l = ltb-false (64 * j + n) (length leads) e in rw e
    (word_above o (take (to - 64 * j) (drop (64 * j) leads)) n (short l))))
  where
    long : 64 * j + n < length leads → n < length (take (to - 64 * j) (drop (64 * j) leads))
    long l = simp (length-take, length-drop) (omega (arith, ht, l, h))

    short : length leads ≤ 64 * j + n → length (take (to - 64 * j) (drop (64 * j) leads)) ≤ n
    short l = simp (length-take, length-drop) (omega (arith, l, h))

-- `put_words`: the first j words are put

pub record Putting (leads : List ℕ) (o at : ℕ) (before after : List ℕ) (j : ℕ) : Type 0 where
  pub frame : ChangedIn at (at + j) before after
  pub marks : (i : ℕ) → i / 64 < j → at + i / 64 < length before
      → bit (get_or after (at + i / 64) 0) (i % 64) ≡ (ltb i (length leads) && eqb (get_or leads i 0) o)

module _ (leads : List ℕ) (o at : ℕ) (before : List ℕ) where
  module _ (after : List ℕ) (j : ℕ) (inv : Putting leads o at before after j) where
    module _ (to : ℕ) (ht : to ≡ min (length leads) (64 * (j + 1))) (x : ℕ)
        (hx : x ≡ word_of o (take (to - 64 * j) (drop (64 * j) leads))) (later : List ℕ)
        (hl : later ≡ set after (at + j) x) where
      other : (i : ℕ) → (i ≡ at + j → ⊥) → get_or later i 0 ≡ get_or after i 0
      other i n = ap (λ (l : List ℕ). get_or l i 0) hl ∙ get_or-set_other after (at + j) i x 0 n

      here : at + j < length before → get_or later (at + j) 0 ≡ word_of o (take (to - 64 * j) (drop (64 * j) leads))
      here r = ap (λ (l : List ℕ). get_or l (at + j) 0) hl
          ∙ get_or-set_same after (at + j) x 0 (omega (arith, r, inv.frame.long)) ∙ hx

      marked : (i : ℕ) → i / 64 < j + 1 → at + i / 64 < length before
          → bit (get_or later (at + i / 64) 0) (i % 64) ≡ (ltb i (length leads) && eqb (get_or leads i 0) o)
      marked i a r =
          cases (ltb (i / 64) j)
          (λ e. (let l = ltb-true (i / 64) j e in
          rw (other (at + i / 64) (λ z. omega (arith, z, l))) (inv.marks i l r)))
          (λ e. new (ltb-false (i / 64) j e))
        where
          new : j ≤ i / 64
              → bit (get_or later (at + i / 64) 0) (i % 64) ≡ (ltb i (length leads) && eqb (get_or leads i 0) o)
          new l =
              let d : i / 64 ≡ j = omega (arith, l, a) in
              let s : 64 * j + i % 64 ≡ i = omega (arith, d) in
              ap (λ y. bit y (i % 64)) (ap (λ y. get_or later (at + y) 0) d ∙ here (omega (arith, r, d)))
              ∙ word_at o leads j to (i % 64) ht (omega arith)
              ∙ ap (λ y. ltb y (length leads) && eqb (get_or leads y 0) o) s

      pub putting_turn : Putting leads o at before later (j + 1)
      putting_turn = record {
        frame = record {
          long = ap length hl ∙ length-set after (at + j) x ∙ inv.frame.long;
          below = λ i a. other i (λ z. omega (arith, z, a)) ∙ inv.frame.below i a;
          above = λ i a. other i (λ z. omega (arith, z, a)) ∙ inv.frame.above i (omega (arith, a));
        };
        marks = marked;
      }

-- `none_marked`

unmarked_all : (words : List ℕ) → ((j : ℕ) → j < length words → get_or words j 0 ≡ 0) → unmarked words ≡ true
unfolding unmarked
unmarked_all [] h = refl
unmarked_all (x ∷ words) h = rw (eq-eqb x 0 (h 0 (omega arith))) (unmarked_all words (λ j l. h (suc j) (omega arith)))

pub none_told : (r : Bool) (words : List ℕ) → (IsTrue r ↔ EachIndex words (λ j. get_or words j 0 ≡ 0)) → r ≡ unmarked words
none_told true words h = sym (unmarked_all words (h.0 refl))
none_told false words h =
    cases (unmarked words) (λ e. h.1 (λ j l. unmarked_word words j e) ∙ sym e) (λ e. sym e)
