-- Rows written over one another: one row, the rows of a group, those of marks. Assumes nothing.
use Prim.Native.Nat.{ℕ, suc, ◌+◌, ◌-◌, ◌*◌, ◌/◌, ◌%◌, ◌^◌, ◌≤◌, ◌<◌}
use mathlib.Core.Path.{◌≡◌, refl, sym, ap, ◌∙◌}
use mathlib.Core.Bool.{Bool, false}
use mathlib.Core.List.{List}
use native.Mathlib.Nat.{zero-div}
use native.Mathlib.Numerals.{add-one}
use native.Mathlib.Omega.{arith}
use mir.Syntax.{w64}
use mir.Val.{Fits}
use lib.Dec.{eqb, leb}
use lib.ListN.{length, get_or}
use lib.Pow.{shr-shr}
use borrow.Author.Tests.{eq-eqb, ne_eqb, leb-true, leb-false}
use Rattle.model.specs.Lists.{cases}
use Rattle.model.specs.Row.{overwritten}
use Rattle.model.proofs.Laws.Row.{overwritten_wide}
use Rattle.side_parts.specs.Sides.{row_at}
use Rattle.side_parts.specs.SideLaws.{row_in, row_width}
use Rattle.overwriting.specs.Overwriting.{overwritten_if, overwritten_by, in_group, row_of_several}
use Rattle.overwriting.specs.OverLaws.{over_step, wide_if, over_agree, over_none, over_split, over_wide}
use Rattle.overwriting.specs.Marks.{bit, bits_from, marked_behind, row_of_marked}
use Rattle.overwriting.specs.MarkLaws.{bit_zero}

-- a row of n lies within their readings, and is as wide as each

row_of : (i n p : ℕ) (rows : List ℕ) → i < n → n * p ≤ length rows → i * p + p ≤ length rows
row_of i n p rows h room = omega (arith, row_in i n p h)

row_long : (i n p : ℕ) (rows : List ℕ) → i < n → n * p ≤ length rows → length (row_at p rows i) ≡ p
row_long i n p rows h room = row_width p rows (row_at p rows i) i (row_of i n p rows h room) refl

-- `overwrite_if`

module _ (rows : List ℕ) (x g i : ℕ) (d : List ℕ) where
  pub if_other : (x ≡ g → ⊥) → d ≡ overwritten_if (length d) rows x g i d
  if_other h = rw (ne_eqb x g h)

  module _ (room : i * length d + length d ≤ length rows) (s : List ℕ) (hs : s ≡ row_at (length d) rows i) where
    pub if_long : length s ≡ length d
    if_long = rw hs (row_long i (suc i) (length d) rows (omega arith) (omega arith))

    pub if_over : x ≡ g → (d' : List ℕ) → d' ≡ overwritten d s → d' ≡ overwritten_if (length d) rows x g i d
    if_over h d' e = e ∙ rw (hs, eq-eqb x g h)

-- the picked rows before i are over d

pub record Overwriting (p : ℕ) (rows : List ℕ) (picked : ℕ → Bool) (to i : ℕ) (d want : List ℕ) : Type 0 where
  pub long : length d ≡ p
  pub rest : overwritten_by p rows picked i (to - i) d ≡ want

module _ (p : ℕ) (rows : List ℕ) (to i : ℕ) (d want : List ℕ) where
  pub over_row : length d ≡ p → i < to → (n : ℕ) → to ≤ n → n * p ≤ length rows → i * length d + length d ≤ length rows
  over_row l h n k room = rw l (row_of i n p rows (omega arith) room)

  module _ (f : ℕ → Bool) (inv : Overwriting p rows f to i d want) where
    over_turn : i < to → (x g : ℕ) → f i ≡ eqb x g → (d' : List ℕ) → d' ≡ overwritten_if (length d) rows x g i d
        → Overwriting p rows f to (i + 1) d' want
    over_turn h x g e d' hd = record {
      long = rw hd (wide_if (length d) rows (eqb x g) i d ∙ inv.long);
      rest =
          let n : to - i ≡ suc (to - suc i) = omega arith in
          rw (add-one i, hd, inv.long, ← e)
          (sym (over_step p rows f (to - suc i) i d) ∙ rw (← n) inv.rest);
    }

    over_ends : to ≤ i → d ≡ want
    over_ends h = sym none ∙ inv.rest
      where
        none : overwritten_by p rows f i (to - i) d ≡ d
        none = unfold overwritten_by in (let n : to - i ≡ 0 = omega arith in rw n)

-- `overwrite_between`

module _ (rows groups : List ℕ) (g : ℕ) where
  pub between_over_starts : (from to : ℕ) (d : List ℕ) → Overwriting (length d) rows (in_group groups g) to from d
      (overwritten_by (length d) rows (in_group groups g) from (to - from) d)
  between_over_starts from to d = record { long = refl; rest = refl }

  module _ (p to i : ℕ) (d want : List ℕ) (inv : Overwriting p rows (in_group groups g) to i d want) where
    pub between_over_row : i < to → to ≤ length groups → length groups * p ≤ length rows
        → i * length d + length d ≤ length rows
    between_over_row h k room = over_row p rows to i d want inv.long h (length groups) k room

    pub between_over_turn : i < to → (d' : List ℕ) → d' ≡ overwritten_if (length d) rows (get_or groups i 0) g i d
        → Overwriting p rows (in_group groups g) to (i + 1) d' want
    between_over_turn h d' e = over_turn p rows to i d want (in_group groups g) inv h (get_or groups i 0) g refl d' e

    pub between_over_ends : to ≤ i → d ≡ want
    between_over_ends h = over_ends p rows to i d want (in_group groups g) inv h

-- bits of words

bit_first : (w : ℕ) → bit w 0 ≡ eqb (w % 2) 1
unfolding bit
bit_first w = let z : w / 2 ^ 0 ≡ w = omega arith in rw z

bit_later : (w n : ℕ) → bit w (suc n) ≡ bit (w / 2) n
unfolding bit
bit_later w n =
    let z : 1 + n ≡ suc n = omega arith in
    ap (λ (x : ℕ). eqb (x % 2) 1) (sym (shr-shr w 1 n ∙ ap (λ (m : ℕ). w / 2 ^ m) z))

bit_high : (w n : ℕ) → w < 2 ^ 64 → 64 ≤ n → bit w n ≡ false
unfolding bit
bit_high w n h k =
    let z : 64 + (n - 64) ≡ n = omega arith in
    let none : w / 2 ^ 64 ≡ 0 = omega (arith, h) in
    let e : w / 2 ^ n ≡ 0 = ap (λ (m : ℕ). w / 2 ^ m) (sym z) ∙ sym (shr-shr w 64 (n - 64))
    ∙ ap (λ (x : ℕ). x / 2 ^ (n - 64)) none ∙ zero-div (2 ^ (n - 64)) in
    rw e (ne_eqb (0 % 2) 1 (λ e. omega (arith, e)))

-- `overwrite_word`: what is left of a word tells the places from i on

pub record WordOn (p : ℕ) (rows : List ℕ) (count w i : ℕ) (d want : List ℕ) : Type 0 where
  pub on : Overwriting p rows (bits_from w i) count i d want

module _ (rows : List ℕ) (count : ℕ) where
  pub word_starts : (word from : ℕ) (d : List ℕ) → WordOn (length d) rows count word from d
      (overwritten_by (length d) rows (bits_from word from) from (count - from) d)
  word_starts word from d = record { on = record { long = refl; rest = refl } }

  module _ (p w i : ℕ) (d want : List ℕ) (inv : WordOn p rows count w i d want) where
    pub word_row : i < count → count * p ≤ length rows → i * length d + length d ≤ length rows
    word_row h room = over_row p rows count i d want inv.on.long h count (omega arith) room

    pub word_turn : i < count → (d' : List ℕ) → d' ≡ overwritten_if (length d) rows (w % 2) 1 i d
        → WordOn p rows count (w / 2) (i + 1) d' want
    word_turn h d' e =
        let z : i - i ≡ 0 = omega arith in
        let first : bits_from w i i ≡ eqb (w % 2) 1 = ap (bit w) z ∙ bit_first w in
        let o = over_turn p rows count i d want (bits_from w i) inv.on h (w % 2) 1 first d' e in
        record {
          on = record {
            long = o.long;
            rest =
                sym (over_agree p rows (bits_from w i) (bits_from (w / 2) (i + 1)) (count - (i + 1)) (i + 1) d'
                (λ j l u. let n : j - i ≡ suc (j - (i + 1)) = omega arith in ap (bit w) n ∙ bit_later w (j - (i + 1))))
                ∙ o.rest;
          };
        }

    pub word_out : count ≤ i → d ≡ want
    word_out h = over_ends p rows count i d want (bits_from w i) inv.on h

    pub word_ends : w ≡ 0 → d ≡ want
    word_ends h =
        sym (over_none p rows (bits_from w i) (count - i) i d
        (λ j l u. ap (λ (x : ℕ). bit x (j - i)) h ∙ bit_zero (j - i)))
        ∙ inv.on.rest

-- `overwrite_marks`: the word k begins at the place i

pub record MarksOn (p : ℕ) (rows words : List ℕ) (o count k i : ℕ) (d want : List ℕ) : Type 0 where
  pub place : i ≡ suc o + k * 64
  pub on : Overwriting p rows (marked_behind words o) count i d want

module _ (rows words : List ℕ) (o count : ℕ) where
  pub marks_start : (d : List ℕ) → MarksOn (length d) rows words o count 0 (o + 1) d
      (overwritten_by (length d) rows (marked_behind words o) (o + 1) (count - (o + 1)) d)
  marks_start d = record { place = omega arith; on = record { long = refl; rest = refl } }

  module _ (p k i : ℕ) (d want : List ℕ) (inv : MarksOn p rows words o count k i d want) where
    pub marks_inside : i < count → count ≤ 512 → 8 ≤ length words → k < length words
    marks_inside h few long = omega (arith, inv.place)

    pub marks_room : count * p ≤ length rows → count * length d ≤ length rows
    marks_room room = rw inv.on.long room

    module _ (x : ℕ) (hx : x ≡ get_or words k 0) (d' : List ℕ)
        (hd : d' ≡ overwritten_by (length d) rows (bits_from x i) i (count - i) d) where
      abbrev bits : ℕ → ℕ → List ℕ → List ℕ
      bits j n e = overwritten_by p rows (bits_from x i) j n e

      abbrev marks : ℕ → ℕ → List ℕ → List ℕ
      marks j n e = overwritten_by p rows (marked_behind words o) j n e

      told : d' ≡ bits i (count - i) d
      told = hd ∙ ap (λ (q : ℕ). overwritten_by q rows (bits_from x i) i (count - i) d) inv.on.long

      same : (n : ℕ) → n ≤ 64 → bits i n d ≡ marks i n d
      same n h = over_agree p rows (bits_from x i) (marked_behind words o) n i d
          (λ j l u.
          let a : (j - suc o) / 64 ≡ k = omega (arith, inv.place) in
          let b : (j - suc o) % 64 ≡ j - i = omega (arith, inv.place) in
          rw (a, b, hx))

      long : length d' ≡ p
      long = rw told (over_wide p rows (bits_from x i) (count - i) i d ∙ inv.on.long)

      last : count - i ≤ 64 → marks (i + 64) (count - (i + 64)) d' ≡ want
      last h =
          let z : count - (i + 64) ≡ 0 = omega arith in
          rw z (unfold overwritten_by in (told ∙ same (count - i) h ∙ inv.on.rest))

      more : x < 2 ^ 64 → 64 < count - i → marks (i + 64) (count - (i + 64)) d' ≡ want
      more f h =
          let r = count - (i + 64) in
          let n : count - i ≡ 64 + r = omega arith in
          let none : bits (i + 64) r (bits i 64 d) ≡ bits i 64 d =
          over_none p rows (bits_from x i) r (i + 64) (bits i 64 d) (λ j l u. bit_high x (j - i) f (omega arith)) in
          let e : d' ≡ marks i 64 d =
          told ∙ ap (λ (m : ℕ). bits i m d) n ∙ over_split p rows (bits_from x i) 64 r i d ∙ none ∙ same 64 (omega arith) in
          ap (marks (i + 64) r) e ∙ sym (over_split p rows (marked_behind words o) 64 r i d)
          ∙ ap (λ (m : ℕ). marks i m d) (sym n) ∙ inv.on.rest

      pub marks_turn : Fits w64 x → MarksOn p rows words o count (k + 1) (i + 64) d' want
      marks_turn f = record {
        place = omega (arith, inv.place);
        on = record {
          long = long;
          rest =
              cases (leb (count - i) 64) (λ t. last (leb-true (count - i) 64 t))
              (λ t. more f.fits (leb-false (count - i) 64 t));
        };
      }

    pub marks_end : count ≤ i → d ≡ want
    marks_end h = over_ends p rows count i d want (marked_behind words o) inv.on h

-- `put_marked`

module _ (rows : List ℕ) (p o count : ℕ) (h : o < count) (room : count * p ≤ length rows) where
  pub marked_row_lem : o * p + p ≤ length rows
  marked_row_lem = row_of o count p rows h room

  module _ (s : List ℕ) (hs : s ≡ row_at p rows o) where
    pub marked_long : length s ≡ p
    marked_long = rw hs (row_long o count p rows h room)

    module _ (d : List ℕ) (hd : d ≡ s) where
      copied_long : length d ≡ p
      copied_long = rw hd marked_long

      pub marked_room : count * length d ≤ length rows
      marked_room = rw copied_long room

      pub marked_told : (words d' : List ℕ)
          → d' ≡ overwritten_by (length d) rows (marked_behind words o) (o + 1) (count - (o + 1)) d
          → d' ≡ row_of_marked p rows words o count
      marked_told words d' e = rw (copied_long, add-one o, hd, hs) at e

-- `put_several`

module _ (rows keys : List ℕ) (p : ℕ) (room : length keys * p ≤ length rows) (last : ℕ) (h : last < length keys) where
  pub later_row : last * p + p ≤ length rows
  later_row = row_of last (length keys) p rows h room

  pub later_long : (x : List ℕ) → x ≡ row_at p rows last → length x ≡ p
  later_long x hx = rw hx (row_long last (length keys) p rows h room)

  module _ (first : ℕ) (before : first < last) where
    pub earlier_row : first * p + p ≤ length rows
    earlier_row = row_of first (length keys) p rows (omega arith) room

    pub earlier_long : (y : List ℕ) → y ≡ row_at p rows first → length y ≡ p
    earlier_long y hy = rw hy (row_long first (length keys) p rows (omega arith) room)

  -- the later row, with the earlier over it
  module _ (first : ℕ) (x y d : List ℕ) (hx : x ≡ row_at p rows last) (hy : y ≡ row_at p rows first)
      (hd : d ≡ overwritten x y) where
    several_long : length d ≡ p
    several_long = ap length hd ∙ overwritten_wide x y ∙ later_long x hx

    pub several_room : length keys * length d ≤ length rows
    several_room = rw several_long room

    pub several_told : (d' : List ℕ)
        → d' ≡ overwritten_by (length d) rows (in_group keys (get_or keys last 0)) (first + 1) (last - (first + 1)) d
        → d' ≡ row_of_several p rows keys first last
    several_told d' e = rw (several_long, add-one first, hd, hx, hy) at e
