-- Rows written part by part: parts of two rows give a part of what the rows give. Assumes nothing.
use Prim.Native.Nat.{ℕ, zero, suc, ◌+◌, ◌-◌, ◌≤◌, ◌<◌, min}
use mathlib.Core.Path.{◌≡◌, refl, sym, ap, ◌∙◌}
use mathlib.Core.List.{List, [], ◌∷◌, ◌++◌, append_assoc, append-nil}
use native.Mathlib.Omega.{arith}
use lib.ListN.{length, take, drop, length-append, length-drop, drop_of_length-le}
use lib.Seq.{length-take-le, take_all, take-add, take_at, drop_at, drop-drop}
use borrow.Rule.Slice.PartMut.{put_mid}
use Rattle.model.specs.Row.{zip_with, overwritten}
use Rattle.model.proofs.Laws.Row.{overwritten_wide, zip_wide}
use Rattle.answers.specs.Outcomes.{starting_with}
use Rattle.pair_series.specs.pair_parts.Parts.{PartEnd, PartsFit}

-- a part of one row over another

over_nil : (d : List ℕ) → overwritten d [] ≡ d
unfolding overwritten
over_nil [] = refl
over_nil (x ∷ d) = refl

over_take : (n : ℕ) (d s : List ℕ) → take n (overwritten d s) ≡ overwritten (take n d) (take n s)
unfolding overwritten
over_take zero d s = refl
over_take (suc n) [] s = refl
over_take (suc n) (x ∷ d) [] = refl
over_take (suc n) (x ∷ d) (y ∷ s) = rw (over_take n d s)

over_drop : (n : ℕ) (d s : List ℕ) → drop n (overwritten d s) ≡ overwritten (drop n d) (drop n s)
unfolding overwritten
over_drop zero d s = refl
over_drop (suc n) [] s = refl
over_drop (suc n) (x ∷ d) [] = sym (over_nil (drop n d))
over_drop (suc n) (x ∷ d) (y ∷ s) = over_drop n d s

over_part : (c n : ℕ) (d s : List ℕ)
    → overwritten (take n (drop c d)) (take n (drop c s)) ≡ take n (drop c (overwritten d s))
over_part c n d s = sym (ap (take n) (over_drop c d s) ∙ over_take n (drop c d) (drop c s))

-- a part of what an operator gives

module _ (f : ℕ → ℕ → ℕ) where
  zip_nil : (x : List ℕ) → zip_with f x [] ≡ []
  unfolding zip_with
  zip_nil [] = refl
  zip_nil (a ∷ x) = refl

  zip_take : (n : ℕ) (x y : List ℕ) → take n (zip_with f x y) ≡ zip_with f (take n x) (take n y)
  unfolding zip_with
  zip_take zero x y = refl
  zip_take (suc n) [] y = refl
  zip_take (suc n) (a ∷ x) [] = refl
  zip_take (suc n) (a ∷ x) (b ∷ y) = rw (zip_take n x y)

  zip_drop : (n : ℕ) (x y : List ℕ) → drop n (zip_with f x y) ≡ zip_with f (drop n x) (drop n y)
  unfolding zip_with
  zip_drop zero x y = refl
  zip_drop (suc n) [] y = refl
  zip_drop (suc n) (a ∷ x) [] = sym (zip_nil (drop n x))
  zip_drop (suc n) (a ∷ x) (b ∷ y) = zip_drop n x y

  zip_part : (c n : ℕ) (x y : List ℕ)
      → zip_with f (take n (drop c x)) (take n (drop c y)) ≡ take n (drop c (zip_with f x y))
  zip_part c n x y = sym (ap (take n) (zip_drop c x y) ∙ zip_take n (drop c x) (drop c y))

-- d has t up to c, and behind it what stood there before

module _ (t before : List ℕ) where
  abbrev Filled : List ℕ → ℕ → Type 0
  Filled d c = d ≡ take c t ++ drop c before

  filled_long : (d : List ℕ) (c : ℕ) → length t ≤ length before → c ≤ length t → Filled d c
      → length d ≡ length before
  filled_long d c room h e =
      ap length e
      ∙ omega (
        arith,
        length-append (take c t) (drop c before),
        length-take-le c t h,
        length-drop c before,
        room,
        h,
      )

  filled_turn : (d : List ℕ) (c e : ℕ) (y : List ℕ) → c ≤ e → e ≤ length t → Filled d c
      → y ≡ take (e - c) (drop c t) → Filled (put_mid c (e - c) d y) e
  filled_turn d c e y h l ed ey =
      let len : length (take c t) ≡ c = length-take-le c t (omega (arith, h, l)) in
      let whole : c + (e - c) ≡ e = omega (arith, h) in
      let start : take c d ≡ take c t = ap (take c) ed ∙ take_at (take c t) (drop c before) c len in
      let rest : drop (e - c) (drop c d) ≡ drop e before =
      ap (drop (e - c)) (ap (drop c) ed ∙ drop_at (take c t) (drop c before) c len)
      ∙ drop-drop (e - c) c before ∙ ap (λ (n : ℕ). drop n before) whole in
      let all : take e t ≡ take c t ++ take (e - c) (drop c t) =
      ap (λ (n : ℕ). take n t) (sym whole) ∙ take-add c (e - c) t in
      ap (λ (z : List ℕ). z ++ (y ++ drop (e - c) (drop c d))) start
      ∙ ap (λ (z : List ℕ). take c t ++ (y ++ z)) rest
      ∙ ap (λ (z : List ℕ). take c t ++ (z ++ drop e before)) ey
      ∙ sym (append_assoc (take c t) (take (e - c) (drop c t)) (drop e before))
      ∙ ap (λ (z : List ℕ). z ++ drop e before) (sym all)

  filled_ends : (d : List ℕ) (c : ℕ) → c ≡ length t → Filled d c → d ≡ starting_with t before
  filled_ends d c h e =
      e ∙ rw h (ap (λ (z : List ℕ). z ++ drop (length t) before) (take_all (length t) t (omega arith)))

nothing_left : (before : List ℕ) (n : ℕ) → length before ≤ n → drop n before ≡ []
nothing_left before n h = drop_of_length-le before h

-- the loop of `put_parts`: both work rows and the row are filled up to c

pub record Parted (f : ℕ → ℕ → ℕ) (ld ls rd rs lv₀ rv₀ out₀ lv rv out : List ℕ) (c : ℕ) : Type 0 where
  pub within : c ≤ length out₀
  pub left : Filled (overwritten ld ls) lv₀ lv c
  pub right : Filled (overwritten rd rs) rv₀ rv c
  pub row : Filled (zip_with f (overwritten ld ls) (overwritten rd rs)) out₀ out c

-- `put_part`

pub part_told : (f : ℕ → ℕ → ℕ) (x y z v w : List ℕ) → z ≡ zip_with f x y → x ≡ v → y ≡ w → z ≡ zip_with f v w
part_told f x y z v w hz hx hy = hz ∙ rw (hx, hy)

-- the end of a part

pub part_end : (from p to : ℕ) → from < p → to ≡ min p (from + 128) → PartEnd from p to
part_end from p to h e = record { after = omega (arith, e); within = omega (arith, e) }

module _ (from p to : ℕ) (e : PartEnd from p to) where
  pub part_order : from ≤ to
  part_order = omega (arith, e.after)

  pub part_inside : (n : ℕ) → n ≡ p → to ≤ n
  part_inside n h = omega (arith, e.within, h)

  part_wide : (x : List ℕ) → to ≤ length x → length (take (to - from) (drop from x)) ≡ to - from
  part_wide x h = length-take-le (to - from) (drop from x) (omega (arith, length-drop from x, e.after, h))

  part_alike : (x y : List ℕ) → to ≤ length x → to ≤ length y
      → length (take (to - from) (drop from x)) ≡ length (take (to - from) (drop from y))
  part_alike x y hx hy = part_wide x hx ∙ sym (part_wide y hy)

  pub part_less : p - to < p - from
  part_less = omega (arith, e.within, e.after)

module _ (f : ℕ → ℕ → ℕ) (ld ls rd rs lv₀ rv₀ out₀ : List ℕ) where
  pub parts_start : Parted f ld ls rd rs lv₀ rv₀ out₀ lv₀ rv₀ out₀ 0
  parts_start = record { within = omega arith; left = refl; right = refl; row = refl }

  module _ (lv rv out : List ℕ) (c : ℕ) (k : Parted f ld ls rd rs lv₀ rv₀ out₀ lv rv out c)
      (fit : PartsFit ld ls rd rs lv₀ rv₀ out₀) where
    left_wide : length (overwritten ld ls) ≡ length out₀
    left_wide = overwritten_wide ld ls ∙ fit.left_dst

    right_wide : length (overwritten rd rs) ≡ length out₀
    right_wide = overwritten_wide rd rs ∙ fit.right_dst

    row_wide : length (zip_with f (overwritten ld ls) (overwritten rd rs)) ≡ length out₀
    row_wide = zip_wide f (length out₀) (overwritten ld ls) (overwritten rd rs) left_wide right_wide

    pub left_long : length lv ≡ length lv₀
    left_long =
        filled_long (overwritten ld ls) lv₀ lv c (omega (arith, left_wide, fit.left_room))
        (omega (arith, left_wide, k.within)) k.left

    pub right_long : length rv ≡ length rv₀
    right_long =
        filled_long (overwritten rd rs) rv₀ rv c (omega (arith, right_wide, fit.right_room))
        (omega (arith, right_wide, k.within)) k.right

    pub row_long : length out ≡ length out₀
    row_long =
        filled_long (zip_with f (overwritten ld ls) (overwritten rd rs)) out₀ out c (omega (arith, row_wide))
        (omega (arith, row_wide, k.within)) k.row

    module _ (e : ℕ) (he : PartEnd c (length out₀) e) where
      pub left_inside : e ≤ length lv
      left_inside = omega (arith, left_long, fit.left_room, he.within)

      pub right_inside : e ≤ length rv
      right_inside = omega (arith, right_long, fit.right_room, he.within)

      pub row_inside : e ≤ length out
      row_inside = omega (arith, row_long, he.within)

      -- a part of each is as wide as that of the row

      pub given_wide : (x : List ℕ) → length x ≡ length out₀
          → length (take (e - c) (drop c x)) ≡ length (take (e - c) (drop c out))
      given_wide x h = part_alike c (length out₀) e he x out (part_inside c (length out₀) e he (length x) h) row_inside

      pub left_alike : length (take (e - c) (drop c lv)) ≡ length (take (e - c) (drop c out))
      left_alike = part_alike c (length out₀) e he lv out left_inside row_inside

      pub right_alike : length (take (e - c) (drop c rv)) ≡ length (take (e - c) (drop c out))
      right_alike = part_alike c (length out₀) e he rv out right_inside row_inside

    pub parts_turn : (e : ℕ) → PartEnd c (length out₀) e → (x y z : List ℕ)
        → x ≡ overwritten (take (e - c) (drop c ld)) (take (e - c) (drop c ls))
        → y ≡ overwritten (take (e - c) (drop c rd)) (take (e - c) (drop c rs))
        → z ≡ zip_with f (overwritten (take (e - c) (drop c ld)) (take (e - c) (drop c ls)))
        (overwritten (take (e - c) (drop c rd)) (take (e - c) (drop c rs)))
        → Parted f ld ls rd rs lv₀ rv₀ out₀ (put_mid c (e - c) lv x) (put_mid c (e - c) rv y) (put_mid c (e - c) out z) e
    parts_turn e he x y z hx hy hz = let order : c ≤ e = part_order c (length out₀) e he in record {
      within = he.within;
      left = filled_turn (overwritten ld ls) lv₀ lv c e x order (omega (arith, left_wide, he.within))
          k.left (hx ∙ over_part c (e - c) ld ls);
      right = filled_turn (overwritten rd rs) rv₀ rv c e y order (omega (arith, right_wide, he.within))
          k.right (hy ∙ over_part c (e - c) rd rs);
      row = filled_turn (zip_with f (overwritten ld ls) (overwritten rd rs)) out₀ out c e z order
          (omega (arith, row_wide, he.within)) k.row
          (hz ∙ rw (over_part c (e - c) ld ls, over_part c (e - c) rd rs)
          (zip_part f c (e - c) (overwritten ld ls) (overwritten rd rs)));
    }

    module _ (h : length out₀ ≤ c) where
      pub left_ends : lv ≡ starting_with (overwritten ld ls) lv₀
      left_ends = filled_ends (overwritten ld ls) lv₀ lv c (omega (arith, left_wide, k.within, h)) k.left

      pub right_ends : rv ≡ starting_with (overwritten rd rs) rv₀
      right_ends = filled_ends (overwritten rd rs) rv₀ rv c (omega (arith, right_wide, k.within, h)) k.right

      pub row_ends : out ≡ zip_with f (overwritten ld ls) (overwritten rd rs)
      row_ends =
          filled_ends (zip_with f (overwritten ld ls) (overwritten rd rs)) out₀ out c
          (omega (arith, row_wide, k.within, h)) k.row
          ∙ ap (λ (z : List ℕ). zip_with f (overwritten ld ls) (overwritten rd rs) ++ z)
          (nothing_left out₀ (length (zip_with f (overwritten ld ls) (overwritten rd rs))) (omega (arith, row_wide)))
          ∙ append-nil _
