-- The loop of `in_list`, and `is_star`: each way out of them. Assumes nothing.
use Prim.Native.Nat.{ℕ, suc, ◌≤◌, ◌<◌, ◌+◌, ◌-◌}
use mathlib.Core.Path.{◌≡◌, refl, sym, ap, ◌∙◌}
use mathlib.Core.List.{List, [], ◌∷◌}
use mathlib.Core.Bool.{Bool, true, false}
use native.Mathlib.Omega.{arith}
use lib.ListN.{length, get_or, take, drop}
use Rattle.model.specs.Labels.{same_bytes}
use Rattle.model.specs.Edits.{is_listed, star, is_star}
use Rattle.fields.specs.Fields.{field_at}
use Rattle.labels.specs.Names.{names_up_to, names_of}
use Rattle.std.specs.Prelude.{Some, None}
use Rattle.std.specs.declared.option.Option.{Option}
use Rattle.fields.specs.declared.Span.{Span}
use Rattle.fields.proofs.Fields.{placed, unplaced, more}

pub list_none : (s k : List ℕ) → length s ≡ 0 → false ≡ is_listed (names_of s) k
unfolding names_of is_listed
list_none [] k h = refl
list_none (x ∷ xs) k h = absurd (omega arith)

pub names_start : (s : List ℕ) → (length s ≡ 0 → ⊥) → names_of s ≡ names_up_to (get_or s 0 0) (drop 1 s)
unfolding names_of
names_start [] h = absurd (h refl)
names_start (x ∷ xs) h = refl

pub list_start : (s k : List ℕ) → (length s ≡ 0 → ⊥)
    → is_listed (names_of s) k ≡ is_listed (names_up_to (get_or s 0 0 - 0) (drop 1 s)) k
list_start s k h = let z : get_or s 0 0 - 0 ≡ get_or s 0 0 = omega arith in rw (names_start s h, z)

-- the labels left at a place, by what the code finds there
module _ (s : List ℕ) (n p : ℕ) where
  pub no_names : n ≤ 0 → names_up_to n (drop p s) ≡ []
  unfolding names_up_to
  no_names h = let z : n ≡ 0 = omega arith in rw z

  module _ (h : 0 < n) (x : Option Span) (hx : x ≡ field_at s p) where
    pub cut_name : x ≡ None → names_up_to n (drop p s) ≡ []
    unfolding names_up_to
    cut_name ex = rw (more n h, unplaced s p x hx ex)

    pub one_name : (a : Span) → x ≡ Some a
        → names_up_to n (drop p s) ≡ take (a.end - a.start) (drop a.start s) ∷ names_up_to (n - 1) (drop a.end s)
    one_name a ex = ap (λ (m : ℕ). names_up_to m (drop p s)) (more n h) ∙ next
      where
        next : names_up_to (suc (n - 1)) (drop p s) ≡ take (a.end - a.start) (drop a.start s) ∷ names_up_to (n - 1) (drop a.end s)
        next = unfold names_up_to in rw (placed s p a.start a.end x hx ex).read

-- the loop of `in_list`, where i of n labels were passed
module _ (want : Bool) (k s : List ℕ) (n i p : ℕ) (inv : want ≡ is_listed (names_up_to (n - i) (drop p s)) k) where
  pub list_end : n ≤ i → false ≡ want
  unfolding is_listed
  list_end h = sym (inv ∙ rw (no_names s (n - i) p (omega arith)))

  module _ (h : i < n) (x : Option Span) (hx : x ≡ field_at s p) where
    some_left : 0 < n - i
    some_left = omega arith

    pub list_cut : x ≡ None → false ≡ want
    unfolding is_listed
    list_cut ex = sym (inv ∙ rw (cut_name s (n - i) p some_left x hx ex))

    module _ (a : Span) (ex : x ≡ Some a) (t : Bool) (ht : t ≡ same_bytes (take (a.end - a.start) (drop a.start s)) k) where
      pub list_hit : t ≡ true → true ≡ want
      unfolding is_listed
      list_hit et = sym (inv ∙ rw (one_name s (n - i) p some_left x hx a ex, ← ht, et))

      pub list_turn : t ≡ false → want ≡ is_listed (names_up_to (n - (i + 1)) (drop a.end s)) k
      unfolding is_listed
      list_turn et =
          let fewer : n - i - 1 ≡ n - (i + 1) = omega arith in
          inv ∙ rw (one_name s (n - i) p some_left x hx a ex, ← ht, et, fewer)

-- `is_star`, from the count and the first two labels
pub star_none : (s : List ℕ) → length s ≡ 0 → false ≡ is_star (names_of s)
unfolding names_of
star_none [] h = refl
star_none (x ∷ xs) h = absurd (omega arith)

module _ (s : List ℕ) (ne : length s ≡ 0 → ⊥) where
  pub star_zero : get_or s 0 0 ≡ 0 → false ≡ is_star (names_of s)
  star_zero h = rw (names_start s ne, no_names s (get_or s 0 0) 1 (omega arith))

  module _ (more-than : get_or s 0 0 ≡ 0 → ⊥) (x : Option Span) (hx : x ≡ field_at s 1) where
    some_names : 0 < get_or s 0 0
    some_names = omega (arith, more-than)

    pub star_cut : x ≡ None → false ≡ is_star (names_of s)
    star_cut ex = rw (names_start s ne, cut_name s (get_or s 0 0) 1 some_names x hx ex)

    module _ (a : Span) (ex : x ≡ Some a) where
      first_name : names_of s ≡ take (a.end - a.start) (drop a.start s) ∷ names_up_to (get_or s 0 0 - 1) (drop a.end s)
      first_name = names_start s ne ∙ one_name s (get_or s 0 0) 1 some_names x hx a ex

      only : names_up_to (get_or s 0 0 - 1) (drop a.end s) ≡ [] → (r : Bool) → r ≡ same_bytes (take (a.end - a.start) (drop a.start s)) star → r ≡ is_star (names_of s)
      only h r hr = rw (first_name, h) hr

      pub star_one : get_or s 0 0 ≡ 1 → (r : Bool) → r ≡ same_bytes (take (a.end - a.start) (drop a.start s)) star → r ≡ is_star (names_of s)
      star_one h = only (no_names s (get_or s 0 0 - 1) a.end (omega arith))

      module _ (not-one : get_or s 0 0 ≡ 1 → ⊥) (y : Option Span) (hy : y ≡ field_at s a.end) where
        two_names : 0 < get_or s 0 0 - 1
        two_names = omega (arith, more-than, not-one)

        pub star_two : (w : Span) → y ≡ Some w → false ≡ is_star (names_of s)
        star_two w ey = rw (first_name, one_name s (get_or s 0 0 - 1) a.end two_names y hy w ey)

        pub star_only : y ≡ None → (r : Bool) → r ≡ same_bytes (take (a.end - a.start) (drop a.start s)) star → r ≡ is_star (names_of s)
        star_only ey = only (cut_name s (get_or s 0 0 - 1) a.end two_names y hy ey)
