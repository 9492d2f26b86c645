-- The codes of a join without a clash: their places stand on both sides, and their merges succeed. Assumes nothing.
use Prim.Native.Nat.{ℕ, zero, suc, ◌+◌, ◌≤◌, ◌<◌}
use mathlib.Core.Path.{◌≡◌, refl, sym, ap, ◌∙◌}
use mathlib.Core.Bool.{Bool, true, false, cond}
use mathlib.Core.Option.{Option, none}
use mathlib.Core.List.{List, [], ◌∷◌, ◌++◌}
use native.Mathlib.Omega.{arith}
use lib.Dec.{eqb}
use lib.ListN.{length, get_or, drop, length-drop}
use lib.Seq.{drop-cons}
use Rattle.model.specs.Limits.{max_series}
use Rattle.model.specs.Lists.{All}
use Rattle.model.specs.Labels.{Labels}
use Rattle.model.specs.Query.{Side}
use Rattle.semantics.specs.Events.{Duplicate}
use Rattle.semantics.specs.Rules.{other}
use Rattle.plan.specs.Keys.{dropped}
use Rattle.plan.specs.Pairs.{no_labels}
use Rattle.plan.specs.Conclude.{or_else}
use Rattle.plan.specs.Laws.Common.{both_none}
use Rattle.plan.specs.Merging.{RowMerge, row, failed_at, merge_lead, row_of, clash}
use Rattle.plan.specs.Joins.{JoinWork, edit_of, leads_for, led_clash, leads_clash, lead_rows, row_code, many_place, one_place}
use Rattle.plan.specs.Joins.{join_clash, join_rows_from}
use Rattle.side_parts.specs.Lent.{Sides, side_labels, BothHeld}
use Rattle.join_series.specs.join_rows.Rows.{JoinCode}
use Rattle.join_plan.specs.Plans.{leads_at, first_clash, join_codes}
use Rattle.join_plan.proofs.lead_marks.Leaders.{leads_among_long}
use Rattle.join_plan.proofs.lead_marks.Marking.{labels_long}

-- lists

all_append : (P : ℕ → Type 0) (xs ys : List ℕ) → All P xs → All P ys → All P (xs ++ ys)
all_append P [] ys a b = b
all_append P (x ∷ xs) ys a b = (a.0, all_append P xs ys a.1 b)

all_at : (P : ℕ → Type 0) (xs : List ℕ) → All P xs → (i : ℕ) → i < length xs → P (get_or xs i 0)
all_at P [] a i h = absurd (omega arith)
all_at P (x ∷ xs) a zero h = a.0
all_at P (x ∷ xs) a (suc i) h = all_at P xs a.1 i (omega arith)

pub heads : {A : Type 0} (x y : A) (xs ys : List A) → x ∷ xs ≡ y ∷ ys → x ≡ y
heads x y xs ys h = cc

pub tails : {A : Type 0} (x y : A) (xs ys : List A) → x ∷ xs ≡ y ∷ ys → xs ≡ ys
tails x y xs ys h = cc

-- merges without a clash succeed
no_clash : (side : Side) (o : ℕ) (m : RowMerge) → clash side o m ≡ none → m ≡ row (row_of m)
no_clash side o (row d) h = refl
no_clash side o (failed_at i d) h = absurd (let z : ◌≡◌ {A = ℕ} 0 1 = cc in omega arith)

-- the places of a code

code_many : (m o : ℕ) → o < max_series → many_place (row_code m o) ≡ m
code_many m o h = omega arith

code_one : (m o : ℕ) → o < max_series → one_place (row_code m o) ≡ o
code_one m o h = omega arith

-- what the merges behind a code's leader come to
unfoldable pub merges_at : JoinWork → Sides → ℕ → RowMerge
merges_at w s x = merge_lead w.allowance s.shape.points s.right.rows (leads_at w s (many_place x)) (one_place x)

-- a code of a join
pub record Sound (w : JoinWork) (s : Sides) (x : ℕ) : Type 0 where
  pub places : JoinCode s x
  pub merge : merges_at w s x ≡ row (row_of (merges_at w s x))

module _ (w : JoinWork) (s : Sides) (few : length s.right.keys ≤ max_series) (m : ℕ)
    (inside : m < length s.left.keys) where
  abbrev leads : List ℕ
  leads = leads_at w s m

  abbrev merges : ℕ → RowMerge
  merges o = merge_lead w.allowance s.shape.points s.right.rows leads o

  abbrev clashes : Side → ℕ → List ℕ → Option Duplicate
  clashes side o rest = leads_clash w.allowance s.shape.points s.right.rows side leads o rest

  lead_sound : (o : ℕ) → o < length s.right.keys → merges o ≡ row (row_of (merges o)) → Sound w s (row_code m o)
  unfolding merges_at
  lead_sound o h e =
      let dm : many_place (row_code m o) ≡ m = code_many m o (omega (arith, h, few)) in
      let eo : one_place (row_code m o) ≡ o = code_one m o (omega (arith, h, few)) in
      record { places = record { many = rw dm inside; one = rw eo h }; merge = rw (dm, eo) e }

  module _ (side : Side) where
    leads_sound : (o : ℕ) (rest : List ℕ) → o + length rest ≡ length s.right.keys → clashes side o rest ≡ none
        → All (Sound w s) (lead_rows m o rest)
    unfolding leads_clash lead_rows
    leads_sound o [] e c = tt
    leads_sound o (x ∷ rest) e c = go (eqb x o) (leads_sound (suc o) rest (omega (arith, e))) c
      where
        go : (b : Bool) → (clashes side (suc o) rest ≡ none → All (Sound w s) (lead_rows m (suc o) rest))
            → or_else (cond b (clash side o (merges o)) none) (clashes side (suc o) rest) ≡ none
            → All (Sound w s) (cond b (row_code m o ∷ lead_rows m (suc o) rest) (lead_rows m (suc o) rest))
        go true ih h =
            let both = both_none (clash side o (merges o)) (clashes side (suc o) rest) h in
            (lead_sound o (omega (arith, e)) (no_clash side o (merges o) both.0), ih both.1)
        go false ih h = ih h

-- all rows of a join

module _ (w : JoinWork) (many : Side) (s : Sides) (held : BothHeld s) where
  abbrev mk : List ℕ
  mk = s.left.keys

  abbrev ml : List Labels
  ml = side_labels s.left

  place_sound : (m : ℕ) → m < length mk → led_clash w.allowance (other many) s (leads_at w s m) ≡ none
      → All (Sound w s) (lead_rows m 0 (leads_at w s m))
  place_sound m h c =
      let labels = labels_long s.right.array s.right.at s.right.keys held.right.count in
      let e = leads_among_long (edit_of w) (get_or ml m no_labels) (get_or mk m 0) s.right.keys (side_labels s.right)
      s.right.keys
      (side_labels s.right) (sym labels) in
      leads_sound w s held.right.rows.few m h (other many) 0 (leads_at w s m) (omega (arith, e)) c

  rows_from_sound : (m : ℕ) (ks : List ℕ) (ls : List Labels) → ks ≡ drop m mk → ls ≡ drop m ml
      → join_clash w many s ks ls ≡ none
      → All (Sound w s) (join_rows_from w s m ks ls)
  unfolding join_clash join_rows_from
  rows_from_sound m [] ls hk hl c = tt
  rows_from_sound m (x ∷ ks) [] hk hl c = tt
  rows_from_sound m (x ∷ ks) (l ∷ ls) hk hl c =
      let both = both_none (cond (eqb x dropped) none (led_clash w.allowance (other many) s (leads_for w s l x)))
      (join_clash w many s ks ls) c in
      all_append (Sound w s) (cond (eqb x dropped) [] (lead_rows m 0 (leads_for w s l x)))
      (join_rows_from w s (suc m) ks ls)
      (here (eqb x dropped) both.0)
      (rows_from_sound (suc m) ks ls (tails x (get_or mk m 0) ks (drop (suc m) mk) key_cons)
      (tails l (get_or ml m no_labels) ls (drop (suc m) ml) label_cons) both.1)
    where
      inside : m < length mk
      inside = omega (arith, ap length hk, length-drop m mk)

      key_cons : x ∷ ks ≡ get_or mk m 0 ∷ drop (suc m) mk
      key_cons = hk ∙ drop-cons mk m 0 inside

      label_cons : l ∷ ls ≡ get_or ml m no_labels ∷ drop (suc m) ml
      label_cons = hl ∙ drop-cons ml m no_labels
          (omega (arith, inside, labels_long s.left.array s.left.at mk held.left.count))

      led : leads_for w s l x ≡ leads_at w s m
      led = rw (
        heads x (get_or mk m 0) ks (drop (suc m) mk) key_cons,
        heads l (get_or ml m no_labels) ls (drop (suc m) ml)
            label_cons,
      )

      here : (b : Bool) → cond b none (led_clash w.allowance (other many) s (leads_for w s l x)) ≡ none
          → All (Sound w s) (cond b [] (lead_rows m 0 (leads_for w s l x)))
      here true h = tt
      here false h = rw led (place_sound m inside (rw led at h))

  pub rows_sound : first_clash w many s ≡ none → (i : ℕ) → i < length (join_codes w s)
      → Sound w s (get_or (join_codes w s) i 0)
  rows_sound c i h = all_at (Sound w s) (join_codes w s) (rows_from_sound 0 mk ml refl refl c) i h
