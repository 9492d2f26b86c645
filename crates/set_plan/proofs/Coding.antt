-- The codes of a set operator's rows: each has its row and its record, and its series is the answer's. Assumes nothing.
use Prim.Native.Nat.{ℕ, zero, suc, ◌+◌, ◌≤◌, ◌<◌}
use mathlib.Core.Path.{◌≡◌, refl, ap, ◌∙◌}
use mathlib.Core.Bool.{Bool, true, false, ◌&&◌, cond}
use mathlib.Core.List.{List, [], ◌∷◌, map}
use native.Mathlib.Omega.{arith}
use lib.Dec.{eqb, ltb}
use lib.ListN.{length, get_or, length-map}
use borrow.Author.Tests.{lt-ltb, ltb-true}
use Rattle.operator.specs.Kinds.{Kind, arithmetic, comparison, set_rule, fallback, not_carried}
use Rattle.model.specs.Lists.{cases, All, is_empty}
use Rattle.model.specs.Labels.{Labels}
use Rattle.model.proofs.Laws.Booleans.{never}
use Rattle.model.proofs.Laws.Lists.{All-append, map_map, map_at}
use Rattle.plan.specs.Keys.{first_of}
use Rattle.plan.specs.Sets.{SetWork, is_scalar, work_by, rule_by, work_for, met_places, answers_at}
use Rattle.plan.specs.Sets.{lefts_from, rights_from, set_rows, set_series}
use Rattle.plan.specs.Laws.Sets.{rule_by_lem}
use Rattle.plan.specs.Laws.Sides.{labels_many}
use Rattle.side_parts.specs.Lent.{Sides, BothHeld, side_labels}
use Rattle.end_codes.specs.Codes.{codes, side_first, side_last, both_left, both_right}
use Rattle.key_ends.specs.Ends.{ends_code, code_small, EndsOf, side_first_lem, side_last_lem}
use Rattle.index_lists.specs.Places.{coded_met}
use Rattle.index_lists.proofs.Meeting.{met_fallen, met_kept}
use Rattle.set_records.specs.Records.{row_place}
use Rattle.set_series.specs.Series.{SetCode, coded_places, coded_set_series}
use Rattle.set_plan.specs.Codes.{met_code, set_code, set_codes}
use Rattle.set_plan.specs.set_listing.Lists.{SetHeld}

-- what a left series meets, by the code of its ends

module _ (falls : Bool) (keys : List ℕ) (few : length keys ≤ 512) (k : ℕ) where
  own_ends : EndsOf keys k (ends_code keys k)
  own_ends = record { few = few; code = refl }

  pub met_small : met_code falls keys k < codes
  met_small =
      cases (eqb (side_first (ends_code keys k)) (length keys) && falls)
      (λ t. rw t (omega arith))
      (λ t. rw t (code_small keys few k))

  pub met_code_lem : (falls ≡ true → 0 < length keys)
      → coded_met keys (side_first (met_code falls keys k)) (side_last (met_code falls keys k)) ≡ met_places falls keys k
  met_code_lem some =
      cases (eqb (side_first (ends_code keys k)) (length keys) && falls)
      (λ t.
      let so = falls_so (eqb (side_first (ends_code keys k)) (length keys)) falls t in
      rw t (met_fallen keys k falls (rw (← own) t) (some so)))
      (λ t.
      let last = side_last_lem keys k (ends_code keys k) own_ends in
      rw t (met_kept keys k falls (rw (← own) t) _ _ (record { first_place_lem = own; last_place = last })))
    where
      own : side_first (ends_code keys k) ≡ first_of keys k
      own = side_first_lem keys k (ends_code keys k) own_ends

      falls_so : (a b : Bool) → (a && b) ≡ true → b ≡ true
      falls_so true true h = refl
      falls_so true false h = never h
      falls_so false b h = never h

-- each row is one of both sides

module _ (n : ℕ) where
  below_if : (t : Bool) (x : ℕ) (xs : List ℕ) → x < n → All (λ y. y < n) xs → All (λ y. y < n) (cond t (x ∷ xs) xs)
  below_if true x xs h b = (h, b)
  below_if false x xs h b = b

  lefts_below : (w : SetWork) (s : Sides) (i : ℕ) (rest : List ℕ) → i + length rest ≤ n
      → All (λ y. y < n) (lefts_from w s i rest)
  unfolding lefts_from
  lefts_below w s i [] h = tt
  lefts_below w s i (k ∷ rest) h =
      below_if (answers_at w s i k) i (lefts_from w s (suc i) rest) (omega arith)
      (lefts_below w s (suc i) rest (omega arith))

  rights_below : (lkeys : List ℕ) (j : ℕ) (rest : List ℕ) → length lkeys + (j + length rest) ≤ n
      → All (λ y. y < n) (rights_from lkeys j rest)
  unfolding rights_from
  rights_below lkeys j [] h = tt
  rights_below lkeys j (k ∷ rest) h =
      below_if (eqb (first_of lkeys k) (length lkeys)) (length lkeys + j) (rights_from lkeys (suc j) rest) (omega arith)
      (rights_below lkeys (suc j) rest (omega arith))

abbrev row_count : Sides → ℕ
row_count s = length s.left.keys + length s.right.keys

rows_below : (w : SetWork) (s : Sides) → All (λ x. x < row_count s) (set_rows w s)
rows_below w s =
    All-append (λ x. x < row_count s) (lefts_from w s 0 s.left.keys)
    (cond w.adds (rights_from s.left.keys 0 s.right.keys) [])
    (lefts_below (row_count s) w s 0 s.left.keys (omega arith)) (go w.adds)
  where
    go : (b : Bool) → All (λ x. x < row_count s) (cond b (rights_from s.left.keys 0 s.right.keys) [])
    go true = rights_below (row_count s) s.left.keys 0 s.right.keys (omega arith)
    go false = tt

-- a row's code tells its place, and what a left series meets

module _ (w : SetWork) (s : Sides) (held : SetHeld w.falls s) (x : ℕ) where
  ends_small : (b : Bool) → cond b (met_code w.falls s.right.keys (get_or s.left.keys x 0)) 0 < codes
  ends_small true = met_small w.falls s.right.keys held.rows.right.few (get_or s.left.keys x 0)
  ends_small false = omega arith

  pub code_place : x < row_count s → row_place (set_code w s x) ≡ x
  unfolding set_code
  code_place h =
      let few : x < 1024 = omega (arith, h, held.rows.left.few, held.rows.right.few) in
      ap side_last (both_left x _ (ends_small (ltb x (length s.left.keys)))) ∙ (omega arith)

  code_met : x < length s.left.keys
      → coded_places s (set_code w s x) ≡ met_places w.falls s.right.keys (get_or s.left.keys x 0)
  unfolding set_code
  code_met h =
      ap (λ e. coded_met s.right.keys (side_first e) (side_last e))
      (both_right x _ (ends_small (ltb x (length s.left.keys))))
      ∙ rw (lt-ltb x (length s.left.keys) h)
      (met_code_lem w.falls s.right.keys held.rows.right.few (get_or s.left.keys x 0) held.some)

  code_series : x < row_count s → coded_set_series w.rule s (set_code w s x) ≡ set_series w s x
  unfolding set_series
  code_series h =
      cases (ltb x (length s.left.keys))
      (λ t. rw (code_place h, t, code_met (ltb-true x (length s.left.keys) t)))
      (λ t. rw (code_place h, t))

-- what an operator asks of two sides that are held

falls_scalar : (k : Kind) (scalar empty : Bool) → (work_by k scalar empty).falls ≡ true → scalar ≡ true
falls_scalar (set_rule rule) scalar empty h = never h
falls_scalar (fallback rule) scalar empty h = h
falls_scalar (arithmetic a) scalar empty h = h
falls_scalar (comparison c) scalar empty h = h
falls_scalar not_carried scalar empty h = h

scalar_some : (ls : List Labels) → is_scalar ls ≡ true → 0 < length ls
scalar_some [] h = never h
scalar_some (l ∷ ls) h = omega arith

each_at : (P : ℕ → Type 0) (xs : List ℕ) → All P xs → (i : ℕ) → i < length xs → P (get_or xs i 0)
each_at P [] a i h = absurd (omega arith)
each_at P (x ∷ xs) a zero h = a.0
each_at P (x ∷ xs) a (suc i) h = each_at P xs a.1 i (omega arith)

map_same : {A : Type 0} (P : ℕ → Type 0) (f g : ℕ → A) (xs : List ℕ) → All P xs
    → ((x : ℕ) → P x → f x ≡ g x) → map f xs ≡ map g xs
map_same P f g [] a h = refl
map_same P f g (x ∷ xs) a h = rw (h x a.0, map_same P f g xs a.1 h)

module _ (kind : Kind) (s : Sides) (held : BothHeld s) where
  pub set_held : SetHeld (work_for kind s).falls s
  set_held = record {
    rows = record { left = held.left.rows; right = held.right.rows };
    some = λ h.
        let scalar = falls_scalar kind (is_scalar (side_labels s.right)) (is_empty s.left.keys) h in
        omega (
          arith,
          scalar_some (side_labels s.right) scalar,
          labels_many s.shape.points s.right held.right,
        );
  }

  -- as many codes as rows
  pub codes_count : length (set_codes (work_for kind s) s) ≡ length (set_rows (work_for kind s) s)
  codes_count = length-map (set_rows (work_for kind s) s) (set_code (work_for kind s) s)

  -- each code has the place of its row, which is one of both sides
  module _ (i : ℕ) (h : i < length (set_codes (work_for kind s) s)) where
    code_below : row_place (get_or (set_codes (work_for kind s) s) i 0) < row_count s
    code_below =
        let k : i < length (set_rows (work_for kind s) s) = omega (arith, codes_count) in
        let b = each_at (λ x. x < row_count s) (set_rows (work_for kind s) s) (rows_below (work_for kind s) s) i k in
        let at = map_at (set_code (work_for kind s) s) (set_rows (work_for kind s) s) i 0 0 k in
        rw (at, code_place (work_for kind s) s set_held _ b) b

    pub code_row : SetCode s (get_or (set_codes (work_for kind s) s) i 0)
    code_row = record { below = code_below }

  -- the codes' series are the answer's
  pub codes_series : map (coded_set_series (rule_by kind) s) (set_codes (work_for kind s) s)
      ≡ map (set_series (work_for kind s) s) (set_rows (work_for kind s) s)
  codes_series =
      rw (← rule_by_lem kind (is_scalar (side_labels s.right)) (is_empty s.left.keys), map_map)
      (map_same (λ x. x < row_count s) _ _ (set_rows (work_for kind s) s) (rows_below (work_for kind s) s)
      (λ x h. code_series (work_for kind s) s set_held x h))
