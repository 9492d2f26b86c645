-- Set rules by key numbers: the right series that a left one meets, and the answer series. Assumes nothing.
use Rattle.std.specs.Prelude.{ℕ, suc, ◌+◌, ◌-◌, ◌*◌, Bool, true, false, not, ◌&&◌, cond, List, [], ◌∷◌, ◌++◌, map, eqb, ltb, length, get_or}
use Rattle.std.proofs.Math.Option.{Option, none, some}
use Rattle.operator.specs.Kinds.{SetRule, where_found, where_none, filled, Kind, arithmetic, comparison, set_rule, fallback, not_carried}
use Rattle.model.specs.Lists.{is_empty}
use Rattle.model.specs.Reading.{missing, no_reading}
use Rattle.model.specs.Row.{only_missing}
use Rattle.model.specs.Labels.{Labels}
use Rattle.model.specs.Vector.{Series}
use Rattle.semantics.specs.Binop.{is_bare, pointwise, adds}
use Rattle.semantics.specs.Call.{Outcome, fit}
use Rattle.plan.specs.Keys.{first_of}
use Rattle.side_parts.specs.Sides.{row_at}
use Rattle.side_parts.specs.Lent.{Sides, side_labels}
use Rattle.plan.specs.Pairs.{no_labels}

-- what the set operators differ in: the rule on readings; whether an unmatched left series falls back to the right side's only
-- one; whether unmatched right series are added
pub record SetWork : Type 0 where
  pub rule : SetRule
  pub falls : Bool
  pub adds : Bool

-- 01: `or` adds unmatched right; `default` with no left returns the right. `adding` where the sides allow it
abbrev pub set_work : SetRule → Bool → Bool → SetWork
set_work rule falls adding = record { rule = rule; falls = falls; adds = adds rule && adding }

-- 01: one series without name and tags
abbrev pub is_scalar : List Labels → Bool
is_scalar [] = false
is_scalar (l ∷ []) = is_bare l
is_scalar (l ∷ m ∷ ls) = false

-- 01: `if`, `ifnot`, `default` fall back to a right side of one series without name and tags; no other operator does.
-- What an operator of a kind does, by whether the right side is a scalar and the left one has no series. Those that are no set
-- operators as `default`.
abbrev pub work_by : Kind → Bool → Bool → SetWork
work_by (set_rule rule) scalar empty = set_work rule false true
work_by (fallback rule) scalar empty = set_work rule scalar empty
work_by (arithmetic a) scalar empty = set_work filled scalar empty
work_by (comparison c) scalar empty = set_work filled scalar empty
work_by not_carried scalar empty = set_work filled scalar empty

-- the rule of an operator, whatever its sides
abbrev pub rule_by : Kind → SetRule
rule_by kind = (work_by kind false false).rule

-- what it does on two sides
abbrev pub work_for : Kind → Sides → SetWork
work_for kind s = work_by kind (is_scalar (side_labels s.right)) (is_empty s.left.keys)

-- the places of the key k, from the place i on
unfoldable pub places_of : ℕ → ℕ → List ℕ → List ℕ
places_of k i [] = []
places_of k i (x ∷ xs) = cond (eqb x k) (i ∷ places_of k (suc i) xs) (places_of k (suc i) xs)

-- the right places that a left series of the key k meets
abbrev pub met_places : Bool → List ℕ → ℕ → List ℕ
met_places falls keys k = cond (is_empty (places_of k 0 keys) && falls) (0 ∷ []) (places_of k 0 keys)

-- a reading of a right series, and the place of the series
pub record Hit : Type 0 where
  pub place : ℕ
  pub reading : ℕ

-- 01: The search over right series stops at the first reading found. At the point i.
unfoldable pub first_at : ℕ → List ℕ → ℕ → List ℕ → Option Hit
first_at p rows i [] = none
first_at p rows i (j ∷ places) =
    cond (missing (get_or rows (j * p + i) no_reading))
    (first_at p rows i places)
    (some (record { place = j; reading = get_or rows (j * p + i) no_reading }))

-- 01: `and`, `if` keep the left reading if one has a reading; `unless`, `ifnot` if none has; `or`, `default` fill N from the first that has.
abbrev pub set_point : SetRule → Option Hit → ℕ → ℕ
set_point where_found none x = no_reading
set_point where_found (some h) x = x
set_point where_none none x = x
set_point where_none (some h) x = no_reading
set_point filled none x = x
set_point filled (some h) x = cond (missing x) h.reading x

unfoldable pub set_row : SetRule → ℕ → List ℕ → List ℕ → List ℕ → List ℕ
set_row rule p rows places x = pointwise (λ i. set_point rule (first_at p rows i places)) 0 x

abbrev pub needs_match : SetRule → Bool
needs_match where_found = true
needs_match where_none = false
needs_match filled = false

abbrev pub drops_empty : SetRule → Bool
drops_empty where_found = true
drops_empty where_none = true
drops_empty filled = false

-- the answer row of a left row that meets the right places
abbrev pub left_row : SetRule → ℕ → List ℕ → List ℕ → List ℕ → List ℕ
left_row rule p rows places x = cond (is_empty places) x (set_row rule p rows places x)

-- 01: Unmatched left: dropped by `and`, `if`, else kept. Matched series left with only N go, for the first four.
abbrev pub left_answers : SetRule → ℕ → List ℕ → List ℕ → List ℕ → Bool
left_answers rule p rows places x =
    cond (is_empty places) (not (needs_match rule)) (not (drops_empty rule && only_missing (set_row rule p rows places x)))

-- whether the left series i, of the key k, is in the answer
abbrev pub answers_at : SetWork → Sides → ℕ → ℕ → Bool
answers_at w s i k =
    left_answers w.rule s.shape.points s.right.rows (met_places w.falls s.right.keys k)
    (row_at s.shape.points s.left.rows i)

-- the left places in the answer, of those from i on, whose keys are `rest`
unfoldable pub lefts_from : SetWork → Sides → ℕ → List ℕ → List ℕ
lefts_from w s i [] = []
lefts_from w s i (k ∷ rest) = cond (answers_at w s i k) (i ∷ lefts_from w s (suc i) rest) (lefts_from w s (suc i) rest)

-- the right places whose key no left series has, counted behind the left ones
unfoldable pub rights_from : List ℕ → ℕ → List ℕ → List ℕ
rights_from left_keys j [] = []
rights_from left_keys j (k ∷ rest) =
    cond (eqb (first_of left_keys k) (length left_keys)) ((length left_keys + j) ∷ rights_from left_keys (suc j) rest) (rights_from left_keys (suc j) rest)

-- 01: Others: left places, then right. A row is a left place, or a right one counted behind the left ones.
abbrev pub set_rows : SetWork → Sides → List ℕ
set_rows w s = lefts_from w s 0 s.left.keys ++ cond w.adds (rights_from s.left.keys 0 s.right.keys) []

-- the labels of the row x
abbrev pub set_labels : Sides → ℕ → Labels
set_labels s x = get_or (side_labels s.left ++ side_labels s.right) x no_labels

-- its readings
abbrev pub set_readings : SetWork → Sides → ℕ → List ℕ
set_readings w s x =
    cond (ltb x (length s.left.keys))
    (left_row w.rule s.shape.points s.right.rows (met_places w.falls s.right.keys (get_or s.left.keys x 0))
    (row_at s.shape.points s.left.rows x))
    (row_at s.shape.points s.right.rows (x - length s.left.keys))

unfoldable pub set_series : SetWork → Sides → ℕ → Series
set_series w s x = record { labels = set_labels s x; row = set_readings w s x }

-- the answer series of a set rule, as they fit
abbrev pub set_outcome : SetWork → ℕ → ℕ → Sides → Outcome
set_outcome w label_room room s = fit label_room room s.shape (map (set_series w s) (set_rows w s))
