-- Both sides of a call with their key numbers; under arithmetic the series with only missing readings take no part. Assumes nothing.
use Rattle.std.specs.Prelude.{ℕ, ◌*◌, ◌≡◌, refl, Bool, true, false, cond, List, ◌++◌, length}
use Rattle.std.proofs.Common.{sym, ap, ◌∙◌, arith}
use Rattle.std.proofs.lemmas.List.{length-map}
use Rattle.operator.specs.Kinds.{Kind, arithmetic, comparison, set_rule, fallback, not_carried}
use Rattle.model.specs.Labels.{Labels}
use Rattle.model.specs.Edits.{Names}
use Rattle.model.specs.Query.{Matching, Query}
use Rattle.side_parts.specs.Lent.{Side, Sides, side_labels, side_series, Held, BothHeld}
use Rattle.plan.specs.Laws.Keyed.{Numbers}
use Rattle.plan.specs.Laws.Numbers.{KeysTold, numbers_all, numbers_kept}
use Rattle.plan.specs.Laws.Sides.{labels_many}
use Rattle.key_numbers.specs.key_lookup.Keys.{first_place, numbers}
use Rattle.keyed_sides.specs.Dropped.{dropped_missing, dropped_count}
use Rattle.keyed_sides.specs.KeyNumbers.{keys_told, dropped_rows}

-- 01: Non-comparison arithmetic first drops series with only N on either side
abbrev pub drops_missing : Kind → Bool
drops_missing (arithmetic a) = true
drops_missing (comparison c) = false
drops_missing (set_rule s) = false
drops_missing (fallback s) = false
drops_missing not_carried = true

-- the key numbers of a side under an operator
abbrev pub kept_keys : Bool → ℕ → List ℕ → List ℕ → List ℕ
kept_keys drops p rows keys = cond drops (dropped_missing p rows keys) keys

-- the keys of both sides' labels, numbered by first place, the left ones first
pub record BothNumbered (m : Matching) (ns : Names) (lefts rights : List Labels) (keys keys' : List ℕ) : Type 0 where
  pub left : keys ≡ numbers false m ns lefts lefts
  pub right : keys' ≡ numbers false m ns (lefts ++ rights) rights

-- key numbers put in place of those before
abbrev pub with_keys : Sides → List ℕ → List ℕ → Sides
with_keys s keys keys' = record {
  shape = s.shape;
  left = record { array = s.left.array; at = s.left.at; keys = keys; rows = s.left.rows };
  right = record { array = s.right.array; at = s.right.at; keys = keys'; rows = s.right.rows };
}

-- both sides, whose numbers tell the keys of the series that take part
pub record SidesKeyed (q : Query) (drops : Bool) (s : Sides) : Type 0 where
  pub both : BothHeld s
  pub numbers :
      Numbers q drops (side_series s.shape.points s.left) (side_series s.shape.points s.right) s.left.keys s.right.keys

-- a side is held with any key numbers, one for each series
held_again : (p : ℕ) (x : Side) (keys : List ℕ) → Held p x → length keys ≡ length x.keys
    → Held p (record { array = x.array; at = x.at; keys = keys; rows = x.rows })
held_again p x keys h e = record {
  records = h.records;
  formed = h.formed;
  rows = record { narrow = h.rows.narrow; few = rw e h.rows.few; whole = rw e h.rows.whole };
  count = rw e h.count;
}

-- numbered, then dropped where the operator asks for it: for each query with this matching and list
module _ (q : Query) (s : Sides) (b : BothHeld s) (keys keys' : List ℕ)
    (n : BothNumbered q.matching q.matching_list (side_labels s.left) (side_labels s.right) keys keys') where
  abbrev p : ℕ
  p = s.shape.points

  abbrev lefts : List Labels
  lefts = side_labels s.left

  abbrev rights : List Labels
  rights = side_labels s.right

  as_many : length keys ≡ length lefts
  as_many = ap length n.left ∙ length-map lefts (first_place false q.matching q.matching_list lefts)

  as_many_right : length keys' ≡ length rights
  as_many_right = ap length n.right
      ∙ length-map rights (first_place false q.matching q.matching_list (lefts ++ rights))

  left_keys_lem : length keys ≡ length s.left.keys
  left_keys_lem = as_many ∙ sym (labels_many p s.left b.left)

  right_keys : length keys' ≡ length s.right.keys
  right_keys = as_many_right ∙ sym (labels_many p s.right b.right)

  told : KeysTold q (side_series p s.left) (side_series p s.right) keys keys'
  told =
      keys_told q p lefts rights s.left.rows s.right.rows keys keys' n.left n.right as_many as_many_right
      (omega (arith, as_many, left_keys_lem, b.left.rows.few)) (omega (arith, as_many_right, right_keys, b.right.rows.few))

  all_keyed : SidesKeyed q false (with_keys s keys keys')
  all_keyed = record {
    both = record { left = held_again p s.left keys b.left left_keys_lem; right = held_again p s.right keys' b.right right_keys };
    numbers = numbers_all q (side_series p s.left) (side_series p s.right) keys keys' told;
  }

  kept_keyed : SidesKeyed q true (with_keys s (dropped_missing p s.left.rows keys) (dropped_missing p s.right.rows keys'))
  kept_keyed = record {
    both =
        record {
          left =
              held_again p s.left (dropped_missing p s.left.rows keys) b.left
              (dropped_count p s.left.rows keys ∙ left_keys_lem);
          right =
              held_again p s.right (dropped_missing p s.right.rows keys') b.right
              (dropped_count p s.right.rows keys' ∙ right_keys);
        };
    numbers =
        rw (← dropped_rows p s.left.rows keys lefts as_many, ← dropped_rows p s.right.rows keys' rights as_many_right)
        (numbers_kept q (side_series p s.left) (side_series p s.right) keys keys' told);
  }

  kept_sides : (drops : Bool) → SidesKeyed q drops (with_keys s (kept_keys drops p s.left.rows keys) (kept_keys drops p s.right.rows keys'))
  kept_sides true = kept_keyed
  kept_sides false = all_keyed

  pub sides_keyed : (drops : Bool) (kept kept' : List ℕ) → kept ≡ kept_keys drops p s.left.rows keys
      → kept' ≡ kept_keys drops p s.right.rows keys' → SidesKeyed q drops (with_keys s kept kept')
  sides_keyed drops kept kept' e e' = rw (e, e') (kept_sides drops)

-- as many numbers as keys before them, so as many rows
module _ (m : Matching) (ns : Names) (x : Sides) (b : BothHeld x) (keys keys' : List ℕ)
    (n : BothNumbered m ns (side_labels x.left) (side_labels x.right) keys keys') where
  left_many : length keys ≡ length x.left.keys
  left_many =
      ap length n.left ∙ length-map (side_labels x.left) (first_place false m ns (side_labels x.left))
      ∙ sym (labels_many x.shape.points x.left b.left)

  right_many : length keys' ≡ length x.right.keys
  right_many =
      ap length n.right ∙ length-map (side_labels x.right)
      (first_place false m ns (side_labels x.left ++ side_labels x.right))
      ∙ sym (labels_many x.shape.points x.right b.right)

  pub numbered_rows : length x.left.rows ≡ length keys * x.shape.points
  numbered_rows = rw left_many b.left.rows.whole

  pub numbered_rows_right : length x.right.rows ≡ length keys' * x.shape.points
  numbered_rows_right = rw right_many b.right.rows.whole

-- both sides' keys numbered, then those of series that take no part dropped
pub record KeysKept (m : Matching) (ns : Names) (drops : Bool) (s : Sides) (keys keys' : List ℕ) : Type 0 where
  pub left : keys ≡ kept_keys drops s.shape.points s.left.rows
      (numbers false m ns (side_labels s.left) (side_labels s.left))
  pub right :
      keys' ≡ kept_keys drops s.shape.points s.right.rows
      (numbers false m ns (side_labels s.left ++ side_labels s.right) (side_labels s.right))

-- numbered first, then dropped
pub keys_kept : (m : Matching) (ns : Names) (drops : Bool) (s : Sides) (keys keys' kept kept' : List ℕ)
    → BothNumbered m ns (side_labels s.left) (side_labels s.right) keys keys'
    → kept ≡ kept_keys drops s.shape.points s.left.rows keys → kept' ≡ kept_keys drops s.shape.points s.right.rows keys'
    → KeysKept m ns drops s kept kept'
keys_kept m ns drops s keys keys' kept kept' n e e' = record {
  left = e ∙ ap (kept_keys drops s.shape.points s.left.rows) n.left;
  right = e' ∙ ap (kept_keys drops s.shape.points s.right.rows) n.right;
}

-- they tell the keys of each query with this matching and list
pub kept_keyed_by : (q : Query) (drops : Bool) (s : Sides) → BothHeld s → (keys keys' : List ℕ)
    → KeysKept q.matching q.matching_list drops s keys keys' → SidesKeyed q drops (with_keys s keys keys')
kept_keyed_by q drops s b keys keys' k =
    let lefts = side_labels s.left in
    let rights = side_labels s.right in
    sides_keyed q s b (numbers false q.matching q.matching_list lefts lefts)
    (numbers false q.matching q.matching_list (lefts ++ rights) rights)
    (record { left = refl; right = refl }) drops keys keys' k.left k.right
