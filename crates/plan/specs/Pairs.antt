-- One-to-one by key numbers: which places pair, their first clash, and their answer series. Assumes nothing.
use Rattle.std.specs.Prelude.{ℕ, suc, Bool, not, ◌&&◌, cond, List, [], ◌∷◌, map, eqb, ltb, length, get_or}
use Rattle.std.proofs.Math.Option.{Option, none}
use Rattle.model.specs.Reading.{scalar_op}
use Rattle.model.specs.Row.{zip_with}
use Rattle.model.specs.Labels.{Labels}
use Rattle.model.specs.Query.{Query, left, right}
use Rattle.model.specs.Vector.{Series}
use Rattle.semantics.specs.Events.{Duplicate}
use Rattle.semantics.specs.Call.{Outcome}
use Rattle.semantics.specs.Binop.{adjust_binary_op_tags}
use Rattle.side_parts.specs.Lent.{Sides, side_labels}
use Rattle.plan.specs.Keys.{dropped, first_of, last_of}
use Rattle.plan.specs.Merging.{merge_last, row_of, clash}
use Rattle.plan.specs.Conclude.{or_else, conclude}

-- 01: per key on both sides; first left place of the key, among kept series
abbrev pub is_pair : List ℕ → List ℕ → ℕ → ℕ → Bool
is_pair ks ms k i = not (eqb k dropped) && (eqb (first_of ks k) i && ltb (first_of ms k) (length ms))

-- 01: left before right
abbrev pub pair_clash : ℕ → Sides → ℕ → Option Duplicate
pair_clash allowance s k =
    or_else
    (clash left (last_of s.left.keys k) (merge_last allowance s.shape.points s.left.rows s.left.keys k))
    (clash right (last_of s.right.keys k) (merge_last allowance s.shape.points s.right.rows s.right.keys k))

-- the first clash of the left places from i on, whose keys are `rest`
unfoldable pub pairs_clash : ℕ → Sides → ℕ → List ℕ → Option Duplicate
pairs_clash allowance s i [] = none
pairs_clash allowance s i (k ∷ rest) =
    or_else (cond (is_pair s.left.keys s.right.keys k i) (pair_clash allowance s k) none) (pairs_clash allowance s (suc i) rest)

-- the left places whose labels the answer has
unfoldable pub pairs_from : List ℕ → List ℕ → ℕ → List ℕ → List ℕ
pairs_from ks ms i [] = []
pairs_from ks ms i (k ∷ rest) = cond (is_pair ks ms k i) (last_of ks k ∷ pairs_from ks ms (suc i) rest) (pairs_from ks ms (suc i) rest)

abbrev pub no_labels : Labels
no_labels = record { name = []; tags = [] }

-- the answer row of a key
unfoldable pub pair_row : Query → Sides → ℕ → List ℕ
pair_row q s k =
    zip_with (scalar_op q.operator q.bool)
    (row_of (merge_last q.allowance s.shape.points s.left.rows s.left.keys k))
    (row_of (merge_last q.allowance s.shape.points s.right.rows s.right.keys k))

-- the answer series whose labels are those of the left place j
unfoldable pub pair_series : Query → Sides → ℕ → Series
pair_series q s j =
    record { labels = adjust_binary_op_tags q (get_or (side_labels s.left) j no_labels); row = pair_row q s (get_or s.left.keys j 0) }

-- 01: the first in answer order, left before right; else the answer series
abbrev pub pairs_outcome : Query → ℕ → ℕ → Sides → Outcome
pairs_outcome q label_room room s =
    conclude label_room room s.shape
    (pairs_clash q.allowance s 0 s.left.keys)
    (map (pair_series q s) (pairs_from s.left.keys s.right.keys 0 s.left.keys))
