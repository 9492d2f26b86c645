-- What the merges of one-to-one come to, as the code tells it. Assumes nothing.
use Rattle.std.specs.Prelude.{ℕ, ◌≡◌, Bool, cond, ◌&&◌, List, length, Result, Ok, Err, ⊤}
use Rattle.std.proofs.Math.Option.{Option, none, some}
use Rattle.model.specs.Row.{overwritten}
use Rattle.semantics.specs.Events.{Duplicate}
use Rattle.plan.specs.Merging.{RowMerge, row, failed_at}
use Rattle.plan.specs.Pairs.{is_pair, pair_clash}
use Rattle.side_parts.specs.Sides.{row_at}
use Rattle.side_parts.specs.Lent.{Sides}
use Rattle.end_codes.specs.Codes.{left_first, left_last, right_first, right_last}
use Rattle.key_places.specs.Two.{are_two, both_two}
use Rattle.mergeable.specs.Mergeable.{mergeable}
use Rattle.merging.specs.declared.Unmerged.{Unmerged}
use Rattle.answers.specs.declared.Twice.{Twice}
use Rattle.answers.specs.Plans.{duplicate_of}

-- the place of the series that failed to merge: where merges are to come to it, and as the code tells it

abbrev pub failure_of : RowMerge → Option ℕ
failure_of (row d) = none
failure_of (failed_at i d) = some i

abbrev pub failed_in : Result ⊤ Unmerged → Option ℕ
failed_in (Ok _) = none
failed_in (Err e) = some e.0

-- merges that are to come to `want` answer r, and leave a row d, p readings wide, of which no more is told
pub record TriedGroup (want : RowMerge) (p : ℕ) (d : List ℕ) (r : Result ⊤ Unmerged) : Type 0 where
  pub answer : failed_in r ≡ failure_of want
  pub long : length d ≡ p

-- whether the row `first` may be merged into the row `last`
abbrev pub rows_merge : ℕ → ℕ → List ℕ → ℕ → ℕ → Bool
rows_merge allowance p rows first last = mergeable allowance (row_at p rows last) (row_at p rows first)

-- whether no other series of the key k stands between the places `first` and `prev`, and their rows may be merged, one
-- after the other, into the row `last`
unfoldable pub three_merge : ℕ → ℕ → List ℕ → List ℕ → ℕ → ℕ → ℕ → ℕ → Bool
three_merge allowance p rows keys k first prev last =
    are_two keys k first prev
    && (rows_merge allowance p rows first last
    && mergeable allowance (overwritten (row_at p rows last) (row_at p rows first)) (row_at p rows prev))

-- whether a code has exactly two series on each side, and they merge
unfoldable pub twos_merge : ℕ → Sides → ℕ → Bool
twos_merge allowance s c =
    both_two s.left.keys s.right.keys c
    && (rows_merge allowance s.shape.points s.left.rows (left_first c) (left_last c)
    && rows_merge allowance s.shape.points s.right.rows (right_first c) (right_last c))

-- 01: fields are the input places of the series kept and the one that failed to merge
abbrev pub clash_in : Result ⊤ Twice → Option Duplicate
clash_in (Ok _) = none
clash_in (Err t) = some (duplicate_of t)

-- the clash at the left place i, whose key is k
abbrev pub clash_at : ℕ → Sides → ℕ → ℕ → Option Duplicate
clash_at allowance s i k = cond (is_pair s.left.keys s.right.keys k i) (pair_clash allowance s k) none
