-- Merging the rows of a group, as rows of one array of readings. Assumes nothing.
use Rattle.std.specs.Prelude.{ℕ, suc, cond, List, [], ◌∷◌, eqb, take, drop}
use Rattle.std.proofs.Math.Option.{Option, none, some}
use Rattle.side_parts.specs.Sides.{row_at}
use Rattle.model.specs.Query.{Side}
use Rattle.model.specs.Row.{merged}
use Rattle.semantics.specs.Events.{Duplicate}
use Rattle.plan.specs.Keys.{last_of}

-- what the merges of a group come to: a row, or the place of the series that failed to merge, and the row as merged before it
pub data RowMerge : Type 0 where
  row : List ℕ → RowMerge
  failed_at : ℕ → List ℕ → RowMerge

abbrev pub on_row : Option (List ℕ) → RowMerge → (List ℕ → RowMerge) → RowMerge
on_row none refusal f = refusal
on_row (some d) refusal f = f d

-- the rows of the group g merged in order into d; `groups` has the groups of the series from the place i on
unfoldable pub merge_group : ℕ → ℕ → List ℕ → ℕ → ℕ → List ℕ → List ℕ → RowMerge
merge_group allowance p rows g i [] d = row d
merge_group allowance p rows g i (x ∷ groups) d =
    cond (eqb x g)
    (on_row (merged allowance d (row_at p rows i)) (failed_at i d) (merge_group allowance p rows g (suc i) groups))
    (merge_group allowance p rows g (suc i) groups d)

-- 01: each side becomes one series: the last, with the earlier ones merged into it in order
unfoldable pub merge_last : ℕ → ℕ → List ℕ → List ℕ → ℕ → RowMerge
merge_last allowance p rows keys k = merge_group allowance p rows k 0 (take (last_of keys k) keys) (row_at p rows (last_of keys k))

-- 01: merge into the earliest one-side row. The row o leads the series behind it that have it as their leader.
unfoldable pub merge_lead : ℕ → ℕ → List ℕ → List ℕ → ℕ → RowMerge
merge_lead allowance p rows leads o = merge_group allowance p rows o (suc o) (drop (suc o) leads) (row_at p rows o)

-- the row where the merges succeed
abbrev pub row_of : RowMerge → List ℕ
row_of (row d) = d
row_of (failed_at i d) = []

-- 01: fields are the input places of the series kept and the one that failed to merge
abbrev pub clash : Side → ℕ → RowMerge → Option Duplicate
clash side kept (row d) = none
clash side kept (failed_at i d) = some (record { kept = record { side = side; number = kept }; failed = record { side = side; number = i } })
