-- What the merges of a many-side series come to, and that its answer rows can be noted. Assumes nothing.
use Rattle.std.specs.Prelude.{ℕ, ◌+◌, ◌*◌, ◌≤◌, ◌<◌, ◌≡◌, List, length, get_or, Result, Ok, Err, ⊤}
use Rattle.std.proofs.Math.Option.{Option, none, some}
use Rattle.model.specs.Limits.{max_series}
use Rattle.model.specs.Query.{Side}
use Rattle.semantics.specs.Events.{Duplicate}
use Rattle.plan.specs.Merging.{RowMerge, row, failed_at}
use Rattle.plan.specs.Keys.{dropped}
use Rattle.plan.specs.Joins.{leads_clash, lead_rows, one_place}
use Rattle.answers.specs.Plans.{duplicate}
use Rattle.merging.specs.declared.Unmerged.{Unmerged}
use Rattle.answers.specs.declared.Clash.{Clash}
use Rattle.index_lists.specs.Places.{NotedAll}
use Rattle.row_marks.specs.Words.{ChangedIn, MarksAt}

-- merges that are to come to `want` answer r; their row is not kept
abbrev pub TriedFrom : RowMerge → Result ⊤ Unmerged → Type 0
TriedFrom (row d) r = r ≡ Ok tt
TriedFrom (failed_at i d) r = r ≡ Err (record { 0 = i })

pub record TriedAs (want : RowMerge) (r : Result ⊤ Unmerged) : Type 0 where
  pub answer : TriedFrom want r

-- 01: fields are the input places of the series kept and the one that failed to merge
abbrev pub clash_as : Side → Result ⊤ Clash → Option Duplicate
clash_as side (Ok _) = none
clash_as side (Err c) = some (duplicate side c.kept c.failed)

-- of the leaders of all places those from first on stand in `leads`; no other place has a leader
pub record LedAs (all : List ℕ) (first : ℕ) (leads : List ℕ) : Type 0 where
  pub few : length all ≤ max_series
  pub part : length leads ≤ length all
  pub before : (i : ℕ) → i < first → i < length all → get_or all i 0 ≡ dropped
  pub same : (i : ℕ) → first ≤ i → i < length leads → get_or leads i 0 ≡ get_or all i 0
  pub behind : (i : ℕ) → length leads ≤ i → i < length all → get_or all i 0 ≡ dropped

-- the first clash behind leaders, whichever side they are on
pub record ClashOf (allowance p : ℕ) (rows : List ℕ) (first : ℕ) (leads : List ℕ) (r : Result ⊤ Clash) : Type 0 where
  pub each : (all : List ℕ) → LedAs all first leads → (side : Side)
      → leads_clash allowance p rows side all 0 all ≡ clash_as side r

-- row codes and counts of the many-side place m are small
pub record CodesFit (m n : ℕ) (leads : List ℕ) : Type 0 where
  pub place : m < max_series
  pub before : n ≤ m * max_series
  pub few : length leads ≤ max_series

-- and the code of a one-side place with it
pub record RowFits (m o n : ℕ) : Type 0 where
  pub many : m < max_series
  pub one : o < max_series
  pub before : n < max_series * max_series

-- the marks of the answer rows from n up to c, eight words a row
pub record RowsMarked (all list : List ℕ) (n c : ℕ) (before after : List ℕ) : Type 0 where
  pub frame : ChangedIn (n * 8) (c * 8) before after
  pub marks : (k : ℕ) → n ≤ k → k < c → k < length list → k * 8 + 8 ≤ length before
      → MarksAt all (one_place (get_or list k 0)) (k * 8) after

-- the answer rows of the many-side place m noted behind the n before and, where no mark stood behind those, marked
pub record RowsListed (m n first : ℕ) (leads list₀ marks₀ list marks : List ℕ) (r : ℕ) : Type 0 where
  pub rows : (all : List ℕ) → LedAs all first leads → NotedAll (lead_rows m 0 all) n list₀ list r
  pub marked : (all : List ℕ) → LedAs all first leads → ((i : ℕ) → n * 8 ≤ i → get_or marks₀ i 0 ≡ 0)
      → RowsMarked all list n r marks₀ marks
