-- `overwrite`: the points that are passed are written, the others stand as they were. Assumes nothing.
use Rattle.std.proofs.Common.{◌≡◌, ℕ, ◌<◌, ◌≤◌, get_or}
use Rattle.mergeable.specs.Mergeable.{source_first}
use Rattle.merge.proofs.overwrite.Given as goal

abbrev pub invariant-loop-i : goal.invariant-loop-i
invariant-loop-i l =
    ((k : ℕ) → k < l.i → get_or l.dst k 0 ≡ source_first (get_or l.initial.dst k 0) (get_or l.src k 0))
    × ((k : ℕ) → l.i ≤ k → get_or l.dst k 0 ≡ get_or l.initial.dst k 0)
