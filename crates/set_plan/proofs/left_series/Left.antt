-- Whether a left series answers, by the right places that it meets, and by their ends. Assumes nothing.
use Prim.Native.Nat.{ℕ, ◌≤◌}
use mathlib.Core.Path.{◌≡◌, ◌∙◌}
use mathlib.Core.Bool.{Bool}
use mathlib.Core.List.{List}
use lib.ListN.{length, take}
use Rattle.operator.specs.Kinds.{SetRule}
use Rattle.plan.specs.Sets.{left_answers}
use Rattle.end_codes.specs.Codes.{side_first, side_last}
use Rattle.index_lists.specs.Places.{NotedAll, coded_met}
use Rattle.index_lists.proofs.Meeting.{met_front}
use Rattle.set_plan.specs.left_series.Answering.{Answered}

-- by the ends of what it meets, listed at the front of a part
module _ (rule : SetRule) (x keys rows : List ℕ) (e first last : ℕ) (a : first ≡ side_first e) (b : last ≡ side_last e)
    (before after : List ℕ) (m : ℕ) where
  pub front_answers : length keys ≤ length before → NotedAll (coded_met keys first last) 0 before after m
      → (r : Bool) → r ≡ left_answers rule (length x) rows (take m after) x → Answered rule x keys rows e before after r
  front_answers room noted r g = record {
    answers = g ∙ rw (met_front keys first last before after m room noted, a, b);
    listed = noted.content ∙ rw (a, b);
  }
