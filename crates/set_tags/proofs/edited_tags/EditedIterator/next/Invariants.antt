-- The iterator of an edited record's tags meets its contract. Assumes nothing.
use Rattle.std.proofs.Common.{◌≡◌}
use Rattle.set_tags.specs.edited_tags.Walks.{edited_left, tags_in}
use Rattle.set_tags.proofs.edited_tags.EditedIterator.next.Given as goal

abbrev pub invariant-loop-step : goal.invariant-loop-step
invariant-loop-step l = edited_left l.initial.self ≡ edited_left l.self

abbrev pub decreases-loop-step : goal.decreases-loop-step
decreases-loop-step l = tags_in l.self
