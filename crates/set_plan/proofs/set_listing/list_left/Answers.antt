-- `list_left` meets its contract. Assumes nothing.
use Rattle.set_plan.proofs.set_listing.Listing.{left_ends, met_fits, left_turn}
use Rattle.set_plan.proofs.set_listing.list_left.Goals as goal

pub both_code-requires-clause-right_lt_codes : goal.both_code-requires-clause-right_lt_codes
both_code-requires-clause-right_lt_codes c = let inv = c.loop-i.invariant in
    met_fits _ _ _ _ _ _ _ _ inv c.requires.set_held c.loop-i-test.true _ c.requires.side_ends
    _ c.met_ends-e.ensures

pub loop-i-preserved : goal.loop-i-preserved
loop-i-preserved c = let inv = c.loop-i.invariant in
    left_turn _ _ _ _ _ _ _ _ inv c.requires.set_held c.loop-i-test.true _ c.requires.side_ends
    _ c.met_ends-e.ensures _ c.row-left.ensures _ _ c.left_answers-here.ensures
    _ c.both_code.ensures _ _ c.note_if-n.ensures

pub returns : goal.returns
returns c = search left_ends
