-- `place_leads` meets its contract. Assumes nothing.
use Rattle.model.proofs.Laws.Lists.{front_long}
use Rattle.join_plan.proofs.place_plans.Places.{
  key_ends,
  key_order_lem,
  key_last,
  front_there,
  front_first,
  front_room,
}
use Rattle.join_plan.proofs.place_plans.place_leads.Goals as goal

pub mark_leads-requires-clause-ends : goal.mark_leads-requires-clause-ends
mark_leads-requires-clause-ends c = search key_ends

pub mark_leads-requires-clause-order : goal.mark_leads-requires-clause-order
mark_leads-requires-clause-order c = search key_order_lem

pub mark_leads-requires-clause-inside : goal.mark_leads-requires-clause-inside
mark_leads-requires-clause-inside c = search key_last

pub slice_bounds-note_lasts-end : goal.slice_bounds-note_lasts-end
slice_bounds-note_lasts-end c = front_there _ _ _ c.requires.ends _ _ c.side_first-first.ensures
    c.side_last-last.ensures c.if-first-last.false c.args.leads.now c.mark_leads.new.leads c.requires.room
    c.mark_leads.auto.leads

pub slice_bounds-note_lasts-end-2 : goal.slice_bounds-note_lasts-end-2
slice_bounds-note_lasts-end-2 c = front_long _ _ (front_there _ _ _ c.requires.ends _ _
    c.side_first-first.ensures c.side_last-last.ensures c.if-first-last.false c.args.leads.now
    c.mark_leads.new.leads c.requires.room c.mark_leads.auto.leads)

pub note_lasts-requires-clause-order : goal.note_lasts-requires-clause-order
note_lasts-requires-clause-order c = search front_first

pub note_lasts-requires-clause-room : goal.note_lasts-requires-clause-room
note_lasts-requires-clause-room c = search front_room
