-- `exec_binop` meets its contract. Assumes nothing.
use mathlib.Core.Path.{refl}
use borrow.Author.Rules.{rules}
use Rattle.std.proofs.lemmas.Result.{err_from_is_err_and}
use Rattle.keyed_sides.specs.TakenSides.{Took, took}
use Rattle.side_parts.specs.Lent.{shape_of}
use Rattle.vector_faults.proofs.Faults.{told_vector, ran_told, ran_taken_lem}
use Rattle.binop_vector_vector.proofs.Stages.{asked, ran_refused, ran_asked}
use Rattle.binop_vector_vector.proofs.Stages.{ran_apart, ran_on_two_grids, ran_alike, held_alike}
use Rattle.binop_vector_vector.proofs.exec_binop.Goals.{In_ok-l, In_ok-r}
use Rattle.binop_vector_vector.proofs.exec_binop.Goals as goal

-- the sides as they are taken

left : (c : In_ok-l) → Took 0 c.args.left_labels.now c.args.left.now c.take_vector.new.at c.in_ok-l.l.series (shape_of c.in_ok-l.l.shape)
left c = took 0 _ _ _ _ _ c.take_vector.ensures refl _
    (told_vector _ _ _ c.map_err.ensures.cases _ c.in_ok-l.was)
    c.type_inv.left_labels c.type_inv.left

right : (c : In_ok-r) → Took 1 c.args.right_labels.now c.args.right.now c.take_vector-2.new.at c.in_ok-r.r.series (shape_of c.in_ok-r.r.shape)
right c = took 1 _ _ _ _ _ c.take_vector-2.ensures refl _
    (told_vector _ _ _ c.map_err-2.ensures.cases _ c.in_ok-r.was)
    c.type_inv.right_labels c.type_inv.right

pub returns-in_err-q : goal.returns-in_err-q
returns-in_err-q c = let p = err_from_is_err_and c.from_residual.result c.from_residual.ensures.1 in
    rw (p.1, p.2) (ran_refused _ _ _ _ _ _ _ _ c.in_err-q.ensures)

pub returns-in_err-l : goal.returns-in_err-l
returns-in_err-l c = let p = err_from_is_err_and c.from_residual-in_err-l.result c.from_residual-in_err-l.ensures.1 in
    rw (p.1, p.2)
    (ran_asked _ _ c.in_ok-q.ensures _ _ _ _ _ _ _ _ _
    (ran_told 0 _ _ _ _ _ _ _ _ c.take_vector.ensures _ _ c.map_err.ensures.cases (λ e r q. search rules) _
    c.in_err-l.was))

pub returns-in_err-r : goal.returns-in_err-r
returns-in_err-r c = let p = err_from_is_err_and c.from_residual-in_err-r.result c.from_residual-in_err-r.ensures.1 in
    rw (p.1, p.2)
    (ran_asked _ _ c.in_ok-q.ensures _ _ _ _ _ _ _ _ _
    (ran_taken_lem 0 _ _ _ _ _ _ _ _ (left (goal.at.returns-in_err-r c).In_ok-l) _ _ _
    (ran_told 1 _ _ _ _ _ _ _ _ c.take_vector-2.ensures _ _ c.map_err-2.ensures.cases (λ e r q. search rules) _
    c.in_err-r.was)))

pub returns-then-r-l : goal.returns-then-r-l
returns-then-r-l c = ran_asked _ _ c.in_ok-q.ensures _ _ _ _ _ _ _ _ _
    (ran_apart _ _ _ _ _ (left (goal.at.returns-then-r-l c).In_ok-l) _ _ _ _ _ (right (goal.at.returns-then-r-l c).In_ok-r)
    _ _ _ c.if-r-l.true)

pub returns-then-grids_differ : goal.returns-then-grids_differ
returns-then-grids_differ c = ran_asked _ _ c.in_ok-q.ensures _ _ _ _ _ _ _ _ _
    (ran_on_two_grids _ _ _ _ _ (left (goal.at.returns-then-grids_differ c).In_ok-l) _ _ _ _ _
    (right (goal.at.returns-then-grids_differ c).In_ok-r) _ _ _ c.if-r-l.false _ c.grids_differ.ensures c.if-grids_differ.true)

pub overflow_add-e : goal.overflow_add-e
overflow_add-e c = (left (goal.at.overflow_add-e c).In_ok-l).fits

pub overflow_add-f : goal.overflow_add-f
overflow_add-f c = (right (goal.at.overflow_add-f c).In_ok-r).fits

pub slice_bounds-run-count : goal.slice_bounds-run-count
slice_bounds-run-count c = (left (goal.at.slice_bounds-run-count c).In_ok-l).sizes

pub slice_bounds-run-start : goal.slice_bounds-run-start
slice_bounds-run-start c = (left (goal.at.slice_bounds-run-start c).In_ok-l).sizes

pub slice_bounds-run-count-2 : goal.slice_bounds-run-count-2
slice_bounds-run-count-2 c = (right (goal.at.slice_bounds-run-count-2 c).In_ok-r).sizes

pub slice_bounds-run-start-2 : goal.slice_bounds-run-start-2
slice_bounds-run-start-2 c = (right (goal.at.slice_bounds-run-start-2 c).In_ok-r).sizes

pub slice_bounds-left_at-end : goal.slice_bounds-left_at-end
slice_bounds-left_at-end c = (left (goal.at.slice_bounds-left_at-end c).In_ok-l).entries

pub slice_bounds-run-end-3 : goal.slice_bounds-run-end-3
slice_bounds-run-end-3 c = (left (goal.at.slice_bounds-run-end-3 c).In_ok-l).lent

pub slice_bounds-right_at-end : goal.slice_bounds-right_at-end
slice_bounds-right_at-end c = (right (goal.at.slice_bounds-right_at-end c).In_ok-r).entries

pub slice_bounds-run-end-4 : goal.slice_bounds-run-end-4
slice_bounds-run-end-4 c = (right (goal.at.slice_bounds-run-end-4 c).In_ok-r).lent

pub run-requires-clause-asked : goal.run-requires-clause-asked
run-requires-clause-asked c = asked _ _ c.in_ok-q.ensures

pub run-requires-clause-taken_side : goal.run-requires-clause-taken_side
run-requires-clause-taken_side c = (left (goal.at.run-requires-clause-taken_side c).In_ok-l).held

pub run-requires-clause-taken_side_2 : goal.run-requires-clause-taken_side_2
run-requires-clause-taken_side_2 c = held_alike _ _ _ _ _ c.if-r-l.false (right (goal.at.run-requires-clause-taken_side_2 c).In_ok-r).held

pub returns : goal.returns
returns c = ran_asked _ _ c.in_ok-q.ensures _ _ _ _ _ _ _ _ _
    (ran_alike _ _ _ _ _ (left (goal.at.returns c).In_ok-l) _ _ _ _ _
    (right (goal.at.returns c).In_ok-r) _ _ _ c.if-r-l.false _ c.grids_differ.ensures c.if-grids_differ.false _ _ _ c.run.ensures)
