-- `exec_aggregate` meets its contract. Assumes nothing.
use mathlib.Core.Path.{refl}
use borrow.Author.Rules.{rules}
use Rattle.std.proofs.lemmas.Result.{err_from_is_err_and}
use Rattle.keyed_sides.specs.TakenSides.{Took, took}
use Rattle.side_parts.specs.Lent.{shape_of}
use Rattle.vector_faults.proofs.Faults.{told_vector, ran_told, ran_taken_lem}
use Rattle.aggregate_vector.proofs.Stages.{ran_refused, ran_asked, list_stands}
use Rattle.aggregate_vector.proofs.exec_aggregate.Goals.{In_ok-vector}
use Rattle.aggregate_vector.proofs.exec_aggregate.Goals as goal

-- the vector as it is taken
taken : (c : In_ok-vector) → Took 0 c.args.labels.now c.args.readings.now c.take_vector.new.at c.in_ok-vector.vector.series
    (shape_of c.in_ok-vector.vector.shape)
taken c = took 0 _ _ _ _ _ c.take_vector.ensures refl _
    (told_vector _ _ _ c.map_err.ensures.cases _ c.in_ok-vector.was)
    c.type_inv.labels c.type_inv.readings

pub returns-in_err-a : goal.returns-in_err-a
returns-in_err-a c = let p = err_from_is_err_and c.from_residual.result c.from_residual.ensures.1 in
    rw (p.1, p.2) (ran_refused _ _ _ _ _ _ c.in_err-a.ensures)

pub returns-in_err-vector : goal.returns-in_err-vector
returns-in_err-vector c = let p = err_from_is_err_and c.from_residual-in_err-vector.result c.from_residual-in_err-vector.ensures.1 in
    rw (p.1, p.2)
    (ran_asked _ _ _ _ _ _ c.in_ok-a.ensures _ _ _
    (ran_told 0 _ _ _ _ _ _ _ _ c.take_vector.ensures _ _ c.map_err.ensures.cases (λ e r q. search rules) _
    c.in_err-vector.was))

pub overflow_add-e : goal.overflow_add-e
overflow_add-e c = (taken (goal.at.overflow_add-e c).In_ok-vector).fits

pub slice_bounds-run_groups-count-2 : goal.slice_bounds-run_groups-count-2
slice_bounds-run_groups-count-2 c = (taken (goal.at.slice_bounds-run_groups-count-2 c).In_ok-vector).sizes

pub slice_bounds-run_groups-start-2 : goal.slice_bounds-run_groups-start-2
slice_bounds-run_groups-start-2 c = (taken (goal.at.slice_bounds-run_groups-start-2 c).In_ok-vector).sizes

pub slice_bounds-at-end : goal.slice_bounds-at-end
slice_bounds-at-end c = (taken (goal.at.slice_bounds-at-end c).In_ok-vector).entries

pub slice_bounds-run_groups-end-3 : goal.slice_bounds-run_groups-end-3
slice_bounds-run_groups-end-3 c = (taken (goal.at.slice_bounds-run_groups-end-3 c).In_ok-vector).lent

pub run_groups-requires : goal.run_groups-requires
run_groups-requires c = (taken (goal.at.run_groups-requires c).In_ok-vector).held

pub slice_bounds-run_groups-count : goal.slice_bounds-run_groups-count
slice_bounds-run_groups-count c = list_stands _ _ c.in_ok-a.ensures

pub slice_bounds-run_groups-start : goal.slice_bounds-run_groups-start
slice_bounds-run_groups-start c = list_stands _ _ c.in_ok-a.ensures

pub returns : goal.returns
returns c = ran_asked _ _ _ _ _ _ c.in_ok-a.ensures _ _ _
    (ran_taken_lem 0 _ _ _ _ _ _ _ _ (taken (goal.at.returns c).In_ok-vector) _ _ _ c.run_groups.ensures)
