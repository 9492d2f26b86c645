-- `export_text` meets its contract. Assumes nothing.
use mathlib.Core.Path.{refl}
use Rattle.keyed_sides.specs.TakenSides.{took}
use Rattle.export_text.proofs.Stages.{exports_fault, exports_taken}
use Rattle.export_text.proofs.export_text.Goals as goal

pub returns-in-Err : goal.returns-in-Err
returns-in-Err c =
    exports_fault _ _ _ _ _ _ c.take_vector.ensures _ c.in-Err.is _ c.fault_of.ensures _ c.numbers_of.ensures

pub overflow_add-at : goal.overflow_add-at
overflow_add-at c = let took-so =
    took 0 _ _ _ _ _ c.take_vector.ensures refl _ c.in-Ok.is c.shared_slice_known-1.given
    c.shared_slice_known-2-1.given in
    took-so.fits

pub slice_bounds-export_taken-count : goal.slice_bounds-export_taken-count
slice_bounds-export_taken-count c = let took-so =
    took 0 _ _ _ _ _ c.take_vector.ensures refl _ c.in-Ok.is c.shared_slice_known-1.given
    c.shared_slice_known-2-1.given in
    took-so.sizes

pub slice_bounds-export_taken-start : goal.slice_bounds-export_taken-start
slice_bounds-export_taken-start c = let took-so =
    took 0 _ _ _ _ _ c.take_vector.ensures refl _ c.in-Ok.is c.shared_slice_known-1.given
    c.shared_slice_known-2-1.given in
    took-so.sizes

pub slice_bounds-at-end : goal.slice_bounds-at-end
slice_bounds-at-end c = let took-so =
    took 0 _ _ _ _ _ c.take_vector.ensures refl _ c.in-Ok.is c.shared_slice_known-1.given
    c.shared_slice_known-2-1.given in
    took-so.entries

pub slice_bounds-export_taken-end-2 : goal.slice_bounds-export_taken-end-2
slice_bounds-export_taken-end-2 c = let took-so =
    took 0 _ _ _ _ _ c.take_vector.ensures refl _ c.in-Ok.is c.shared_slice_known-1.given
    c.shared_slice_known-2-1.given in
    took-so.lent

pub export_taken-requires-clause-taken_side : goal.export_taken-requires-clause-taken_side
export_taken-requires-clause-taken_side c = let took-so =
    took 0 _ _ _ _ _ c.take_vector.ensures refl _ c.in-Ok.is c.shared_slice_known-1.given
    c.shared_slice_known-2-1.given in
    took-so.held

pub export_taken-requires-clause-good_grid : goal.export_taken-requires-clause-good_grid
export_taken-requires-clause-good_grid c = let took-so =
    took 0 _ _ _ _ _ c.take_vector.ensures refl _ c.in-Ok.is c.shared_slice_known-1.given
    c.shared_slice_known-2-1.given in
    took-so.grid

pub returns : goal.returns
returns c = let took-so =
    took 0 _ _ _ _ _ c.take_vector.ensures refl _ c.in-Ok.is c.shared_slice_known-1.given
    c.shared_slice_known-2-1.given in
    exports_taken _ _ _ _ _ _ took-so _ _ c.export_taken.ensures
