-- `put_rows` meets its contract. Assumes nothing.
use mathlib.Core.Path.{refl}
use Rattle.answering.proofs.Rows.{rows_begin, rows_put, rows_next}
use Rattle.answering.proofs.put_rows.Goals as goal

pub loop-k-init : goal.loop-k-init
loop-k-init c = rows_begin _ _ _ _ _ _ _ _ _ c.requires.both_rows_held c.requires.codes_in c.requires.codes_in_bounds
    c.requires.p_in_bounds _ _ _ refl refl refl

pub loop-k-preserved : goal.loop-k-preserved
loop-k-preserved c = rows_next _ _ _ _ _ _ _ _ _ _ _ _ _ _ c.loop-k.invariant c.loop-k-test.true _ _ _ _
    c.put_row.ensures.out_after c.put_row.ensures.work_kept

pub returns : goal.returns
returns c = search rows_put
