-- `walk_records` meets its contract. Assumes nothing.
use borrow.Author.Rules.{rules}
use Rattle.std.proofs.lemmas.Result.{err_from_is_err_and}
use Rattle.timeseries.proofs.record_walk.Walking.{walk_told, walk_on, walk_over, walk_whole}
use Rattle.timeseries.proofs.record_walk.walk_records.Goals as goal

pub returns-in_err-p : goal.returns-in_err-p
returns-in_err-p c = let p = err_from_is_err_and c.from_residual.result c.from_residual.ensures.1 in
    rw (p.1, p.2)
    (walk_told _ _ _ _ _ _ c.loop-i.invariant c.loop-i-test.true _ (rw (c.at.ensures.0, c.at.ensures.1) at
    c.read.ensures) _ _
    c.map_err.ensures.cases (λ e f q. search rules) _ c.in_err-p.was)

pub loop-i-preserved : goal.loop-i-preserved
loop-i-preserved c = walk_on _ _ _ _ _ _ c.loop-i.invariant c.loop-i-test.true _ (rw (
  c.at.ensures.0,
  c.at.ensures.1,
) at c.read.ensures) _ _
    c.map_err.ensures.cases _ c.in_ok-p.was

pub returns-then-p-array : goal.returns-then-p-array
returns-then-p-array c = search walk_over

pub returns : goal.returns
returns c = search walk_whole
