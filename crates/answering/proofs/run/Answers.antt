-- `run` meets its contract. Assumes nothing.
use mathlib.Core.Path.{refl}
use Rattle.std.proofs.lemmas.Result.{err_from_is_err_and}
use Rattle.join_plan.proofs.Coding.{clean_start}
use Rattle.answering.proofs.Answers.{run_many, run_no_room, run_answer}
use Rattle.answering.proofs.run.Goals as goal

pub plan-requires-clause-clean : goal.plan-requires-clause-clean
plan-requires-clause-clean c = clean_start 4096

pub returns-then-n-gt-MAX_SERIES : goal.returns-then-n-gt-MAX_SERIES
returns-then-n-gt-MAX_SERIES c = run_many _ _ _ _ c.requires _ _ _ _ c.plan.ensures refl _ c.in_ok-n.was _ _
    c.if-n-gt-MAX_SERIES.true

pub returns-in_err-room_for : goal.returns-in_err-room_for
returns-in_err-room_for c = let p = err_from_is_err_and c.from_residual-in_err-room_for.result
    c.from_residual-in_err-room_for.ensures.1 in
    rw (p.1, p.2)
    (run_no_room _ _ _ _ c.requires _ _ _ _ c.plan.ensures refl _ c.in_ok-n.was c.if-n-gt-MAX_SERIES.false _ _ _
    c.tally-t.ensures _ c.room_for.ensures _ c.in_err-room_for.was)

pub returns : goal.returns
returns c = run_answer _ _ _ _ c.requires _ _ _ _ c.plan.ensures refl _ c.in_ok-n.was c.if-n-gt-MAX_SERIES.false _ _ _
    c.tally-t.ensures _ c.room_for.ensures c.in_ok-room_for.was _ _ _ c.put_records-bytes.ensures c.put_rows.ensures
