-- `overlaps` meets its contract. Assumes nothing.
use Rattle.std.proofs.Common.{rules, ◌∙◌, length-append, arith}
use Rattle.std.proofs.lemmas.Slice.Zip.{zip_turn, zip_end}
use Rattle.mergeable.proofs.Counting.{count_starts, count_turn, count_fits, count_ends}
use Rattle.mergeable.proofs.overlaps.Goals as goal

pub loop-x-init : goal.loop-x-init
loop-x-init c = count_starts c.args.dst.now c.args.src.now

pub overflow_add-n : goal.overflow_add-n
overflow_add-n c = let a = c.args in
    let z = zip_turn a.dst.now a.src.now c.loop-x.yielded _ _ c.next.new.self _ (search rules) (search rules) c.loop-x.yielded_by _
    c.in-Some.is c.next.ensures.steps in
    let h = count_fits a.dst.now a.src.now _ _ c.loop-x.invariant _ (c.either_gap-n.ensures ∙ rw (z.2 0, z.3 0)) c.requires z.0 in omega (arith, h)

pub loop-x-preserved : goal.loop-x-preserved
loop-x-preserved c = let a = c.args in
    let z = zip_turn a.dst.now a.src.now c.loop-x.yielded _ _ c.next.new.self _ (search rules) (search rules) c.loop-x.yielded_by _
    c.in-Some.is c.next.ensures.steps in
    simp length-append (count_turn _ _ _ _ c.loop-x.invariant _ (c.either_gap-n.ensures ∙ rw (z.2 0, z.3 0)) c.requires z.0)

pub returns : goal.returns
returns c = let a = c.args in
    let z = zip_end a.dst.now a.src.now c.loop-x.yielded _ _ c.next.new.self _ (search rules) (search rules) c.loop-x.yielded_by
    c.in-None.is c.next.ensures.steps in
    count_ends _ _ _ _ c.loop-x.invariant (omega (arith, z, c.requires))
