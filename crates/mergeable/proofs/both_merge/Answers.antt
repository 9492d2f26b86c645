-- `both_merge` meets its contract. Assumes nothing.
use Prim.Native.Nat.{◌+◌, ◌≤◌}
use native.Mathlib.Omega.{arith}
use Rattle.mergeable.proofs.Counting.{both_start, both_turn, one_fits, other_fits}
use Rattle.mergeable.proofs.Counting.{one_below, other_below, one_fails, other_fails, both_told}
use Rattle.mergeable.proofs.both_merge.Goals as goal

pub loop-i-init : goal.loop-i-init
loop-i-init c = search both_start

pub overflow_add-n : goal.overflow_add-n
overflow_add-n c = let h : c.loop-i.n + c.either_gap-n.result ≤ c.loop-i.i + 1 = search one_fits in omega arith

pub overflow_add-m : goal.overflow_add-m
overflow_add-m c = let h : c.loop-i.m + c.either_gap-m.result ≤ c.loop-i.i + 1 = search other_fits in omega arith

pub loop-i-preserved : goal.loop-i-preserved
loop-i-preserved c = search both_turn

pub overflow_sub-dst : goal.overflow_sub-dst
overflow_sub-dst c = search one_below

pub returns-then-allowance-dst : goal.returns-then-allowance-dst
returns-then-allowance-dst c = search one_fails

pub overflow_sub-dst-2 : goal.overflow_sub-dst-2
overflow_sub-dst-2 c = search other_below

pub returns-then-allowance-dst-2 : goal.returns-then-allowance-dst-2
returns-then-allowance-dst-2 c = search other_fails

pub returns : goal.returns
returns c = search both_told
