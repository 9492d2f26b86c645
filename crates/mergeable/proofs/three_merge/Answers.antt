-- `three_merge` meets its contract. Assumes nothing.
use Prim.Native.Nat.{◌+◌, ◌≤◌}
use native.Mathlib.Omega.{arith}
use Rattle.mergeable.proofs.Counting.{three_start, three_turn, first_fits, then_fits}
use Rattle.mergeable.proofs.Counting.{first_below, then_below, first_fails, then_fails, three_told}
use Rattle.mergeable.proofs.three_merge.Goals as goal

pub loop-i-init : goal.loop-i-init
loop-i-init c = search three_start

pub overflow_add-n : goal.overflow_add-n
overflow_add-n c = let h : c.loop-i.n + c.either_gap-n.result ≤ c.loop-i.i + 1 = search first_fits in omega arith

pub overflow_add-k : goal.overflow_add-k
overflow_add-k c = let h : c.loop-i.k + c.gap_after-k.result ≤ c.loop-i.i + 1 = search then_fits in omega arith

pub loop-i-preserved : goal.loop-i-preserved
loop-i-preserved c = search three_turn

pub overflow_sub-dst : goal.overflow_sub-dst
overflow_sub-dst c = search first_below

pub returns-then-allowance-dst : goal.returns-then-allowance-dst
returns-then-allowance-dst c = search first_fails

pub overflow_sub-dst-2 : goal.overflow_sub-dst-2
overflow_sub-dst-2 c = search then_below

pub returns-then-allowance-dst-2 : goal.returns-then-allowance-dst-2
returns-then-allowance-dst-2 c = search then_fails

pub returns : goal.returns
returns c = search three_told
