-- `overwrite_word` meets its contract. Assumes nothing.
use native.Mathlib.Omega.{arith}
use Rattle.overwriting.proofs.Overwriting.{word_starts, word_row, word_turn, word_out, word_ends}
use Rattle.overwriting.proofs.overwrite_word.Goals as goal

pub loop-w-init : goal.loop-w-init
loop-w-init c = search word_starts

pub returns-then-count-i : goal.returns-then-count-i
returns-then-count-i c = search word_out

pub overwrite_if-requires : goal.overwrite_if-requires
overwrite_if-requires c = search word_row

pub overflow_add-i : goal.overflow_add-i
overflow_add-i c = omega arith

pub loop-w-smaller : goal.loop-w-smaller
loop-w-smaller c = omega arith

pub loop-w-preserved : goal.loop-w-preserved
loop-w-preserved c = search word_turn

pub returns : goal.returns
returns c = search word_ends
