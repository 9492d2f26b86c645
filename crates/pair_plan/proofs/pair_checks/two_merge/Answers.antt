-- `two_merge` meets its contract. Assumes nothing.
use mathlib.Core.Path.{sym, ◌∙◌}
use borrow.Author.Rules.{rules}
use Rattle.pair_series.proofs.Two.{two_left, two_right, first_there, last_wide, first_wide}
use Rattle.pair_plan.proofs.pair_checks.Checks.{no_twos, twos_told}
use Rattle.pair_plan.proofs.pair_checks.two_merge.Goals as goal

pub row-requires-then-both_two : goal.row-requires-then-both_two
row-requires-then-both_two c = first_there _ _ _ _ _ (two_left _ c.requires.both_rows_held _ c.requires.pair_code
    (search rules)) _ c.left_first.ensures

pub row-requires-then-both_two-3 : goal.row-requires-then-both_two-3
row-requires-then-both_two-3 c = first_there _ _ _ _ _ (two_right _ c.requires.both_rows_held _
    c.requires.pair_code (search rules)) _ c.right_first.ensures

pub both_merge-requires-clause-src_len : goal.both_merge-requires-clause-src_len
both_merge-requires-clause-src_len c = let l = two_left _ c.requires.both_rows_held _ c.requires.pair_code
    (search rules) in first_wide _ _ _ _ _ l _ c.left_first.ensures _ c.row-then-both_two.ensures ∙ sym
    (last_wide _ _ _ _ _ l _ c.left_last.ensures _ c.row.ensures)

pub both_merge-requires-clause-other_src_len : goal.both_merge-requires-clause-other_src_len
both_merge-requires-clause-other_src_len c = let l = two_left _ c.requires.both_rows_held _ c.requires.pair_code
    (search rules) in let r = two_right _ c.requires.both_rows_held _ c.requires.pair_code (search rules) in
    first_wide _ _ _ _ _ r _ c.right_first.ensures _ c.row-then-both_two-3.ensures ∙ sym (last_wide _ _ _ _ _ l _
    c.left_last.ensures _ c.row.ensures)

pub returns-then-both_two : goal.returns-then-both_two
returns-then-both_two c = search twos_told

pub returns-else-both_two : goal.returns-else-both_two
returns-else-both_two c = search no_twos
