-- `three_merge` meets its contract. Assumes nothing.
use Rattle.pair_plan.proofs.pair_checks.Checks.{not_three, three_told}
use Rattle.pair_plan.proofs.pair_checks.three_merge.Goals as goal

pub returns-then-are_two : goal.returns-then-are_two
returns-then-are_two c = search three_told

pub returns-else-are_two : goal.returns-else-are_two
returns-else-are_two c = search not_three
