-- `tag_tests::is_set` meets its contract. Assumes nothing.
use Rattle.set_tags.proofs.tag_tests.Tests.{skipped_unset, star_sets, listed_sets}
use Rattle.set_tags.proofs.tag_tests.is_set.Goals as goal

pub returns-then-in_list : goal.returns-then-in_list
returns-then-in_list c = search skipped_unset

pub returns-then-is_star : goal.returns-then-is_star
returns-then-is_star c = search star_sets

pub returns : goal.returns
returns c = search listed_sets
