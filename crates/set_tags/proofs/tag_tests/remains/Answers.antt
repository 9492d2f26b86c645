-- `tag_tests::remains` meets its contract. Assumes nothing.
use Rattle.set_tags.proofs.tag_tests.Tests.{star_remains, unset_remains}
use Rattle.set_tags.proofs.tag_tests.remains.Goals as goal

pub returns-then-is_star : goal.returns-then-is_star
returns-then-is_star c = search star_remains

pub returns : goal.returns
returns c = search unset_remains
