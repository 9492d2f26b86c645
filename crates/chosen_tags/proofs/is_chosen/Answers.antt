-- `chosen_tags::is_chosen` meets its contract. Assumes nothing.
use Rattle.chosen_tags.proofs.Keys.{chosen_on, chosen_ignoring}
use Rattle.chosen_tags.proofs.is_chosen.Goals as goal

pub returns-in-On : goal.returns-in-On
returns-in-On c = search chosen_on

pub returns-in-Ignoring : goal.returns-in-Ignoring
returns-in-Ignoring c = search chosen_ignoring
