-- The tags of a key that are left. Assumes nothing.
use Rattle.std.specs.Prelude.{List}
use Rattle.model.specs.Labels.{Tag}
use Rattle.model.specs.Query.{key_of}
use Rattle.labels.specs.Names.{names_of}
use Rattle.labels.specs.Matchings.{matching_of}
use Rattle.record_tags.specs.Cursors.{tags_left}
use Rattle.chosen_tags.specs.declared.Chosen.{Chosen}

abbrev pub chosen_left : Chosen → List Tag
chosen_left c = key_of (matching_of c.matching) (names_of c.list.now) (tags_left c.tags)
