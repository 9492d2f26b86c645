-- A walk over the tags of an edited record: the tags left, and its steps. Assumes nothing.
use Rattle.std.specs.Prelude.{ℕ, ◌+◌, ◌<◌, ◌≡◌, List, [], ◌∷◌, length, Some, None}
use Rattle.std.specs.declared.option.Option.{Option}
use Rattle.model.specs.Labels.{Tag}
use Rattle.model.specs.Edits.{Names}
use Rattle.model.specs.TagWalk.{walk_tags}
use Rattle.labels.specs.Names.{names_of}
use Rattle.record_tags.specs.Lenient.{labels_of}
use Rattle.record_tags.specs.Cursors.{tag_of, tags_left}
use Rattle.record_tags.specs.declared.tag_parts.Tag as T
use Rattle.set_tags.specs.declared.edited_tags.Edited.{Edited}

-- the edited tags of a many-side record and a source's
abbrev pub edited_tags : Names → Names → List ℕ → List ℕ → List Tag
edited_tags join skip many source = walk_tags join skip (labels_of many).tags (labels_of source).tags

-- those of them that are left
abbrev pub edited_left : Edited → List Tag
edited_left e = walk_tags (names_of e.join.now) (names_of e.skip.now) (tags_left e.many) (tags_left e.source)

-- how many tags of both records are left
abbrev pub tags_in : Edited → ℕ
tags_in e = length (tags_left e.many) + length (tags_left e.source)

-- a step gives the first of the tags left, or passes a tag that the edited record lacks, or is at the end
abbrev pub StepsOver : Edited → Option (Option T.Tag) → Edited → Type 0
StepsOver e None e' = (edited_left e ≡ []) × (edited_left e' ≡ [])
StepsOver e (Some None) e' = (edited_left e ≡ edited_left e') × (tags_in e' < tags_in e)
StepsOver e (Some (Some t)) e' = edited_left e ≡ tag_of t ∷ edited_left e'
