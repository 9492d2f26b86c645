-- The labels that a join makes of two series' labels, by who names them and its two lists. Assumes nothing.
use Rattle.std.specs.Prelude.{ℕ, ◌≡◌, refl, List, []}
use Rattle.model.specs.Labels.{Labels}
use Rattle.model.specs.Edits.{Names}
use Rattle.model.specs.TagWalk.{walk_tags}
use Rattle.plan.specs.Joins.{Edit}
use Rattle.record_tags.specs.Lenient.{labels_of}
use Rattle.set_tags.specs.declared.naming.Naming.{Naming}
use Rattle.set_tags.specs.declared.naming.Naming.TheVariants.{Nobody, Many, Source}
use Rattle.set_tags.specs.naming.Namings.{name_of}
use Rattle.set_tags.specs.Records.{edited}

-- 01: its tags then set by `set_tags`. Of the many-side labels m, from the one-side labels o.
abbrev pub tags_by : Names → Names → Edit
tags_by join skip m o = walk_tags join skip m.tags o.tags

-- 01: its name cleared where `should_reset_metric_group` says; `__name__` from the source's name
abbrev pub name_by : Naming → Labels → Labels → List ℕ
name_by Nobody m o = []
name_by Many m o = m.name
name_by Source m o = o.name

abbrev pub edited_by : Names → Names → Naming → Labels → Labels → Labels
edited_by join skip naming m o = record { name = name_by naming m o; tags = tags_by join skip m o }

named_by : (naming : Naming) (many source : List ℕ)
    → name_of naming many source ≡ name_by naming (labels_of many) (labels_of source)
named_by Nobody many source = refl
named_by Many many source = refl
named_by Source many source = refl

-- an edited record has the labels edited
pub edited_by_lem : (join skip : Names) (naming : Naming) (many source : List ℕ)
    → edited join skip naming many source ≡ edited_by join skip naming (labels_of many) (labels_of source)
edited_by_lem join skip naming many source = rw (named_by naming many source)
