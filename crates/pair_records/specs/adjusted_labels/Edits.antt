-- The left labels of a pair, edited: what their record keeps. Assumes nothing.
use Rattle.std.specs.Prelude.{ℕ, Bool, true, not, ◌&&◌, ◌||◌, List, []}
use Rattle.model.specs.Labels.{Labels, name_label}
use Rattle.model.specs.Edits.{Names, is_listed}
use Rattle.model.specs.Query as Model
use Rattle.model.specs.Query.{should_reset_metric_group}
use Rattle.query.specs.declared.Query.{Query}
use Rattle.query.specs.Queries.{query_by}
use Rattle.kept_labels.specs.Edited.{kept}

-- a one-to-one query, with the bytes of its matching list; it has no join list
abbrev pub pair_query : List ℕ → Query → Model.Query
pair_query names q = query_by names [] q

-- whether a matching leaves the name: `on` where `__name__` is listed or names are kept, `ignoring` where it is not
abbrev pub leaves_name : Model.Matching → Names → Bool → Bool
leaves_name Model.all names keep_names = true
leaves_name Model.on names keep_names = keep_names || is_listed names name_label
leaves_name Model.ignoring names keep_names = not (is_listed names name_label)

-- whether an edited left label keeps its name
abbrev pub keeps_name : Model.Query → Bool
keeps_name q = not (should_reset_metric_group q) && leaves_name q.matching q.matching_list q.keep_names

-- labels edited: the tags of their key, and their name where it is kept
abbrev pub edited : Model.Query → Labels → Labels
edited q l = kept q.matching q.matching_list (keeps_name q) l
