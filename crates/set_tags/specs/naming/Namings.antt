-- The name of a join's edited record. Assumes nothing.
use Rattle.std.specs.Prelude.{ℕ, Bool, not, ◌&&◌, cond, List, []}
use Rattle.model.specs.Labels.{name_label}
use Rattle.model.specs.Edits.{Names, is_listed}
use Rattle.record_tags.specs.Lenient.{labels_of}
use Rattle.set_tags.specs.declared.naming.Naming.{Naming}
use Rattle.set_tags.specs.declared.naming.Naming.TheVariants.{Nobody, Many, Source}

-- 01: its name cleared where `should_reset_metric_group` says and its tags then set by `set_tags`; `__name__` from the source's name
abbrev pub naming_of : Names → Names → Bool → Naming
naming_of join skip reset = cond (not (is_listed skip name_label) && is_listed join name_label) Source (cond reset Nobody Many)

abbrev pub name_of : Naming → List ℕ → List ℕ → List ℕ
name_of Nobody many source = []
name_of Many many source = (labels_of many).name
name_of Source many source = (labels_of source).name
