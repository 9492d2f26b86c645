-- A join's edited record: its labels, and that they are what `set_tags` gives; its tags written. Assumes nothing.
use Rattle.std.specs.Prelude.{ℕ, ◌≤◌, ◌≡◌, refl, Bool, true, false, not, ◌&&◌, cond, List, length}
use Rattle.std.proofs.Common.{sym, ap, ◌∙◌}
use Rattle.model.specs.Limits.{max_label_bytes}
use Rattle.model.specs.Labels.{Tag, Labels, name_label, WellFormed}
use Rattle.model.specs.Record.{encode_tags}
use Rattle.model.specs.Edits.{Names, is_listed, clear_name_if, set_tags}
use Rattle.model.proofs.Laws.Edits.{clear_well}
use Rattle.model.proofs.Laws.SetTags.{set_tags_walk, set_tags_name}
use Rattle.model.specs.TagWalk.{walk_tags}
use Rattle.record_tags.specs.Lenient.{labels_of}
use Rattle.writing.specs.Written.{Put}
use Rattle.set_tags.specs.declared.PutTags.{PutTags}
use Rattle.set_tags.specs.declared.naming.Naming.{Naming}
use Rattle.set_tags.specs.declared.naming.Naming.TheVariants.{Nobody, Many, Source}
use Rattle.set_tags.specs.naming.Namings.{naming_of, name_of}
use Rattle.set_tags.specs.edited_tags.Walks.{edited_tags}

-- records of a label array
pub record ShortRecords (many source : List ℕ) : Type 0 where
  pub many_short : length many ≤ max_label_bytes
  pub source_short : length source ≤ max_label_bytes

-- d' is d with tags written at a place; r says how many they are, and the place behind them
pub record TagsPut (tags : List Tag) (d : List ℕ) (at : ℕ) (d' : List ℕ) (r : PutTags) : Type 0 where
  pub put : Put d at (encode_tags tags) d' r.end
  pub count : r.tags ≡ length tags

-- the edited labels, read off the two records; named as `naming` says, whatever the lists
abbrev pub edited : Names → Names → Naming → List ℕ → List ℕ → Labels
edited join skip naming many source = record { name = name_of naming many source; tags = edited_tags join skip many source }

name_set : (t reset : Bool) (many source : List ℕ)
    → name_of (cond t Source (cond reset Nobody Many)) many source ≡ cond t (labels_of source).name (clear_name_if reset (labels_of many)).name
name_set true reset many source = refl
name_set false true many source = refl
name_set false false many source = refl

clear_tags : (reset : Bool) (l : Labels) → (clear_name_if reset l).tags ≡ l.tags
clear_tags true l = refl
clear_tags false l = refl

-- of records in order they are the labels that `set_tags` gives
pub edited_is : (join skip : Names) (reset : Bool) (many source : List ℕ)
    → WellFormed (labels_of many) → WellFormed (labels_of source)
    → edited join skip (naming_of join skip reset) many source
    ≡ set_tags join skip (labels_of source) (clear_name_if reset (labels_of many))
edited_is join skip reset many source wm ws =
    let l = clear_name_if reset (labels_of many) in
    let name : name_of (naming_of join skip reset) many source ≡ (set_tags join skip (labels_of source) l).name =
    name_set (not (is_listed skip name_label) && is_listed join name_label) reset many source
    ∙ sym (set_tags_name join skip (labels_of source) l) in
    let tags : edited_tags join skip many source ≡ (set_tags join skip (labels_of source) l).tags =
    ap (λ ts. walk_tags join skip ts (labels_of source).tags) (sym (clear_tags reset (labels_of many)))
    ∙ sym (set_tags_walk join skip (labels_of source) l ws (clear_well reset (labels_of many) wm)) in
    λ i. record { name = name i; tags = tags i }
