-- A record's tags, judged. Assumes nothing.
use Rattle.std.proofs.Common.{◌≡◌, ◌&&◌, List, [], ◌∷◌, refl}
use Rattle.std.specs.List.{list_all}
use Rattle.model.specs.Labels.{Tag, Labels}
use Rattle.exposition.specs.Faults.{is_name, good_tag, good_tags, good_labels}

all_good : (ts : List Tag) → list_all good_tag ts ≡ good_tags ts
unfolding good_tags
all_good [] = refl
all_good (t ∷ ts) = rw (all_good ts)

pub labels_judged : (l : Labels) → good_labels l ≡ (is_name l.name && list_all good_tag l.tags)
unfolding good_labels
labels_judged l = rw (all_good l.tags)
