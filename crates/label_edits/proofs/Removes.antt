-- `remove_tags_on` and `remove_tags_ignoring`, from the record with the tags of its key. Assumes nothing.
use Prim.Native.Nat.{ℕ, ◌≤◌, ◌+◌}
use mathlib.Core.Path.{◌≡◌, sym, ◌∙◌}
use mathlib.Core.List.{List}
use mathlib.Core.Bool.{Bool, not}
use lib.ListN.{length}
use Rattle.model.specs.Labels.{Labels, name_label}
use Rattle.model.specs.Record.{encode}
use Rattle.model.specs.Edits.{Names, is_listed, remove_tags_on, remove_tags_ignoring}
use Rattle.model.specs.Query.{on, ignoring}
use Rattle.writing.specs.Written.{Put}
use Rattle.kept_labels.specs.Edited.{kept, Sized, on_kept, ignoring_kept}
use Rattle.kept_labels.specs.declared.Size.{Size}

module _ (ns : Names) (l : Labels) (named : Bool) (h : named ≡ is_listed ns name_label) where
  on_is : kept on ns named l ≡ remove_tags_on ns l
  on_is = sym (on_kept ns l ∙ rw h)

  ignoring_is : kept ignoring ns (not named) l ≡ remove_tags_ignoring ns l
  ignoring_is = sym (ignoring_kept ns l ∙ rw h)

  pub on_sized : (z : Size) → Sized (kept on ns named l) z → Sized (remove_tags_on ns l) z
  on_sized z s = rw on_is at s

  pub ignoring_sized : (z : Size) → Sized (kept ignoring ns (not named) l) z → Sized (remove_tags_ignoring ns l) z
  ignoring_sized z s = rw ignoring_is at s

  module _ (d : List ℕ) (at : ℕ) where
    pub on_room : at + length (encode (remove_tags_on ns l)) ≤ length d → at + length (encode (kept on ns named l)) ≤ length d
    on_room r = rw on_is r

    pub ignoring_room : at + length (encode (remove_tags_ignoring ns l)) ≤ length d → at + length (encode (kept ignoring ns (not named) l)) ≤ length d
    ignoring_room r = rw ignoring_is r

    pub on_put : (d' : List ℕ) (r : ℕ) → Put d at (encode (kept on ns named l)) d' r → Put d at (encode (remove_tags_on ns l)) d' r
    on_put d' r p = rw on_is at p

    pub ignoring_put : (d' : List ℕ) (r : ℕ) → Put d at (encode (kept ignoring ns (not named) l)) d' r → Put d at (encode (remove_tags_ignoring ns l)) d' r
    ignoring_put d' r p = rw ignoring_is at p
