-- A record with some of its tags, and what an edited record comes to. Assumes nothing.
use Rattle.std.specs.Prelude.{ℕ, ◌≡◌, refl, Bool, true, false, not, cond, List, [], length}
use Rattle.std.proofs.Common.{ap}
use Rattle.model.specs.Labels.{Tag, Labels, name_label}
use Rattle.model.specs.Record.{encode_tags, encode}
use Rattle.model.specs.Edits.{Names, is_listed, tags_ignoring, remove_tags_on, remove_tags_ignoring}
use Rattle.model.specs.Query.{Matching, on, ignoring, key_of}
use Rattle.kept_labels.specs.declared.Size.{Size}

-- labels with the tags of their key, and their name or none
abbrev pub kept : Matching → Names → Bool → Labels → Labels
kept m ns keep_name l = record { name = cond keep_name l.name []; tags = key_of m ns l.tags }

-- how many tags, and their bytes
pub record TagsSized (ts : List Tag) (z : Size) : Type 0 where
  pub tags : z.tags ≡ length ts
  pub bytes : z.bytes ≡ length (encode_tags ts)

-- how many tags labels have, and the bytes of their record
pub record Sized (l : Labels) (z : Size) : Type 0 where
  pub tags : z.tags ≡ length l.tags
  pub bytes : z.bytes ≡ length (encode l)

-- 01: `remove_tags_on` keeps listed tags and clears the name unless `__name__` is listed.
pub on_kept : (ns : Names) (l : Labels) → remove_tags_on ns l ≡ kept on ns (is_listed ns name_label) l
unfolding remove_tags_on key_of
on_kept ns l = refl

-- 01: `remove_tags_ignoring` removes listed tags, and the name if `__name__` is listed.
pub ignoring_kept : (ns : Names) (l : Labels) → remove_tags_ignoring ns l ≡ kept ignoring ns (not (is_listed ns name_label)) l
unfolding remove_tags_ignoring key_of
ignoring_kept ns l = ap (λ (x : List ℕ). record { name = x; tags = tags_ignoring ns l.tags }) (swapped (is_listed ns name_label))
  where
    swapped : (b : Bool) → cond b [] l.name ≡ cond (not b) l.name []
    swapped true = refl
    swapped false = refl
