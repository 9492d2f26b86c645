-- An edited record is no longer than the two that it is made of, and its parts can be counted. Assumes nothing.
use Prim.Native.Nat.{ℕ, ◌+◌, ◌≤◌}
use mathlib.Core.Path.{◌≡◌}
use mathlib.Core.Bool.{Bool, true, false, cond}
use mathlib.Core.List.{List, [], ◌∷◌}
use native.Mathlib.Omega.{arith}
use mir.Syntax.{w64}
use mir.Val.{Fits}
use lib.ListN.{length}
use Rattle.model.specs.Lists.{cases, keep}
use Rattle.model.specs.Labels.{Tag, same_bytes, below}
use Rattle.model.specs.Record.{encode_field, encode_tags}
use Rattle.model.specs.Edits.{Names}
use Rattle.model.specs.TagWalk.{is_set, remains, cons_if, walk_tags}
use Rattle.model.proofs.Laws.SetTags.{walk_many, walk_both, walk_lower, walk_higher}
use Rattle.record_tags.specs.Lenient.{labels_of}
use Rattle.record_tags.specs.Cursors.{encode_tag, keep_sieve}
use Rattle.kept_labels.specs.Edited.{Sized}
use Rattle.record_tags.proofs.Sizes.{length-tags}
use Rattle.kept_labels.proofs.Sizes.{length-labels, chosen_short, labels_short}
use Rattle.set_tags.specs.edited_tags.Walks.{edited_tags}
use Rattle.set_tags.specs.naming.Namings.{name_of}
use Rattle.set_tags.specs.Records.{ShortRecords, edited}
use Rattle.set_tags.specs.declared.naming.Naming.{Naming}
use Rattle.set_tags.specs.declared.naming.Naming.TheVariants.{Nobody, Many, Source}

-- a tag that is kept or not, and one of two tags
kept_short : (b : Bool) (t : Tag) (ts : List Tag)
    → length (encode_tags (cons_if b t ts)) ≤ length (encode_tag t) + length (encode_tags ts)
kept_short true t ts = omega (arith, length-tags t ts)
kept_short false t ts = omega arith

one_short : (b : Bool) (s t : Tag) → length (encode_tag (cond b s t)) ≤ length (encode_tag s) + length (encode_tag t)
one_short true s t = omega arith
one_short false s t = omega arith

-- a walk adds no byte
module _ (join skip : Names) where
  abbrev bytes : List Tag → List Tag → ℕ
  bytes ms ss = length (encode_tags (walk_tags join skip ms ss))

  source_short_lem : (ss : List Tag) → bytes [] ss ≤ length (encode_tags ss)
  unfolding walk_tags
  source_short_lem =
      chosen_short (is_set join skip) (keep (λ t. is_set join skip t.key)) (keep_sieve (is_set join skip))

  walk_short : (ms ss : List Tag) → bytes ms ss ≤ length (encode_tags ms) + length (encode_tags ss)
  walk_short [] ss = omega (arith, source_short_lem ss)
  walk_short (m ∷ ms) ss = go ss (walk_short ms)
    where
      go : (ss : List Tag) → ((us : List Tag) → bytes ms us ≤ length (encode_tags ms) + length (encode_tags us))
          → bytes (m ∷ ms) ss ≤ length (encode_tags (m ∷ ms)) + length (encode_tags ss)
      go [] ih =
          rw (walk_many join skip m ms)
          (omega (arith, kept_short (remains join skip m.key) m (walk_tags join skip ms []), ih [], length-tags m ms))
      go (s ∷ ss) ih =
          cases (same_bytes m.key s.key)
          (λ e. rw (walk_both join skip m ms s ss e)
          (omega (
            arith,
            length-tags (cond (is_set join skip m.key) s m) (walk_tags join skip ms ss),
            one_short (is_set join skip m.key) s m,
            ih ss,
            length-tags m ms,
            length-tags s ss,
          )))
          (λ e. cases (below m.key s.key)
          (λ f. rw (walk_lower join skip m ms s ss e f)
          (omega (
            arith,
            kept_short (remains join skip m.key) m (walk_tags join skip ms (s ∷ ss)),
            ih (s ∷ ss),
            length-tags m ms,
          )))
          (λ f. rw (walk_higher join skip m ms s ss e f)
          (omega (
            arith,
            kept_short (is_set join skip s.key) s (walk_tags join skip (m ∷ ms) ss),
            go ss ih,
            length-tags s ss,
          ))))

-- a record's name and tags are no longer than the record
parts_short : (s : List ℕ) → length (labels_of s).name + length (encode_tags (labels_of s).tags) ≤ length s
parts_short s = omega (arith, labels_short s, length-labels (labels_of s))

pub edited_short : (join skip : Names) (many source : List ℕ)
    → length (encode_tags (edited_tags join skip many source)) ≤ length many + length source
edited_short join skip many source =
    let walked = walk_short join skip (labels_of many).tags (labels_of source).tags in
    omega (arith, walked, parts_short many, parts_short source)

naming_short : (naming : Naming) (many source : List ℕ)
    → length (name_of naming many source) ≤ length many + length source
naming_short Nobody many source = omega arith
naming_short Many many source = omega (arith, parts_short many)
naming_short Source many source = omega (arith, parts_short source)

-- `set_tags_size`
module _ (naming : Naming) (many source : List ℕ) (short : ShortRecords many source) (n : ℕ)
    (hn : n ≡ length (encode_field (name_of naming many source))) where
  pub name_fit : Fits w64 (n + 1)
  name_fit = omega (arith, naming_short naming many source, short.many_short, short.source_short)

  -- with the tags of any two records
  pub record_fit : (a b : List ℕ) (join skip : Names) (k : ℕ)
      → k ≡ length (encode_tags (edited_tags join skip a b)) → ShortRecords a b → Fits w64 (n + 1 + k)
  record_fit a b join skip k hk small =
      omega (arith, naming_short naming many source, edited_short join skip a b, short.many_short, short.source_short, small.many_short, small.source_short)

  pub record_sized : (join skip : Names) (t k : ℕ) → t ≡ length (edited_tags join skip many source)
      → k ≡ length (encode_tags (edited_tags join skip many source))
      → Sized (edited join skip naming many source) (record { tags = t; bytes = n + 1 + k })
  record_sized join skip t k ht hk = record { tags = ht; bytes = omega (arith, length-labels (edited join skip naming many source)) }
