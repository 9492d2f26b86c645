-- The edit of a left record is the model's, `adjust_binary_op_tags`, where its keys ascend. Assumes nothing.
use Prim.Native.Nat.{ℕ}
use mathlib.Core.Path.{◌≡◌, refl, sym, ap, ◌∙◌}
use mathlib.Core.Bool.{Bool, true, false, not, ◌&&◌, cond}
use mathlib.Core.List.{List, [], ◌∷◌}
use Rattle.model.specs.Lists.{cases}
use Rattle.model.specs.Labels.{Tag, Labels, same_bytes, below, name_label, may_follow, ascending}
use Rattle.model.specs.Edits.{Names, is_listed, tags_on, tags_ignoring, remove_tags_on, remove_tags_ignoring, clear_name_if}
use Rattle.model.specs.Query as Model
use Rattle.model.specs.Query.{key_of, should_reset_metric_group}
use Rattle.model.proofs.Laws.Booleans.{both_of, never}
use Rattle.model.proofs.Laws.Order.{same_is, same_refl, is_same}
use Rattle.kept_labels.specs.Edited.{kept}
use Rattle.semantics.specs.Binop.{edited_by, adjust_binary_op_tags}
use Rattle.pair_records.specs.adjusted_labels.Edits.{leaves_name, edited}

none_ignored : (ts : List Tag) → tags_ignoring [] ts ≡ ts
unfolding tags_ignoring is_listed
none_ignored [] = refl
none_ignored (t ∷ ts) = rw (none_ignored ts)

-- no tag has the key `__name__`
not_name : (p k : List ℕ) → may_follow p k ≡ true → same_bytes name_label k ≡ false
not_name p k h =
    cases (same_bytes name_label k)
    (λ e. never (sym (unlike (same_bytes k name_label) (both_of (below p k) (not (same_bytes k name_label)) h).1)
    ∙ is_same k name_label (sym (same_is name_label k e))))
    (λ e. e)
  where
    unlike : (b : Bool) → not b ≡ true → b ≡ false
    unlike true e = sym e
    unlike false e = refl

name_unlisted : (ns : Names) (p : List ℕ) (ts : List Tag) → ascending p ts ≡ true
    → tags_on (name_label ∷ ns) ts ≡ tags_on ns ts
unfolding tags_on is_listed ascending
name_unlisted ns p [] h = refl
name_unlisted ns p (t ∷ ts) h =
    let f = both_of (may_follow p t.key) (ascending t.key ts) h in
    rw (not_name p t.key f.0, name_unlisted ns t.key ts f.1)

abbrev with_name : List ℕ → List Tag → Labels
with_name n ts = record { name = n; tags = ts }

module _ (ns : Names) (l : Labels) where
  name_after : (reset leaves : Bool)
      → cond leaves (clear_name_if reset l).name [] ≡ cond (not reset && leaves) l.name []
  name_after true true = refl
  name_after true false = refl
  name_after false leaves = refl

  tags_after : (reset : Bool) → (clear_name_if reset l).tags ≡ l.tags
  tags_after true = refl
  tags_after false = refl

  swapped : (b : Bool) (x : List ℕ) → cond b [] x ≡ cond (not b) x []
  swapped true x = refl
  swapped false x = refl

  listed_first : is_listed (name_label ∷ ns) name_label ≡ true
  unfolding is_listed
  listed_first = rw (same_refl name_label)

  edited_kept : (m : Model.Matching) (k reset : Bool) → ascending [] l.tags ≡ true
      → edited_by m ns k (clear_name_if reset l) ≡ kept m ns (not reset && leaves_name m ns k) l
  unfolding remove_tags_ignoring remove_tags_on key_of
  edited_kept Model.all k reset h =
      rw (tags_after reset, none_ignored l.tags, unlisted) (ap (λ n. with_name n l.tags) (name_after reset true))
    where
      unlisted : is_listed [] name_label ≡ false
      unlisted = unfold is_listed in refl
  edited_kept Model.on true reset h =
      rw (tags_after reset, listed_first, name_unlisted ns [] l.tags h)
      (ap (λ n. with_name n (tags_on ns l.tags)) (name_after reset true))
  edited_kept Model.on false reset h =
      rw (tags_after reset) (ap (λ n. with_name n (tags_on ns l.tags)) (name_after reset (is_listed ns name_label)))
  edited_kept Model.ignoring k reset h =
      rw (tags_after reset)
      (ap (λ n. with_name n (tags_ignoring ns l.tags))
      (swapped (is_listed ns name_label) (clear_name_if reset l).name ∙ name_after reset (not (is_listed ns name_label))))

-- where keys ascend, the edit is that of the model
pub adjusted_kept : (q : Model.Query) (l : Labels) → ascending [] l.tags ≡ true → adjust_binary_op_tags q l ≡ edited q l
unfolding adjust_binary_op_tags
adjusted_kept q l h = edited_kept q.matching_list l q.matching q.keep_names (should_reset_metric_group q) h
