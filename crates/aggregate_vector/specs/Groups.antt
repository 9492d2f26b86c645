-- The groups of a request: the labels that they keep, and numbers that tell them. Assumes nothing.
use Rattle.std.specs.Prelude.{ℕ, ◌<◌, ◌≡◌, refl, Bool, true, false, List, map, eqb, length, get_or}
use Rattle.std.proofs.Common.{sym, ap, ◌∙◌}
use Rattle.std.proofs.lemmas.List.{length-map}
use Rattle.model.specs.Labels.{Labels, name_label, same_bytes, same_labels}
use Rattle.model.specs.Edits.{Names, is_listed, remove_tags_ignoring}
use Rattle.model.specs.Query.{Matching, on, ignoring, key_of}
use Rattle.model.specs.Aggregation.{Grouping, by, without, Aggregation, remove_group_tags, group_labels, same_group}
use Rattle.model.specs.Vector.{Series, Shape, series_of, take_vector}
use Rattle.model.proofs.Laws.Vector.{series_labels, series_count_lem}
use Rattle.semantics.specs.Call.{Outcome, concluded, fit, on_vector}
use Rattle.semantics.specs.Aggregates.{aggregate_verdict}
use Rattle.plan.specs.Pairs.{no_labels}
use Rattle.plan.specs.Aggregates.{group_rows, group_series}
use Rattle.plan.specs.Laws.Common.{no_series, get_or-labels, eqb_sym}
use Rattle.plan.specs.Laws.Aggregates.{TellsGroups, aggregate_held}
use Rattle.kept_labels.specs.Edited.{kept, on_kept}
use Rattle.side_parts.specs.Sides.{lent_series}
use Rattle.side_parts.specs.Lent.{Side, Held, side_labels, side_series}
use Rattle.key_numbers.specs.key_lookup.Keys.{same_keys, numbers}
use Rattle.key_numbers.specs.key_lookup.KeyLaws.{same_named, stands_at, numbers_match}

-- 02: `by` keeps listed tags, `without` removes them
abbrev pub group_matching : Grouping → Matching
group_matching by = on
group_matching without = ignoring

-- the name stays where `by` lists it
abbrev pub keeps_name : Grouping → Names → Bool
keeps_name by ns = is_listed ns name_label
keeps_name without ns = false

-- the labels of a request's groups, and the numbers of series by them
abbrev pub group_kept : Aggregation → Labels → Labels
group_kept r = kept (group_matching r.grouping) r.list (keeps_name r.grouping r.list)

abbrev pub group_numbers : Aggregation → List Labels → List ℕ
group_numbers r ls = numbers (keeps_name r.grouping r.list) (group_matching r.grouping) r.list ls ls

-- a call in stages: the vector, then its series
abbrev pub series_stage : Aggregation → Shape → List ℕ → List ℕ → List ℕ → ℕ → ℕ → Outcome
series_stage r shape array at rows label_room room =
    concluded label_room room shape (aggregate_verdict r (lent_series array at shape.points rows))

abbrev pub vector_stage : Aggregation → List ℕ → List ℕ → ℕ → ℕ → Outcome
vector_stage r labels readings label_room room =
    on_vector (take_vector 0 labels readings) (λ v. concluded label_room room v.shape (aggregate_verdict r v.series))

-- edited labels are kept ones

removed_kept : (g : Grouping) (ns : Names) (l : Labels)
    → remove_group_tags g ns l ≡ kept (group_matching g) ns (keeps_name g ns) l
unfolding remove_group_tags remove_tags_ignoring key_of
removed_kept by ns l = on_kept ns l
removed_kept without ns l = refl

pub edited_kept : (r : Aggregation) (l : Labels) → group_labels r l ≡ group_kept r l
edited_kept r l = removed_kept r.grouping r.list l

-- labels are the same exactly where keys are, with the name in them where it is kept
same_kept : (named : Bool) (m : Matching) (ns : Names) (l k : Labels)
    → same_labels (kept m ns named l) (kept m ns named k) ≡ same_keys named m ns l k
unfolding same_labels same_bytes
same_kept true m ns l k = sym (same_named m ns l k)
same_kept false m ns l k = refl

same_groups : (r : Aggregation) (l k : Labels)
    → same_group r l k ≡ same_keys (keeps_name r.grouping r.list) (group_matching r.grouping) r.list l k
unfolding same_group
same_groups r l k =
    rw (edited_kept r l, edited_kept r k)
    (same_kept (keeps_name r.grouping r.list) (group_matching r.grouping) r.list l k)

-- the numbers of series tell their groups
module _ (r : Aggregation) (ls : List Labels) (p : ℕ) (rows : List ℕ) where
  abbrev ss : List Series
  ss = series_of p ls rows

  labels_at : (i : ℕ) → (get_or ss i no_series).labels ≡ get_or ls i no_labels
  labels_at i = sym (get_or-labels ss i) ∙ ap (λ (x : List Labels). get_or x i no_labels) (series_labels p ls rows)

  pub groups_told : TellsGroups r (series_of p ls rows) (group_numbers r ls)
  groups_told = record {
    size = length-map ls _ ∙ sym (series_count_lem p ls rows);
    tells = λ i j hi hj.
        let wi : i < length ls = rw (series_count_lem p ls rows) at hi in
        let wj : j < length ls = rw (series_count_lem p ls rows) at hj in
        rw (labels_at i, labels_at j, same_groups r (get_or ls i no_labels) (get_or ls j no_labels))
        (alike i j wi wj);
  }
    where
      alike : (i j : ℕ) → i < length ls → j < length ls
          → eqb (get_or (group_numbers r ls) j 0) (get_or (group_numbers r ls) i 0)
          ≡ same_keys (keeps_name r.grouping r.list) (group_matching r.grouping) r.list (get_or ls i no_labels)
          (get_or ls j no_labels)
      alike i j hi hj =
          eqb_sym (get_or (group_numbers r ls) j 0) (get_or (group_numbers r ls) i 0)
          ∙ numbers_match (keeps_name r.grouping r.list) (group_matching r.grouping) r.list ls ls ls i j
          no_labels hi hj (stands_at ls i no_labels hi) (stands_at ls j no_labels hj)

-- the law: a side that is held, its series numbered by their groups, concludes as its groups with kept labels do
pub groups_kept : (r : Aggregation) (p : ℕ) (x : Side) → Held p x → x.keys ≡ group_numbers r (side_labels x)
    → (label_room room : ℕ) (shape : Shape)
    → concluded label_room room shape (aggregate_verdict r (side_series p x))
    ≡ fit label_room room shape
    (map (group_series r.aggregate (group_kept r) p (side_labels x) x.keys x.rows) (group_rows x.keys))
groups_kept r p x held e label_room room shape =
    let told : TellsGroups r (side_series p x) x.keys = rw e (groups_told r (side_labels x) p x.rows) in
    aggregate_held r p x held told label_room room shape ∙ ap edited (λ i l. edited_kept r l i)
  where
    edited : (Labels → Labels) → Outcome
    edited f =
        fit label_room room shape
        (map (group_series r.aggregate f p (side_labels x) x.keys x.rows) (group_rows x.keys))
