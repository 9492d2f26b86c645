-- Requests for aggregates: their bytes and what is taken from them, and the labels that they edit. Assumes nothing.
use Rattle.std.specs.Prelude.{ℕ, ◌+◌, ◌≤◌, ◌≡◌, Bool, true, false, not, leb, length}
use Rattle.std.proofs.Math.Path.{refl, ap}
use Rattle.std.proofs.Common.{sym, ◌∙◌, arith, length-append, le-leb, leb-true}
use Rattle.std.proofs.Math.Bool.{cond}
use mathlib.Core.List.{List, [], ◌∷◌, ◌++◌, append-nil}
use Rattle.model.specs.Encoded.{aggregation_bytes, aggregation_of}
use Rattle.model.specs.Lists.{cases, keep, is_empty}
use Rattle.model.specs.Labels.{Tag, Labels, name_label, WellFormed}
use Rattle.model.specs.Record.{encode_tags, encode}
use Rattle.model.specs.Edits.{Names, is_listed, tags_on, tags_ignoring, remove_tags_on, remove_tags_ignoring}
use Rattle.model.specs.Query.{Listed, not_listed, listed, list_in, on_listed}
use Rattle.model.specs.Aggregation.{Grouping, by, without, Aggregation, remove_group_tags, group_labels, same_group}
use Rattle.model.specs.Aggregation.{aggregation, bad_aggregate, malformed_aggregation}
use Rattle.model.specs.Aggregation.{aggregate_of, grouping_of, with_list, with_grouping, take_aggregation}
use Rattle.model.proofs.Laws.Tags.{same_labels_is, same_labels_refl}
use Rattle.model.proofs.Laws.Edits.{clear_well, on_well, ignoring_well}
use Rattle.model.proofs.Laws.Query.{GoodList, list_again, list_is}
use Rattle.model.specs.Encoded.{encode_list}

-- bytes

pub take-aggregation : (a g : ℕ) (ns : Names) → a ≤ 4 → g ≤ 1 → GoodList ns
    → take_aggregation (aggregation_bytes a g ns) ≡ aggregation (aggregation_of a g ns)
unfolding take_aggregation
take-aggregation a g ns ha hg l =
    let e : list_in (encode_list ns) ≡ listed ns [] = ap list_in (sym (append-nil (encode_list ns))) ∙ list_again ns [] l in
    rw (le-leb a 4 ha, le-leb g 1 hg, e)

-- and no other bytes
pub record AggregationIs (s : List ℕ) (r : Aggregation) : Type 0 where
  pub number : ℕ
  pub grouping : ℕ
  pub names : Names
  pub few : number ≤ 4
  pub either : grouping ≤ 1
  pub good : GoodList names
  pub bytes : s ≡ aggregation_bytes number grouping names
  pub is : r ≡ aggregation_of number grouping names

module _ (r : Aggregation) where
  not_malformed : {X : Type 0} → malformed_aggregation ≡ aggregation r → X
  not_malformed e = absurd (let z : ◌≡◌ {A = ℕ} 0 1 = cc in omega arith)

  not_bad : {X : Type 0} → bad_aggregate ≡ aggregation r → X
  not_bad e = absurd (let z : ◌≡◌ {A = ℕ} 0 1 = cc in omega arith)

  pub taken_aggregation : (s : List ℕ) → take_aggregation s ≡ aggregation r → AggregationIs s r
  unfolding take_aggregation
  taken_aggregation [] e = not_malformed e
  taken_aggregation (a ∷ []) e = cases (leb a 4) (λ h. not_malformed (rw h at e)) (λ h. not_bad (rw h at e))
  taken_aggregation (a ∷ g ∷ s) e = numbered (leb a 4) refl e
    where
      ended : a ≤ 4 → g ≤ 1 → (ns : Names) (rest : List ℕ) → list_in s ≡ listed ns rest
          → cond (is_empty rest) (aggregation (aggregation_of a g ns)) malformed_aggregation ≡ aggregation r
          → AggregationIs (a ∷ g ∷ s) r
      ended ha hg ns (x ∷ rest) l e = not_malformed e
      ended ha hg ns [] l e =
          let h = list_is s ns [] l in
          record {
            number = a;
            grouping = g;
            names = ns;
            few = ha;
            either = hg;
            good = h.good;
            bytes = ap (λ (t : List ℕ). a ∷ g ∷ t) (h.bytes ∙ append-nil (encode_list ns));
            is = cc;
          }

      list : a ≤ 4 → g ≤ 1 → (l : Listed) → list_in s ≡ l
          → on_listed l malformed_aggregation (λ ns rest.
          cond (is_empty rest) (aggregation (aggregation_of a g ns)) malformed_aggregation) ≡ aggregation r
          → AggregationIs (a ∷ g ∷ s) r
      list ha hg not_listed l e = not_malformed e
      list ha hg (listed ns rest) l e = ended ha hg ns rest l e

      grouped : a ≤ 4 → (t : Bool) → leb g 1 ≡ t
          → cond t (with_list (aggregate_of a) (grouping_of g) s) malformed_aggregation ≡ aggregation r
          → AggregationIs (a ∷ g ∷ s) r
      grouped ha false h e = not_malformed e
      grouped ha true h e = list ha (leb-true g 1 h) (list_in s) refl e

      numbered : (t : Bool) → leb a 4 ≡ t → cond t (with_grouping (aggregate_of a) (g ∷ s)) bad_aggregate ≡ aggregation r
          → AggregationIs (a ∷ g ∷ s) r
      numbered false h e = not_bad e
      numbered true h e = grouped (leb-true a 4 h) (leb g 1) refl e

-- labels

-- 02: series whose edited labels are equal, name included
pub same_group_is : (r : Aggregation) (l m : Labels) → same_group r l m ≡ true → group_labels r l ≡ group_labels r m
unfolding same_group
same_group_is r l m e = same_labels_is (group_labels r l) (group_labels r m) e

pub is_same_group : (r : Aggregation) (l m : Labels) → group_labels r l ≡ group_labels r m → same_group r l m ≡ true
unfolding same_group
is_same_group r l m e = rw (← e) (same_labels_refl (group_labels r l))

pub group_well : (g : Grouping) (ns : Names) (l : Labels) → WellFormed l → WellFormed (remove_group_tags g ns l)
unfolding remove_group_tags
group_well by ns l w = on_well ns l w
group_well without ns l w = clear_well true (remove_tags_ignoring ns l) (ignoring_well ns l w)

-- an edit gives no more tags, and a record that is no longer

tags_length : (t : Tag) (ts : List Tag)
    → length (encode_tags (t ∷ ts)) ≡ 2 + length t.key + length t.value + length (encode_tags ts)
unfolding encode_tags
tags_length t ts =
    omega (
      arith,
      length-append (length t.key ∷ t.key) ((length t.value ∷ t.value) ++ encode_tags ts),
      length-append (length t.value ∷ t.value) (encode_tags ts),
    )

labels_length : (l : Labels) → length (encode l) ≡ 2 + length l.name + length (encode_tags l.tags)
unfolding encode
labels_length l = omega (arith, length-append (length l.name ∷ l.name) (length l.tags ∷ encode_tags l.tags))

module _ (p : Tag → Bool) where
  keep_short : (ts : List Tag) → length (encode_tags (keep p ts)) ≤ length (encode_tags ts)
  keep_short [] = omega arith
  keep_short (t ∷ ts) =
      let ih = keep_short ts in
      cases (p t)
      (λ e. rw e (omega (arith, ih, tags_length t (keep p ts), tags_length t ts)))
      (λ e. rw e (omega (arith, ih, tags_length t ts)))

  keep_few : (ts : List Tag) → length (keep p ts) ≤ length ts
  keep_few [] = omega arith
  keep_few (t ∷ ts) =
      let ih = keep_few ts in
      cases (p t) (λ e. rw e (omega (arith, ih))) (λ e. rw e (omega (arith, ih)))

name_short : (b : Bool) (x : List ℕ) → length (cond b x []) ≤ length x
name_short true x = omega arith
name_short false x = omega arith

pub group_few : (g : Grouping) (ns : Names) (l : Labels) → length (remove_group_tags g ns l).tags ≤ length l.tags
unfolding remove_group_tags remove_tags_on remove_tags_ignoring tags_on tags_ignoring
group_few by ns l = keep_few (λ t. is_listed ns t.key) l.tags
group_few without ns l = keep_few (λ t. not (is_listed ns t.key)) l.tags

pub group_short : (g : Grouping) (ns : Names) (l : Labels)
    → length (encode (remove_group_tags g ns l)) ≤ length (encode l)
unfolding remove_group_tags remove_tags_on remove_tags_ignoring tags_on tags_ignoring
group_short by ns l =
    let f : Tag → Bool = λ t. is_listed ns t.key in
    let n = cond (is_listed ns name_label) l.name [] in
    omega (
      arith,
      labels_length l,
      labels_length (record { name = n; tags = keep f l.tags }),
      name_short (is_listed ns name_label) l.name,
      keep_short f l.tags,
    )
group_short without ns l =
    let f : Tag → Bool = λ t. not (is_listed ns t.key) in
    omega (
      arith,
      labels_length l,
      labels_length (record { name = []; tags = keep f l.tags }),
      keep_short f l.tags,
    )
