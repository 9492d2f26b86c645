-- Edits keep labels well formed. Assumes nothing.
use Rattle.std.specs.Prelude.{ℕ, ◌≡◌, Bool, true, false, not, cond, List, [], ◌∷◌}
use Rattle.std.proofs.Common.{arith}
use Rattle.model.specs.Lists.{cases, keep, All}
use Rattle.model.specs.Labels.{Tag, Labels, same_bytes, below, name_label, may_follow, ascending, value_of, GoodField, GoodTag, WellFormed}
use Rattle.model.specs.Edits.{Names, is_listed, tags_on, tags_ignoring, remove_tags_on, remove_tags_ignoring, insert_tag, without_tag, set_or_remove}
use Rattle.model.specs.Edits.{set_label, set_listed, copy_tags, is_star, set_tags, clear_name_if}
use Rattle.model.specs.Query.{Matching, all, on, ignoring, key_of}
use Rattle.model.proofs.Laws.Lists.{All-keep}
use Rattle.model.proofs.Laws.Booleans.{both_of}
use Rattle.model.proofs.Laws.Order.{same_is, keep_ascending, insert_ascending, ascending_tail, ascending_lower}

-- tags as well-formed labels have them
pub record GoodTags (ts : List Tag) : Type 0 where
  pub each : All GoodTag ts
  pub order : ascending [] ts ≡ true

pub tags_of_lem : (l : Labels) → WellFormed l → GoodTags l.tags
tags_of_lem l w = record { each = w.tags; order = w.order }

labels_of_lem : (l : Labels) → GoodField l.name → GoodTags l.tags → WellFormed l
labels_of_lem l n g = record { name = n; tags = g.each; order = g.order }

pub no_name : GoodField []
no_name = record { short = omega arith; bytes = tt }

cond_good : (t : Bool) (x y : List ℕ) → GoodField x → GoodField y → GoodField (cond t x y)
cond_good true x y h k = h
cond_good false x y h k = k

pub keep_good : (p : Tag → Bool) (ts : List Tag) → GoodTags ts → GoodTags (keep p ts)
keep_good p ts g = record { each = All-keep GoodTag p ts g.each; order = keep_ascending p [] ts g.order }

insert_each : (P : Tag → Type 0) (t : Tag) (ts : List Tag) → P t → All P ts → All P (insert_tag t ts)
unfolding insert_tag
insert_each P t [] h a = (h, tt)
insert_each P t (u ∷ us) h a =
    cases (same_bytes t.key u.key)
    (λ e. rw e (h, a.1))
    (λ e. cases (below t.key u.key) (λ f. rw (e, f) (h, a)) (λ f. rw (e, f) (a.0, insert_each P t us h a.1)))

-- a tag that may stand first in a good list
record GoodFirst (t : Tag) : Type 0 where
  tag : GoodTag t
  first : may_follow [] t.key ≡ true

insert_good : (t : Tag) (ts : List Tag) → GoodFirst t → GoodTags ts → GoodTags (insert_tag t ts)
insert_good t ts h g = record { each = insert_each GoodTag t ts h.tag g.each; order = insert_ascending t [] ts h.first g.order }

uncons_good : (t : Tag) (ts : List Tag) → GoodTags (t ∷ ts) → GoodFirst t × GoodTags ts
uncons_good t ts g =
    let h = ascending_tail [] t ts g.order in (
      record { tag = g.each.0; first = h.0 },
      record {
        each = g.each.1;
        order = ascending_lower [] t.key ts
            (both_of (below [] t.key) (not (same_bytes t.key name_label)) h.0).0 h.1;
      },
    )

pub on_good : (ns : Names) (ts : List Tag) → GoodTags ts → GoodTags (tags_on ns ts)
unfolding tags_on
on_good ns ts g = keep_good (λ t. is_listed ns t.key) ts g

pub ignoring_good : (ns : Names) (ts : List Tag) → GoodTags ts → GoodTags (tags_ignoring ns ts)
unfolding tags_ignoring
ignoring_good ns ts g = keep_good (λ t. not (is_listed ns t.key)) ts g

-- what the key of a matching keeps
pub key_good : (m : Matching) (ns : Names) (ts : List Tag) → GoodTags ts → GoodTags (key_of m ns ts)
unfolding key_of
key_good all ns ts g = g
key_good on ns ts g = on_good ns ts g
key_good ignoring ns ts g = ignoring_good ns ts g

pub clear_well : (t : Bool) (l : Labels) → WellFormed l → WellFormed (clear_name_if t l)
clear_well true l w = record { name = no_name; tags = w.tags; order = w.order }
clear_well false l w = w

pub on_well : (ns : Names) (l : Labels) → WellFormed l → WellFormed (remove_tags_on ns l)
unfolding remove_tags_on
on_well ns l w = labels_of_lem _ (cond_good (is_listed ns name_label) l.name [] w.name no_name) (on_good ns l.tags (tags_of_lem l w))

pub ignoring_well : (ns : Names) (l : Labels) → WellFormed l → WellFormed (remove_tags_ignoring ns l)
unfolding remove_tags_ignoring
ignoring_well ns l w = labels_of_lem _ (cond_good (is_listed ns name_label) [] l.name no_name w.name) (ignoring_good ns l.tags (tags_of_lem l w))

copy_good : (skip : Names) (us ts : List Tag) → GoodTags us → GoodTags ts → GoodTags (copy_tags skip us ts)
unfolding copy_tags
copy_good skip [] ts h k = k
copy_good skip (t ∷ us) ts h k =
    let g = uncons_good t us h in
    cases (is_listed skip t.key)
    (λ e. rw e (copy_good skip us ts g.1 k))
    (λ e. rw e (copy_good skip us (insert_tag t ts) g.1 (insert_good t ts g.0 k)))

renamed : (k : List ℕ) (t : Tag) → t.key ≡ k → GoodFirst t → GoodFirst (record { key = k; value = t.value })
renamed k t e h = record { tag = record { key = rw (← e) h.tag.key; value = h.tag.value }; first = rw (← e) h.first }

set_good : (k : List ℕ) (us ts : List Tag) → GoodTags us → GoodTags ts → GoodTags (set_or_remove k (value_of k us) ts)
unfolding value_of without_tag
set_good k [] ts h g = keep_good (λ t. not (same_bytes t.key k)) ts g
set_good k (t ∷ us) ts h g =
    let u = uncons_good t us h in
    cases (same_bytes t.key k)
    (λ e. rw e (insert_good (record { key = k; value = t.value }) ts (renamed k t (same_is t.key k e) u.0) g))
    (λ e. rw e (set_good k us ts u.1 g))

label_well : (source : Labels) (k : List ℕ) (l : Labels) → WellFormed source → WellFormed l → WellFormed (set_label source k l)
label_well source k l h w =
    cases (same_bytes k name_label)
    (λ e. rw e (labels_of_lem _ h.name (tags_of_lem l w)))
    (λ e. rw e (labels_of_lem _ w.name (set_good k source.tags l.tags (tags_of_lem source h) (tags_of_lem l w))))

cond_well : (t : Bool) (l m : Labels) → WellFormed l → WellFormed m → WellFormed (cond t l m)
cond_well true l m h k = h
cond_well false l m h k = k

listed_well : (skip : Names) (source : Labels) (ks : Names) (l : Labels) → WellFormed source → WellFormed l → WellFormed (set_listed skip source ks l)
unfolding set_listed
listed_well skip source [] l h w = w
listed_well skip source (k ∷ ks) l h w =
    listed_well skip source ks (cond (is_listed skip k) l (set_label source k l)) h
    (cond_well (is_listed skip k) l (set_label source k l) w (label_well source k l h w))

pub set_tags_well : (ks skip : Names) (source l : Labels) → WellFormed source → WellFormed l → WellFormed (set_tags ks skip source l)
unfolding set_tags
set_tags_well ks skip source l h w =
    cases (is_star ks)
    (λ e. rw e (labels_of_lem _ w.name (copy_good skip source.tags l.tags (tags_of_lem source h) (tags_of_lem l w))))
    (λ e. rw e (listed_well skip source ks l h w))
