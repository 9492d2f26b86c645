-- Two tag lists in order are equal where every key's value is; tags and labels are the same just where they are equal. Assumes nothing.
use Rattle.std.specs.Prelude.{ℕ, ◌≡◌, refl, true, ◌&&◌, List, [], ◌∷◌}
use Rattle.std.proofs.Common.{sym, ap, ◌∙◌, arith}
use Rattle.std.proofs.Math.Option.{Option, none, some}
use Rattle.model.specs.Lists.{cases}
use Rattle.model.specs.Labels.{Tag, Labels, same_bytes, below, ascending, value_of, same_tags, same_labels}
use Rattle.model.proofs.Laws.Booleans.{never, both_of}
use Rattle.model.proofs.Laws.Order.{same_is, same_refl, below_other, value_before, value_none, value_here, value_later, ascending_tail}
use Rattle.model.proofs.Laws.Order.{ascending_cons, may_follow_lem}

tag_is : (t u : Tag) → t.key ≡ u.key → t.value ≡ u.value → t ≡ u
tag_is t u e f = λ i. record { key = e i; value = f i }

pub same_tags_is : (ts us : List Tag) → same_tags ts us ≡ true → ts ≡ us
unfolding same_tags
same_tags_is [] [] e = refl
same_tags_is [] (u ∷ us) e = never e
same_tags_is (t ∷ ts) [] e = never e
same_tags_is (t ∷ ts) (u ∷ us) e =
    let g = both_of (same_bytes t.key u.key) (same_bytes t.value u.value && same_tags ts us) e in
    let h = both_of (same_bytes t.value u.value) (same_tags ts us) g.1 in
    cc (tag_is t u (same_is t.key u.key g.0) (same_is t.value u.value h.0), same_tags_is ts us h.1)

pub same_tags_refl : (ts : List Tag) → same_tags ts ts ≡ true
unfolding same_tags
same_tags_refl [] = refl
same_tags_refl (t ∷ ts) = rw (same_refl t.key, same_refl t.value) (same_tags_refl ts)

pub is_same_tags : (ts us : List Tag) → ts ≡ us → same_tags ts us ≡ true
is_same_tags ts us e = rw (← e) (same_tags_refl ts)

pub same_labels_is : (l m : Labels) → same_labels l m ≡ true → l ≡ m
unfolding same_labels
same_labels_is l m e =
    let h = both_of (same_bytes l.name m.name) (same_tags l.tags m.tags) e in
    let n = same_is l.name m.name h.0 in
    let t = same_tags_is l.tags m.tags h.1 in
    λ i. record { name = n i; tags = t i }

pub same_labels_refl : (l : Labels) → same_labels l l ≡ true
unfolding same_labels
same_labels_refl l = rw (same_refl l.name, same_tags_refl l.tags)

not_some : {X : Type 0} (v : List ℕ) → ◌≡◌ {A = Option (List ℕ)} none (some v) → X
not_some v e = absurd (let z : ◌≡◌ {A = ℕ} 0 1 = cc in omega arith)

-- each key has the same value in both
abbrev pub SameValues : List Tag → List Tag → Type 0
SameValues ts us = (k : List ℕ) → value_of k ts ≡ value_of k us

-- what follows two equal keys has the same values
tails_same : (t u : Tag) (ts us : List Tag) → t.key ≡ u.key → ascending t.key ts ≡ true → ascending u.key us ≡ true
    → SameValues (t ∷ ts) (u ∷ us) → SameValues ts us
tails_same t u ts us e a b h k =
    cases (same_bytes t.key k)
    (λ f.
    let kt = same_is t.key k f in
    value_before k ts (rw (← kt) a) ∙ sym (value_before k us (rw (← kt, e) b)))
    (λ f. sym (value_later k t ts f) ∙ h k ∙ value_later k u us (ap (λ x. same_bytes x k) (sym e) ∙ f))

-- a first key is not below the other list's
not_lower : {X : Type 0} (p : List ℕ) (t u : Tag) (ts us : List Tag) → ascending p (u ∷ us) ≡ true → SameValues (t ∷ ts) (u ∷ us)
    → below t.key u.key ≡ true → X
not_lower p t u ts us b h f =
    let g = ascending_tail p u us b in
    not_some t.value (sym (value_before t.key (u ∷ us) (ascending_cons t.key u us (may_follow_lem p u.key t.key g.0 f) g.1))
    ∙ sym (h t.key) ∙ value_here t ts)

pub tags_equal : (p : List ℕ) (ts us : List Tag) → ascending p ts ≡ true → ascending p us ≡ true → SameValues ts us → ts ≡ us
tags_equal p [] [] a b h = refl
tags_equal p [] (u ∷ us) a b h = not_some u.value (sym (value_none u.key) ∙ h u.key ∙ value_here u us)
tags_equal p (t ∷ ts) [] a b h = not_some t.value (sym (value_none t.key) ∙ sym (h t.key) ∙ value_here t ts)
tags_equal p (t ∷ ts) (u ∷ us) a b h =
    let ga = ascending_tail p t ts a in
    let gb = ascending_tail p u us b in
    cases (same_bytes t.key u.key)
    (λ e.
    let key = same_is t.key u.key e in
    let value : t.value ≡ u.value = some_is (sym (value_here t ts) ∙ h t.key ∙ ap (λ k. value_of k (u ∷ us)) key ∙ value_here u us) in
    let first = tag_is t u key value in
    let rest = tags_equal t.key ts us ga.1 (rw key gb.1) (tails_same t u ts us key ga.1 gb.1 h) in
    cc)
    (λ e.
    cases (below t.key u.key)
    (λ f. not_lower p t u ts us b h f)
    (λ f. not_lower p u t us ts a (λ k. sym (h k)) (below_other t.key u.key e f)))
  where
    some_is : {x y : List ℕ} → ◌≡◌ {A = Option (List ℕ)} (some x) (some y) → x ≡ y
    some_is q = cc
