-- `set_tags` is one walk over two tag lists in key order, a record's and its source's; and its name. Assumes nothing.
use Rattle.std.specs.Prelude.{ℕ, ◌≡◌, Bool, false, not, cond, ◌&&◌}
use Rattle.std.proofs.Math.Path.{refl}
use Rattle.std.proofs.Common.{sym, ap, ◌∙◌}
use Rattle.std.proofs.Math.Bool.{true}
use Rattle.std.proofs.Math.Option.{Option, none, some}
use mathlib.Core.List.{List, [], ◌∷◌}
use Rattle.model.specs.Lists.{cases, keep}
use Rattle.model.specs.Labels.{Tag, Labels, same_bytes, below, name_label, may_follow, ascending, value_of, WellFormed}
use Rattle.model.specs.Edits.{Names, is_listed, insert_tag, without_tag, set_or_remove, set_label, set_listed}
use Rattle.model.specs.Edits.{copy_tags, star, is_star, set_tags}
use Rattle.model.specs.TagWalk.{is_set, remains, cons_if, walk_tags}
use Rattle.model.proofs.Laws.Booleans.{never, not_true, and_true, both_of}
use Rattle.model.proofs.Laws.Order.{same_is, is_same, below_other, value_before, value_none, value_here}
use Rattle.model.proofs.Laws.Order.{value_later, ascending_tail, ascending_cons, ascending_lower, may_follow_lem, keep_ascending}
use Rattle.model.proofs.Laws.Tags.{tags_equal}
use Rattle.model.proofs.Laws.Edits.{set_tags_well}

-- how `walk_tags` goes

module _ (join_labels skip : Names) where
  pub walk_none : walk_tags join_labels skip [] [] ≡ []
  unfolding walk_tags
  walk_none = refl

  pub walk_source : (s : Tag) (ss : List Tag)
      → walk_tags join_labels skip [] (s ∷ ss) ≡ cons_if (is_set join_labels skip s.key) s (walk_tags join_labels skip [] ss)
  unfolding walk_tags
  walk_source s ss = cases (is_set join_labels skip s.key) (λ e. rw e) (λ e. rw e)

  pub walk_many : (m : Tag) (ms : List Tag)
      → walk_tags join_labels skip (m ∷ ms) [] ≡ cons_if (remains join_labels skip m.key) m (walk_tags join_labels skip ms [])
  unfolding walk_tags
  walk_many m ms = refl

  module _ (m : Tag) (ms : List Tag) (s : Tag) (ss : List Tag) where
    pub walk_both : same_bytes m.key s.key ≡ true
        → walk_tags join_labels skip (m ∷ ms) (s ∷ ss) ≡ cond (is_set join_labels skip m.key) s m ∷ walk_tags join_labels skip ms ss
    unfolding walk_tags
    walk_both h = rw h

    pub walk_lower : same_bytes m.key s.key ≡ false → below m.key s.key ≡ true
        → walk_tags join_labels skip (m ∷ ms) (s ∷ ss) ≡ cons_if (remains join_labels skip m.key) m (walk_tags join_labels skip ms (s ∷ ss))
    unfolding walk_tags
    walk_lower h b = rw (h, b)

    pub walk_higher : same_bytes m.key s.key ≡ false → below m.key s.key ≡ false
        → walk_tags join_labels skip (m ∷ ms) (s ∷ ss) ≡ cons_if (is_set join_labels skip s.key) s (walk_tags join_labels skip (m ∷ ms) ss)
    unfolding walk_tags
    walk_higher h b = rw (h, b)

-- the values that `set_tags` gives

abbrev or_else : Option (List ℕ) → Option (List ℕ) → Option (List ℕ)
or_else none b = b
or_else (some v) b = some v

or_none : (o : Option (List ℕ)) → or_else o none ≡ o
or_none none = refl
or_none (some v) = refl

same_sym : (a b : List ℕ) → same_bytes a b ≡ false → same_bytes b a ≡ false
same_sym a b h = cases (same_bytes b a) (λ e. never (sym h ∙ is_same a b (sym (same_is b a e)))) (λ e. e)

value_same : (k : List ℕ) (t : Tag) (ts : List Tag) → same_bytes t.key k ≡ true → value_of k (t ∷ ts) ≡ some t.value
unfolding value_of
value_same k t ts e = rw e

value_insert : (t : Tag) (ts : List Tag) → value_of t.key (insert_tag t ts) ≡ some t.value
unfolding insert_tag
value_insert t [] = value_here t []
value_insert t (u ∷ us) =
    cases (same_bytes t.key u.key)
    (λ e. rw e (value_here t us))
    (λ e. cases (below t.key u.key)
    (λ f. rw (e, f) (value_here t (u ∷ us)))
    (λ f. rw (e, f) (value_later t.key u (insert_tag t us) (same_sym t.key u.key e) ∙ value_insert t us)))

value_insert_at : (k : List ℕ) (t : Tag) (ts : List Tag) → same_bytes t.key k ≡ true → value_of k (insert_tag t ts) ≡ some t.value
value_insert_at k t ts e = ap (λ x. value_of x (insert_tag t ts)) (sym (same_is t.key k e)) ∙ value_insert t ts

value_insert_other : (k : List ℕ) (t : Tag) (ts : List Tag) → same_bytes t.key k ≡ false → value_of k (insert_tag t ts) ≡ value_of k ts
unfolding insert_tag
value_insert_other k t [] h = value_later k t [] h
value_insert_other k t (u ∷ us) h =
    cases (same_bytes t.key u.key)
    (λ e. rw e (value_later k t us h ∙ sym (value_later k u us (ap (λ x. same_bytes x k) (sym (same_is t.key u.key e)) ∙ h))))
    (λ e. cases (below t.key u.key)
    (λ f. rw (e, f) (value_later k t (u ∷ us) h))
    (λ f. rw (e, f) (cases (same_bytes u.key k)
    (λ g. value_same k u (insert_tag t us) g ∙ sym (value_same k u us g))
    (λ g. value_later k u (insert_tag t us) g ∙ value_insert_other k t us h ∙ sym (value_later k u us g)))))

-- of a list kept by its keys
value_keep : (p : List ℕ → Bool) (k : List ℕ) (ts : List Tag) → value_of k (keep (λ t. p t.key) ts) ≡ cond (p k) (value_of k ts) none
value_keep p k [] = cases (p k) (λ e. rw e) (λ e. rw e (value_none k))
value_keep p k (t ∷ ts) =
    cases (same_bytes t.key k)
    (λ e. cases (p k)
    (λ f. rw (ap p (same_is t.key k e) ∙ f, f) (value_same k t (keep (λ t. p t.key) ts) e ∙ sym (value_same k t ts e)))
    (λ f. rw (ap p (same_is t.key k e) ∙ f, f) (value_keep p k ts ∙ ap (λ b. cond b (value_of k ts) none) f)))
    (λ e. rw (value_later k t ts e) (cases (p t.key)
    (λ f. rw f (value_later k t (keep (λ t. p t.key) ts) e ∙ value_keep p k ts))
    (λ f. rw f (value_keep p k ts))))

value_set : (k : List ℕ) (o : Option (List ℕ)) (ts : List Tag) → value_of k (set_or_remove k o ts) ≡ o
unfolding without_tag
value_set k none ts = value_keep (λ x. not (same_bytes x k)) k ts ∙ rw (is_same k k refl)
value_set k (some v) ts = value_insert (record { key = k; value = v }) ts

value_set_other : (k j : List ℕ) (o : Option (List ℕ)) (ts : List Tag) → same_bytes j k ≡ false → value_of k (set_or_remove j o ts) ≡ value_of k ts
unfolding without_tag
value_set_other k j none ts h = value_keep (λ x. not (same_bytes x j)) k ts ∙ rw (same_sym j k h)
value_set_other k j (some v) ts h = value_insert_other k (record { key = j; value = v }) ts h

-- what a listed set gives a key
value_label : (source : Labels) (k j : List ℕ) (l : Labels) → same_bytes j k ≡ false → value_of k (set_label source j l).tags ≡ value_of k l.tags
value_label source k j l h = cases (same_bytes j name_label) (λ e. rw e) (λ e. rw e (value_set_other k j (value_of j source.tags) l.tags h))

value_label_same : (source : Labels) (k : List ℕ) (l : Labels) → same_bytes k name_label ≡ false
    → value_of k (set_label source k l).tags ≡ value_of k source.tags
value_label_same source k l h = rw h (value_set k (value_of k source.tags) l.tags)

cond_same : {A : Type 0} (b : Bool) (x : A) → cond b x x ≡ x
cond_same true x = refl
cond_same false x = refl

module _ (skip : Names) (source : Labels) (k : List ℕ) (plain : same_bytes k name_label ≡ false) where
  -- one label: its value afterwards, and whether another is set later
  value_step : (j : List ℕ) (l : Labels) → (b : Bool)
      → cond (not (is_listed skip k) && b) (value_of k source.tags) (value_of k (cond (is_listed skip j) l (set_label source j l)).tags)
      ≡ cond (not (is_listed skip k) && cond (same_bytes j k) true b) (value_of k source.tags) (value_of k l.tags)
  value_step j l b =
      cases (same_bytes j k)
      (λ e. cases (is_listed skip k)
      (λ f. rw (same_is j k e, f))
      (λ f. rw (e, same_is j k e, f, value_label_same source k l plain) (cond_same b (value_of k source.tags))))
      (λ e. cases (is_listed skip j)
      (λ f. rw (e, f))
      (λ f. rw (e, f, value_label source k j l e)))

  value_listed : (ks : Names) (l : Labels)
      → value_of k (set_listed skip source ks l).tags ≡ cond (not (is_listed skip k) && is_listed ks k) (value_of k source.tags) (value_of k l.tags)
  unfolding set_listed is_listed
  value_listed [] l = cases (is_listed skip k) (λ e. rw e) (λ e. rw e)
  value_listed (j ∷ ks) l = value_listed ks (cond (is_listed skip j) l (set_label source j l)) ∙ value_step j l (is_listed ks k)

value_copied : (skip : Names) (k : List ℕ) (p : List ℕ) (us ts : List Tag) → ascending p us ≡ true
    → value_of k (copy_tags skip us ts) ≡ cond (is_listed skip k) (value_of k ts) (or_else (value_of k us) (value_of k ts))
unfolding copy_tags
value_copied skip k p [] ts a = rw (value_none k) (sym (cond_same (is_listed skip k) (value_of k ts)))
value_copied skip k p (t ∷ us) ts a =
    let g = ascending_tail p t us a in
    value_copied skip k t.key us (cond (is_listed skip t.key) ts (insert_tag t ts)) g.1
    ∙ cases (same_bytes t.key k)
    (λ e.
    let later : value_of k us ≡ none = value_before k us (rw (← (same_is t.key k e)) g.1) in
    let level : is_listed skip t.key ≡ is_listed skip k = ap (is_listed skip) (same_is t.key k e) in
    cases (is_listed skip k)
    (λ f. rw (f, level ∙ f))
    (λ f. rw (f, level ∙ f, later, value_same k t us e) (value_insert_at k t ts e)))
    (λ e. rw (value_later k t us e) (cases (is_listed skip t.key) (λ f. rw f) (λ f. rw (f, value_insert_other k t ts e))))

value_name : (p : List ℕ) (ts : List Tag) → ascending p ts ≡ true → value_of name_label ts ≡ none
value_name p [] a = value_none name_label
value_name p (t ∷ ts) a =
    let g = ascending_tail p t ts a in
    let h = both_of (below p t.key) (not (same_bytes t.key name_label)) g.0 in
    value_later name_label t ts (not_true (same_bytes t.key name_label) h.1) ∙ value_name t.key ts g.1

-- the test, for a list and for `*`

set_listed_lem : (join_labels skip : Names) (k : List ℕ) → is_star join_labels ≡ false
    → is_set join_labels skip k ≡ (not (is_listed skip k) && is_listed join_labels k)
unfolding is_set
set_listed_lem join_labels skip k h = rw h

set_star : (join_labels skip : Names) (k : List ℕ) → is_star join_labels ≡ true
    → is_set join_labels skip k ≡ not (is_listed skip k)
unfolding is_set
set_star join_labels skip k h = rw h (and_true (not (is_listed skip k)))

-- the walk: its order and its values

ascending_from : (p q : List ℕ) (t : Tag) (ts : List Tag) → ascending p (t ∷ ts) ≡ true → below q t.key ≡ true
    → ascending q (t ∷ ts) ≡ true
ascending_from p q t ts a h =
    let g = ascending_tail p t ts a in
    ascending_cons q t ts (may_follow_lem p t.key q g.0 h) g.1

ascending_if : (b : Bool) (p : List ℕ) (t : Tag) (ts : List Tag) → may_follow p t.key ≡ true
    → ascending t.key ts ≡ true → ascending p (cons_if b t ts) ≡ true
ascending_if true p t ts h a = ascending_cons p t ts h a
ascending_if false p t ts h a =
    ascending_lower p t.key ts (both_of (below p t.key) (not (same_bytes t.key name_label)) h).0 a

value_if : (b : Bool) (k : List ℕ) (t : Tag) (ts : List Tag) → same_bytes t.key k ≡ false
    → value_of k (cons_if b t ts) ≡ value_of k ts
value_if true k t ts e = value_later k t ts e
value_if false k t ts e = refl

module _ (join_labels skip : Names) where
  -- of the source's value and the record's, the one that a key has afterwards
  abbrev chosen : List ℕ → Option (List ℕ) → Option (List ℕ) → Option (List ℕ)
  chosen k s m = cond (is_set join_labels skip k) (cond (is_star join_labels) (or_else s m) s) m

  -- tags in order behind the key p, with the values chosen from those of a record and a source
  record Chosen (p : List ℕ) (ms ss ts : List Tag) : Type 0 where
    order : ascending p ts ≡ true
    values : (k : List ℕ) → value_of k ts ≡ chosen k (value_of k ss) (value_of k ms)

  chosen_source : (p : List ℕ) (ss : List Tag) → ascending p ss ≡ true → Chosen p [] ss (walk_tags join_labels skip [] ss)
  unfolding walk_tags
  chosen_source p ss b = record {
    order = keep_ascending (λ t. is_set join_labels skip t.key) p ss b;
    values = λ k.
        value_keep (is_set join_labels skip) k ss
        ∙ rw (value_none k, or_none (value_of k ss), cond_same (is_star join_labels) (value_of k ss));
  }

  chosen_lower : (p : List ℕ) (m : Tag) {ms ss ts : List Tag} → may_follow p m.key ≡ true
      → ascending m.key ss ≡ true → Chosen m.key ms ss ts
      → Chosen p (m ∷ ms) ss (cons_if (remains join_labels skip m.key) m ts)
  chosen_lower p m {ms} {ss} {ts} h b c = record {
    order = ascending_if (remains join_labels skip m.key) p m ts h c.order;
    values = λ k. cases (same_bytes m.key k)
        (λ e. rw (← (same_is m.key k e)) here)
        (λ e. rw (value_later k m ms e) (value_if (remains join_labels skip m.key) k m ts e ∙ c.values k));
  }
    where
      here : value_of m.key (cons_if (remains join_labels skip m.key) m ts)
          ≡ chosen m.key (value_of m.key ss) (value_of m.key (m ∷ ms))
      here =
          cases (is_star join_labels)
          (λ f. rw (f, value_before m.key ss b, value_here m ms, value_here m ts)
          (sym (cond_same (is_set join_labels skip m.key) (some m.value))))
          (λ f. cases (is_set join_labels skip m.key)
          (λ e. rw (f, e) (c.values m.key ∙ rw (f, e)))
          (λ e. rw (f, e) (value_here m ts ∙ sym (value_here m ms))))

  chosen_higher : (p : List ℕ) (s : Tag) {ms ss ts : List Tag} → may_follow p s.key ≡ true
      → Chosen s.key ms ss ts → Chosen p ms (s ∷ ss) (cons_if (is_set join_labels skip s.key) s ts)
  chosen_higher p s {ms} {ss} {ts} h c = record {
    order = ascending_if (is_set join_labels skip s.key) p s ts h c.order;
    values = λ k. cases (same_bytes s.key k)
        (λ e. rw (← (same_is s.key k e)) here)
        (λ e. rw (value_later k s ss e) (value_if (is_set join_labels skip s.key) k s ts e ∙ c.values k));
  }
    where
      here : value_of s.key (cons_if (is_set join_labels skip s.key) s ts)
          ≡ chosen s.key (value_of s.key (s ∷ ss)) (value_of s.key ms)
      here =
          cases (is_set join_labels skip s.key)
          (λ e. rw (e, value_here s ss, value_here s ts) (sym (cond_same (is_star join_labels) (some s.value))))
          (λ e. rw e (c.values s.key ∙ rw e))

  chosen_both : (p : List ℕ) (m s : Tag) {ms ss ts : List Tag} → may_follow p m.key ≡ true → m.key ≡ s.key
      → Chosen m.key ms ss ts → Chosen p (m ∷ ms) (s ∷ ss) (cond (is_set join_labels skip m.key) s m ∷ ts)
  chosen_both p m s {ms} {ss} {ts} h q c =
      cases (is_set join_labels skip m.key)
      (λ e. rw e (one s (sym q) (rw e (sym (cond_same (is_star join_labels) (some s.value))))))
      (λ e. rw e (one m refl (rw e)))
    where
      one : (t : Tag) → t.key ≡ m.key → some t.value ≡ chosen m.key (some s.value) (some m.value)
          → Chosen p (m ∷ ms) (s ∷ ss) (t ∷ ts)
      one t j v = record {
        order = ascending_cons p t ts (rw j h) (rw j c.order);
        values = λ k. cases (same_bytes m.key k)
            (λ e. rw (value_same k t ts (rw j e), value_same k m ms e, value_same k s ss (rw (← q) e))
            (rw (← (same_is m.key k e)) v))
            (λ e. rw (value_later k t ts (rw j e), value_later k m ms e, value_later k s ss (rw (← q) e))
            (c.values k));
      }

  walk_chosen : (p : List ℕ) (ms ss : List Tag) → ascending p ms ≡ true → ascending p ss ≡ true
      → Chosen p ms ss (walk_tags join_labels skip ms ss)
  unfolding ascending
  walk_chosen p [] ss a b = chosen_source p ss b
  walk_chosen p (m ∷ ms) ss a b = go p ss a b (λ q zs. walk_chosen q ms zs)
    where
      go : (p : List ℕ) (ss : List Tag) → ascending p (m ∷ ms) ≡ true → ascending p ss ≡ true
          → ((q : List ℕ) (zs : List Tag) → ascending q ms ≡ true → ascending q zs ≡ true
          → Chosen q ms zs (walk_tags join_labels skip ms zs))
          → Chosen p (m ∷ ms) ss (walk_tags join_labels skip (m ∷ ms) ss)
      go p [] a b ih =
          let ga = ascending_tail p m ms a in
          rw (walk_many join_labels skip m ms) (chosen_lower p m ga.0 refl (ih m.key [] ga.1 refl))
      go p (s ∷ ss) a b ih =
          let ga = ascending_tail p m ms a in
          let gb = ascending_tail p s ss b in
          cases (same_bytes m.key s.key)
          (λ e.
          let q = same_is m.key s.key e in
          rw (walk_both join_labels skip m ms s ss e)
          (chosen_both p m s ga.0 q (ih m.key ss ga.1 (rw q gb.1))))
          (λ e. cases (below m.key s.key)
          (λ f.
          let behind = ascending_from p m.key s ss b f in
          rw (walk_lower join_labels skip m ms s ss e f)
          (chosen_lower p m ga.0 behind (ih m.key (s ∷ ss) ga.1 behind)))
          (λ f.
          let behind = ascending_from p s.key m ms a (below_other m.key s.key e f) in
          rw (walk_higher join_labels skip m ms s ss e f)
          (chosen_higher p s gb.0 (go s.key ss behind gb.1 ih))))

-- the law

module _ (join_labels skip : Names) (source l : Labels) (ws : WellFormed source) (wl : WellFormed l) where
  set_chosen : (k : List ℕ) → same_bytes k name_label ≡ false → value_of k (set_tags join_labels skip source l).tags
      ≡ chosen join_labels skip k (value_of k source.tags) (value_of k l.tags)
  unfolding set_tags
  set_chosen k plain =
      cases (is_star join_labels)
      (λ h. rw (h, set_star join_labels skip k h) (value_copied skip k [] source.tags l.tags ws.order
      ∙ cases (is_listed skip k) (λ e. rw e) (λ e. rw e)))
      (λ h. rw (h, set_listed_lem join_labels skip k h) (value_listed skip source k plain join_labels l))

  pub set_tags_walk : (set_tags join_labels skip source l).tags ≡ walk_tags join_labels skip l.tags source.tags
  set_tags_walk =
      let given = (set_tags join_labels skip source l).tags in
      let order : ascending [] given ≡ true = (set_tags_well join_labels skip source l ws wl).order in
      let walk = walk_tags join_labels skip l.tags source.tags in
      let w = walk_chosen join_labels skip [] l.tags source.tags wl.order ws.order in
      tags_equal [] given walk order w.order (λ k.
      cases (same_bytes k name_label)
      (λ e. rw (same_is k name_label e) (value_name [] given order ∙ sym (value_name [] walk w.order)))
      (λ e. set_chosen k e ∙ sym (w.values k)))

-- the name

name_step : (skip : Names) (source : Labels) (j : List ℕ) (l : Labels) (b : Bool)
    → cond (not (is_listed skip name_label) && b) source.name (cond (is_listed skip j) l (set_label source j l)).name
    ≡ cond (not (is_listed skip name_label) && cond (same_bytes j name_label) true b) source.name l.name
name_step skip source j l b =
    cases (same_bytes j name_label)
    (λ e. cases (is_listed skip name_label)
    (λ f. rw (same_is j name_label e, f))
    (λ f. rw (e, same_is j name_label e, f) (cond_same b source.name)))
    (λ e. cases (is_listed skip j) (λ f. rw (e, f)) (λ f. rw (e, f)))

name_listed : (skip : Names) (source : Labels) (ks : Names) (l : Labels)
    → (set_listed skip source ks l).name ≡ cond (not (is_listed skip name_label) && is_listed ks name_label) source.name l.name
unfolding set_listed is_listed
name_listed skip source [] l = cases (is_listed skip name_label) (λ e. rw e) (λ e. rw e)
name_listed skip source (j ∷ ks) l = name_listed skip source ks (cond (is_listed skip j) l (set_label source j l))
    ∙ name_step skip source j l (is_listed ks name_label)

star_unnamed : (ks : Names) → is_star ks ≡ true → is_listed ks name_label ≡ false
unfolding is_listed same_bytes
star_unnamed [] h = never h
star_unnamed (k ∷ []) h = rw (same_is k star h)
star_unnamed (k ∷ j ∷ ks) h = never h

pub set_tags_name : (join_labels skip : Names) (source l : Labels)
    → (set_tags join_labels skip source l).name ≡ cond (not (is_listed skip name_label) && is_listed join_labels name_label) source.name l.name
unfolding set_tags
set_tags_name join_labels skip source l =
    cases (is_star join_labels)
    (λ h. rw (h, star_unnamed join_labels h) (cases (is_listed skip name_label) (λ e. rw e) (λ e. rw e)))
    (λ h. rw h (name_listed skip source join_labels l))
