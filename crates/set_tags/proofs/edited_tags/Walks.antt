-- The steps of a walk over both records' tags, way by way. Assumes nothing.
use Rattle.std.specs.Prelude.{ℕ, ◌<◌, ◌≡◌, List, [], ◌∷◌, Bool, true, false, cond, length, Some, None}
use Rattle.std.specs.declared.option.Option.{Option}
use Rattle.std.specs.Bool.{then_some}
use Rattle.std.proofs.Common.{sym, ap, ◌∙◌, arith}
use Rattle.model.specs.Labels.{Tag, same_bytes, below}
use Rattle.model.specs.Edits.{Names}
use Rattle.model.specs.TagWalk.{is_set, remains, cons_if, walk_tags}
use Rattle.model.proofs.Laws.SetTags.{walk_none, walk_source, walk_many, walk_both, walk_lower, walk_higher}
use Rattle.labels.specs.Names.{names_of}
use Rattle.record_tags.specs.Cursors.{TagsOf, tag_of, tags_left}
use Rattle.record_tags.specs.declared.Tags.{Tags}
use Rattle.record_tags.specs.declared.tag_parts.Tag as T
use Rattle.set_tags.specs.edited_tags.Walks.{edited_tags, edited_left, tags_in, StepsOver}
use Rattle.set_tags.specs.declared.edited_tags.Edited.{Edited}

pub both_start : (join skip : Names) (many source : List ℕ) (m s : Tags) → TagsOf many m → TagsOf source s
    → walk_tags join skip (tags_left m) (tags_left s) ≡ edited_tags join skip many source
both_start join skip many source m s hm hs = rw (hm.tags, hs.tags)

-- a step that gives a tag where it is kept
kept_step : (e e' : Edited) (t : T.Tag) (k : Bool) → edited_left e ≡ cons_if k (tag_of t) (edited_left e') → tags_in e' < tags_in e
    → (r : Option T.Tag) → r ≡ then_some k t → StepsOver e (Some r) e'
kept_step e e' t true h f r hr = rw hr h
kept_step e e' t false h f r hr = rw hr (h, f)

module _ (e : Edited) where
  abbrev join : Names
  join = names_of e.join.now

  abbrev skip : Names
  skip = names_of e.skip.now

  none : tags_left e.many ≡ [] → tags_left e.source ≡ [] → edited_left e ≡ []
  none h k = rw (h, k) (walk_none join skip)

  pub none_left : tags_left e.many ≡ [] → tags_left e.source ≡ [] → (r : Option (Option T.Tag)) → r ≡ None → StepsOver e r e
  none_left h k r er = rw er (none h k, none h k)

  -- behind the source's next tag
  module _ (s : Tags) (u : T.Tag) (k : tags_left e.source ≡ tag_of u ∷ tags_left s) where
    abbrev behind_source : Edited
    behind_source = record { many = e.many; source = s; join = e.join; skip = e.skip }

    fewer_source : tags_in behind_source < tags_in e
    fewer_source = omega (arith, ap length k)

    pub source_alone : tags_left e.many ≡ [] → (b : Bool) → b ≡ is_set join skip u.key.now → (r : Option T.Tag) → r ≡ then_some b u
        → StepsOver e (Some r) behind_source
    source_alone h b hb =
        kept_step e behind_source u b (rw (h, k, hb) (walk_source join skip (tag_of u) (tags_left s))) fewer_source

  -- behind the many side's
  module _ (m : Tags) (t : T.Tag) (h : tags_left e.many ≡ tag_of t ∷ tags_left m) where
    abbrev behind_many : Edited
    behind_many = record { many = m; source = e.source; join = e.join; skip = e.skip }

    fewer_many : tags_in behind_many < tags_in e
    fewer_many = omega (arith, ap length h)

    pub many_alone : tags_left e.source ≡ [] → (b : Bool) → b ≡ remains join skip t.key.now → (r : Option T.Tag) → r ≡ then_some b t
        → StepsOver e (Some r) behind_many
    many_alone k b hb =
        kept_step e behind_many t b (rw (h, k, hb) (walk_many join skip (tag_of t) (tags_left m))) fewer_many

    module _ (s : Tags) (u : T.Tag) (k : tags_left e.source ≡ tag_of u ∷ tags_left s) (q : Bool) (hq : q ≡ same_bytes t.key.now u.key.now) where
      abbrev behind_both : Edited
      behind_both = record { many = m; source = s; join = e.join; skip = e.skip }

      module _ (eq : q ≡ true) (b : Bool) (hb : b ≡ is_set join skip t.key.now) where
        both : edited_left e ≡ cond b (tag_of u) (tag_of t) ∷ edited_left behind_both
        both = rw (h, k, hb) (walk_both join skip (tag_of t) (tags_left m) (tag_of u) (tags_left s) (sym hq ∙ eq))

        pub both_set : b ≡ true → StepsOver e (Some (Some u)) behind_both
        both_set eb = rw eb at both

        pub both_stay : b ≡ false → StepsOver e (Some (Some t)) behind_both
        both_stay eb = rw eb at both

      module _ (eq : q ≡ false) (l : Bool) (hl : l ≡ below t.key.now u.key.now) where
        pub many_lower : l ≡ true → (b : Bool) → b ≡ remains join skip t.key.now → (r : Option T.Tag) → r ≡ then_some b t
            → StepsOver e (Some r) behind_many
        many_lower el b hb =
            let lower = walk_lower join skip (tag_of t) (tags_left m) (tag_of u) (tags_left s) (sym hq ∙ eq) (sym hl ∙ el) in
            kept_step e behind_many t b (rw (h, k, hb) lower) fewer_many

        pub source_lower : l ≡ false → (b : Bool) → b ≡ is_set join skip u.key.now → (r : Option T.Tag) → r ≡ then_some b u
            → StepsOver e (Some r) (behind_source s u k)
        source_lower el b hb =
            let higher = walk_higher join skip (tag_of t) (tags_left m) (tag_of u) (tags_left s) (sym hq ∙ eq) (sym hl ∙ el) in
            kept_step e (behind_source s u k) u b (rw (h, k, hb) higher) (fewer_source s u k)
