-- The tags left at a place, by what the code finds there: `name_of`, `tags_of` and `next_tag`. Assumes nothing.
use Prim.Native.Nat.{ℕ, suc, ◌≤◌, ◌<◌, ◌+◌, ◌-◌}
use mathlib.Core.Path.{◌≡◌, refl, sym, ap, ◌∙◌}
use mathlib.Core.List.{List, [], ◌∷◌, ◌++◌, append_assoc}
use native.Mathlib.Omega.{arith}
use native.Mathlib.Numerals.{add-one}
use mir.Syntax.{w8}
use mir.Val.{Fits}
use lib.ListN.{length, get_or, take, drop, length-append, length-drop, drop_of_length-le}
use lib.Seq.{drop-cons, take_at}
use borrow.Author.Tests.{lt-ltb, le-ltb}
use Rattle.model.specs.Labels.{Tag}
use Rattle.model.specs.Record.{field, read_field, encode_field}
use Rattle.model.proofs.Laws.Record.{field_read}
use Rattle.fields.specs.Fields.{field_at}
use Rattle.record_tags.specs.Lenient.{tags_up_to, labels_of}
use Rattle.record_tags.specs.Cursors.{tags_place, tags_left, TagsOf, encode_tag, tag_at, some_tag}
use Rattle.record_tags.specs.Cursors.{next_tag, NextAt, every}
use Rattle.std.specs.Prelude.{Some, None}
use Rattle.std.specs.declared.option.Option.{Option}
use Rattle.fields.specs.declared.Span.{Span}
use Rattle.std.proofs.Common.{Bor}
use Rattle.record_tags.specs.declared.Tags.{Tags}
use Rattle.record_tags.specs.declared.TagSpan.{TagSpan}
use Rattle.fields.proofs.Fields.{placed, unplaced, Placed, more}

-- `name_of`
module _ (s : List ℕ) (x : Option Span) (hx : x ≡ field_at s 0) where
  pub name_there : (a : Span) → x ≡ Some a → take (a.end - a.start) (drop a.start s) ≡ (labels_of s).name
  unfolding labels_of
  name_there a ex = let u : Placed s 0 a.start a.end = placed s 0 a.start a.end x hx ex in rw u.read

  pub name_cut : x ≡ None → [] ≡ (labels_of s).name
  unfolding labels_of
  name_cut ex = rw (unplaced s 0 x hx ex)

-- `tags_of`
module _ (s : Bor (List ℕ)) (x : Option Span) (hx : x ≡ field_at s.now 0) where
  pub tags_unnamed : x ≡ None → TagsOf s.now (record { bytes = s; at = 0; count = 0 })
  unfolding tags_place labels_of tags_up_to
  tags_unnamed ex = record { bytes = refl; place = rw (sym hx ∙ ex); tags = rw (unplaced s.now 0 x hx ex); few = omega arith }

  module _ (a : Span) (ex : x ≡ Some a) where
    pub tags_uncounted : length s.now ≤ a.end → TagsOf s.now (record { bytes = s; at = 0; count = 0 })
    unfolding tags_place labels_of tags_up_to
    tags_uncounted h =
        record {
          bytes = refl;
          place = rw (sym hx ∙ ex, le-ltb a.end (length s.now) h);
          tags = rw ((placed s.now 0 a.start a.end x hx ex).read, drop_of_length-le s.now h);
          few = omega arith;
        }

    pub tags_counted_lem : (n : ℕ) → a.end < length s.now → n ≡ get_or s.now a.end 0 → ((j : ℕ) → Fits w8 (get_or s.now j 0))
        → TagsOf s.now (record { bytes = s; at = a.end + 1; count = n })
    unfolding tags_place labels_of
    tags_counted_lem n h hn b =
        record {
          bytes = refl;
          place = rw (sym hx ∙ ex, lt-ltb a.end (length s.now) h, hn);
          tags = rw ((placed s.now 0 a.start a.end x hx ex).read, drop-cons s.now a.end 0 h, add-one, hn);
          few = omega (arith, b a.end, hn);
        }

-- a loop over a record's tags begins with all of them left
pub tags_begun : (s : List ℕ) (t u : Tags) → TagsOf s t → u ≡ t → (labels_of s).tags ≡ tags_left u
tags_begun s t u h e = rw e (sym h.tags)

-- `next_tag`
module _ (s : List ℕ) (n p : ℕ) where
  pub next_none : n ≡ 0 → NextAt every s n p None
  unfolding next_tag tags_up_to
  next_none h = record { next = rw h; tags = rw h; stands = tt }

  module _ (some_left : n ≡ 0 → ⊥) (x : Option Span) (hx : x ≡ field_at s p) where
    left : n ≡ suc (n - 1)
    left = more n (omega (arith, some_left))

    pub next_no_key : x ≡ None → (r : Option TagSpan) → r ≡ None → NextAt every s n p r
    unfolding next_tag tags_up_to
    next_no_key ex r er = rw er (record { next = rw (left, sym hx ∙ ex); tags = rw (left, unplaced s p x hx ex); stands = tt })

    module _ (a : Span) (ex : x ≡ Some a) (y : Option Span) (hy : y ≡ field_at s a.end) where
      pub next_no_value : y ≡ None → (r : Option TagSpan) → r ≡ None → NextAt every s n p r
      unfolding next_tag tags_up_to
      next_no_value ey r er =
          rw er
          (record {
            next = rw (left, sym hx ∙ ex, sym hy ∙ ey);
            tags = rw (left, (placed s p a.start a.end x hx ex).read, unplaced s a.end y hy ey);
            stands = tt;
          })

      module _ (b : Span) (ey : y ≡ Some b) where
        px : Placed s p a.start a.end
        px = placed s p a.start a.end x hx ex

        py : Placed s a.end b.start b.end
        py = placed s a.end b.start b.end y hy ey

        value_read : read_field (drop a.end s) ≡ field (take (b.end - (a.end + 1)) (drop (a.end + 1) s)) (drop b.end s)
        value_read = rw py.first at py.read

        one_tag : tags_up_to n (drop p s) ≡ tag_at s a.start a.end b.end ∷ tags_up_to (n - 1) (drop b.end s)
        one_tag = ap (λ (m : ℕ). tags_up_to m (drop p s)) left ∙ next
          where
            next : tags_up_to (suc (n - 1)) (drop p s) ≡ tag_at s a.start a.end b.end ∷ tags_up_to (n - 1) (drop b.end s)
            next = unfold tags_up_to in rw (px.read, value_read)

        here : next_tag every s n p ≡ some_tag p a.start a.end b.end (n - 1)
        here = ap (λ (m : ℕ). next_tag every s m p) left ∙ next
          where
            next : next_tag every s (suc (n - 1)) p ≡ some_tag p a.start a.end b.end (n - 1)
            next = unfold next_tag in rw (sym hx ∙ ex, sym hy ∙ ey)

        -- the bytes of the tag, as they stand
        tag_bytes : take (b.end - p) (drop p s) ≡ encode_tag (tag_at s a.start a.end b.end)
        tag_bytes =
            let t = encode_tag (tag_at s a.start a.end b.end) in
            let k = encode_field (tag_at s a.start a.end b.end).key in
            let v = encode_field (tag_at s a.start a.end b.end).value in
            let both : drop p s ≡ t ++ drop b.end s =
            field_read (drop p s) (tag_at s a.start a.end b.end).key (drop a.end s) px.read
            ∙ ap (λ (l : List ℕ). k ++ l) (field_read (drop a.end s) (tag_at s a.start a.end b.end).value (drop b.end s) value_read)
            ∙ sym (append_assoc k v (drop b.end s)) in
            let size : length t ≡ b.end - p =
            omega (
              arith,
              ap length both,
              length-append t (drop b.end s),
              length-drop p s,
              length-drop b.end s,
              px.first,
              px.order,
              py.first,
              py.order,
              py.within,
            ) in
            ap (take (b.end - p)) both ∙ take_at t (drop b.end s) (b.end - p) size

        pub next_found : NextAt every s n p (some_tag p a.start a.end b.end (n - 1))
        next_found =
            record {
              next = sym here;
              tags = one_tag;
              stands = (
                record {
                  first = px.first;
                  key_order = px.order;
                  value_order = omega (arith, py.first, py.order);
                  within = py.within;
                  bytes = tag_bytes;
                },
                omega (arith, some_left),
              );
            }

-- where no tag is found, none is left
pub next_ended : (f : List Tag → List Tag) (s : List ℕ) (n p : ℕ) (x : Option TagSpan) → NextAt f s n p x → x ≡ None
    → f (tags_up_to n (drop p s)) ≡ []
next_ended f s n p x hx ex = rw ex at hx.tags
