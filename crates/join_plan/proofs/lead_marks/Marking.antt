-- `find_lead`, `mark_leads`, `note_lasts`: leaders marked place by place, and their last places. Assumes nothing.
use Prim.Native.Nat.{ℕ, zero, suc, ◌+◌, ◌-◌, ◌*◌, ◌≤◌, ◌<◌}
use mathlib.Core.Path.{◌≡◌, refl, sym, ap, ◌∙◌}
use mathlib.Core.Bool.{Bool, true, false, cond, ◌&&◌}
use mathlib.Core.List.{List}
use native.Mathlib.Numerals.{add-one}
use native.Mathlib.Omega.{arith}
use mir.Syntax.{w64}
use mir.Val.{Fits}
use lib.Dec.{eqb}
use lib.ListN.{length, get_or, drop, set, replicate, length-set}
use lib.Seq.{get_or-set_same, get_or-set_other}
use borrow.Author.Tests.{eqb-true, eqb-false, eq-eqb, ne_eqb}
use Rattle.model.specs.Lists.{cases}
use Rattle.model.specs.Limits.{max_series}
use Rattle.model.specs.Labels.{Labels, same_tags}
use Rattle.model.specs.Edits.{Names}
use Rattle.plan.specs.Laws.Joins.{alike_refl, lead_cong}
use Rattle.plan.specs.Laws.Ends.{first_before}
use Rattle.plan.specs.Keys.{dropped, KeyEnds}
use Rattle.plan.specs.Pairs.{no_labels}
use Rattle.plan.specs.Joins.{Edit, same_edited_by, lead_of}
use Rattle.record_tags.specs.Lenient.{labels_of}
use Rattle.chosen_tags.specs.Keys.{hash_of, same_hash}
use Rattle.set_tags.specs.edited_tags.Walks.{edited_tags}
use Rattle.side_parts.specs.Sides.{record_at, labels_in}
use Rattle.side_parts.specs.SideLaws.{labels_at, labels_count}
use Rattle.join_records.specs.Edits.{tags_by}
use Rattle.join_plan.specs.lead_marks.Marks.{leads_in, Marking, NoneHashed, LeadFound, edited_hash}
use Rattle.join_plan.specs.lead_marks.Marks.{buckets, BucketNoted, LeadsPut, LastAt, LastsNoted}
use Rattle.join_plan.proofs.lead_marks.Leaders.{lead_step, leads_among_at}
use Rattle.join_plan.proofs.lead_marks.Buckets.{from_next, Bucketed, buckets_start, buckets_past}
use Rattle.join_plan.proofs.lead_marks.Buckets.{none_hashed, buckets_turn}

-- a side's labels, by their places
module _ (array at keys : List ℕ) (count : length at ≡ length keys + 1) where
  pub labels_long : length (labels_in array at) ≡ length keys
  labels_long = labels_count array at ∙ (omega arith)

  pub labels_here : (i : ℕ) → i < length keys → get_or (labels_in array at) i no_labels ≡ labels_of (record_at array at i)
  labels_here i h = labels_at array at i no_labels (omega arith)

-- one place of the key k
module _ (join skip : Names) (many : List ℕ) (k : ℕ) (array at keys leads hashes : List ℕ) (first o : ℕ)
    (s : Marking join skip many k array at keys leads hashes first o) (inside : o < length keys) where
  abbrev edit : Edit
  edit = tags_by join skip

  abbrev m : Labels
  m = labels_of many

  abbrev c : Labels
  c = labels_of (record_at array at o)

  abbrev ls : List Labels
  ls = labels_in array at

  alike_here : (i : ℕ) → i < length keys → same_edited_by edit m (get_or ls i no_labels) c
      ≡ same_tags (edited_tags join skip many (record_at array at i)) (edited_tags join skip many (record_at array at o))
  unfolding same_edited_by
  alike_here i h =
      rw (labels_here array at keys s.count i h)

  abbrev from : ℕ → ℕ
  from i = lead_of edit m k c i (drop i keys) (drop i ls)

  abbrev test : ℕ → Bool
  test i = eqb (get_or keys i 0) k && same_edited_by edit m (get_or ls i no_labels) c

  step : (i : ℕ) → i < length keys → from i ≡ cond (test i) i (from (suc i))
  step i h = lead_step edit m k c i keys ls h (omega (arith, labels_long array at keys s.count))

  -- no place before the key's first leads
  past_first : first ≤ o → (i : ℕ) → i ≤ first → from 0 ≡ from i
  past_first h zero g = refl
  past_first h (suc i) g =
      past_first h i (omega arith) ∙ step i (omega (arith, h, inside))
      ∙ rw (s.none i (omega arith) (omega (arith, h, inside)))

  module _ (i : ℕ) (a : first ≤ i) (h : i < o) where
    within : i < length keys
    within = omega (arith, h, inside)

    led_here : get_or leads i 0 ≡ cond (eqb (get_or keys i 0) k) (lead_of edit m k (get_or ls i no_labels) 0 keys ls) dropped
    led_here = s.led i a h
        ∙ leads_among_at edit m k keys ls keys ls i within (omega (arith, within, labels_long array at keys s.count))

    step_no : test i ≡ false → from i ≡ from (i + 1)
    step_no e = step i within ∙ rw (e, add-one i)

    step_yes : test i ≡ true → from i ≡ i
    step_yes e = step i within ∙ rw e

    not_leader : from 0 ≡ from i → (get_or leads i 0 ≡ i → ⊥) → test i ≡ false
    not_leader rest f =
        cases (eqb (get_or keys i 0) k)
        (λ e. cases (same_edited_by edit m (get_or ls i no_labels) c)
        (λ g. absurd (f (led_here ∙ rw e (lead_cong edit m k (get_or ls i no_labels) c g 0 keys ls) ∙ rest
        ∙ step_yes (rw (e, g)))))
        (λ g. rw (e, g)))
        (λ e. rw e)

    other_hash : (x : ℕ) → x ≡ edited_hash join skip many array at o → (get_or keys i 0 ≡ k → get_or hashes i 0 ≡ x → ⊥)
        → test i ≡ false
    other_hash x hx f =
        cases (eqb (get_or keys i 0) k)
        (λ e. cases (same_edited_by edit m (get_or ls i no_labels) c)
        (λ g. absurd (f (eqb-true (get_or keys i 0) k e) (s.hashed i a h (eqb-true (get_or keys i 0) k e)
        ∙ same_hash (edited_tags join skip many (record_at array at i)) (edited_tags join skip many (record_at array at o))
        (sym (alike_here i within) ∙ g) ∙ sym hx)))
        (λ g. rw (e, g)))
        (λ e. rw e)

    not_alike : same_tags (edited_tags join skip many (record_at array at i))
        (edited_tags join skip many (record_at array at o)) ≡ false → test i ≡ false
    not_alike f = cases (eqb (get_or keys i 0) k) (λ e. rw (e, alike_here i within, f)) (λ e. rw e)

    -- a place that leads has the key
    leader_key : get_or leads i 0 ≡ i → eqb (get_or keys i 0) k ≡ true
    leader_key f =
        cases (eqb (get_or keys i 0) k) (λ e. e)
        (λ e. absurd (let z : i ≡ dropped = sym f ∙ led_here ∙ rw e in omega (arith, z, within, s.few)))

    is_lead : get_or leads i 0 ≡ i
        → same_tags (edited_tags join skip many (record_at array at i)) (edited_tags join skip many (record_at array at o))
        ≡ true
        → test i ≡ true
    is_lead f g = rw (leader_key f, alike_here i within, g)

  lead_itself : get_or keys o 0 ≡ k → from o ≡ o
  lead_itself e = step o inside
      ∙ rw (eq-eqb (get_or keys o 0) k e, labels_here array at keys s.count o inside, alike_refl edit m c)

  -- no place before `start` leads, where none there has the hash
  module _ (start : ℕ) (none : NoneHashed k keys hashes first start (edited_hash join skip many array at o))
      (low : start ≤ o) where
    past_hashed : (n : ℕ) → first + n ≤ start → from 0 ≡ from (first + n)
    past_hashed zero g = past_first (omega (arith, none.order)) (first + 0) (omega arith)
    past_hashed (suc n) g =
        past_hashed n (omega arith)
        ∙ step_no (first + n) (omega arith) (omega arith)
        (other_hash (first + n) (omega arith) (omega arith) (edited_hash join skip many array at o) refl
        (none.each (first + n) (omega arith) (omega arith)))
        ∙ ap from (omega arith)

    past_start : from 0 ≡ from start
    past_start =
        let e : first + (start - first) ≡ start = omega (arith, none.order) in
        past_hashed (start - first) (omega (arith, e)) ∙ ap from e

-- `find_lead`: no place before n leads the place o
pub record Finding (join skip : Names) (many array at leads hashes : List ℕ) (start o n : ℕ) : Type 0 where
  pub after : start ≤ n
  pub within : n ≤ o
  pub rest : (k : ℕ) (keys : List ℕ) (first : ℕ) (s : Marking join skip many k array at keys leads hashes first o)
      (none : NoneHashed k keys hashes first start (edited_hash join skip many array at o)) (inside : o < length keys)
      → from join skip many k array at keys leads hashes first o s inside 0
      ≡ from join skip many k array at keys leads hashes first o s inside n

module _ (join skip : Names) (many array at leads hashes : List ℕ) (start o : ℕ) where
  pub find_starts : start ≤ o → Finding join skip many array at leads hashes start o start
  find_starts h = record {
    after = omega arith;
    within = h;
    rest = λ k keys first s none inside.
        past_start join skip many k array at keys leads hashes first o s inside start none h;
  }

  module _ (n : ℕ) (f : Finding join skip many array at leads hashes start o n) where
    module _ (h : n < o) where
      find_next : ((k : ℕ) (keys : List ℕ) (first : ℕ)
          (s : Marking join skip many k array at keys leads hashes first o)
          (none : NoneHashed k keys hashes first start (edited_hash join skip many array at o))
          (inside : o < length keys) → test join skip many k array at keys leads hashes first o s inside n ≡ false)
          → Finding join skip many array at leads hashes start o (n + 1)
      find_next t = record {
        after = omega (arith, f.after);
        within = omega arith;
        rest = λ k keys first s none inside. f.rest k keys first s none inside
            ∙ step_no join skip many k array at keys leads hashes first o s inside n
            (omega (arith, f.after, none.order)) h (t k keys first s none inside);
      }

      pub find_past : (get_or leads n 0 ≡ n → ⊥) → Finding join skip many array at leads hashes start o (n + 1)
      find_past g = find_next (λ k keys first s none inside.
          not_leader join skip many k array at keys leads hashes first o s inside n
          (omega (arith, f.after, none.order)) h (f.rest k keys first s none inside) g)

      pub find_other_hash : (x : ℕ) → x ≡ edited_hash join skip many array at o → (get_or hashes n 0 ≡ x → ⊥)
          → Finding join skip many array at leads hashes start o (n + 1)
      find_other_hash x hx g = find_next (λ k keys first s none inside.
          other_hash join skip many k array at keys leads hashes first o s inside n
          (omega (arith, f.after, none.order)) h x hx (λ e. g))

      module _ (x y : List ℕ) (hx : x ≡ record_at array at n) (hy : y ≡ record_at array at o) (r : Bool)
          (told : r ≡ same_tags (edited_tags join skip many x) (edited_tags join skip many y)) where
        told_here : r ≡ same_tags (edited_tags join skip many (record_at array at n))
            (edited_tags join skip many (record_at array at o))
        told_here = told ∙ rw (hx, hy)

        pub find_unlike : r ≡ false → Finding join skip many array at leads hashes start o (n + 1)
        find_unlike g = find_next (λ k keys first s none inside.
            not_alike join skip many k array at keys leads hashes first o s inside n
            (omega (arith, f.after, none.order)) h (sym told_here ∙ g))

        pub find_here : get_or leads n 0 ≡ n → r ≡ true → LeadFound join skip many array at leads hashes start o n
        find_here g t = record {
          each = λ k keys first s none inside key.
              let a : first ≤ n = omega (arith, f.after, none.order) in
              sym (f.rest k keys first s none inside
              ∙ step_yes join skip many k array at keys leads hashes first o s inside n a h
              (is_lead join skip many k array at keys leads hashes first o s inside n a h g (sym told_here ∙ t)));
        }

    pub find_itself : o ≤ n → LeadFound join skip many array at leads hashes start o o
    find_itself h = record {
      each = λ k keys first s none inside key.
          let e : n ≡ o = omega (arith, h, f.within) in
          sym (f.rest k keys first s none inside
          ∙ ap (from join skip many k array at keys leads hashes first o s inside) e
          ∙ lead_itself join skip many k array at keys leads hashes first o s inside key);
    }

-- `mark_leads`: the places from first up to i are marked
pub record Marks (join skip : Names) (many : List ℕ) (k : ℕ) (array at keys leads₀ hashes₀ leads hashes table : List ℕ)
    (first last i : ℕ) : Type 0 where
  pub long : length leads ≡ length leads₀
  pub kept : length hashes ≡ length hashes₀
  pub led_room : length keys ≤ length leads₀
  pub hash_room : length keys ≤ length hashes₀
  pub inside : last < length keys
  pub after : first ≤ i
  pub within : i ≤ last + 1
  pub so : Marking join skip many k array at keys leads hashes first i
  pub found : Bucketed k keys hashes first i table

module _ (join skip : Names) (many : List ℕ) (k : ℕ) (array at keys leads₀ hashes₀ : List ℕ) (first last : ℕ) where
  abbrev all : List ℕ
  all = leads_in join skip many k array at keys

  pub marks_start : length at ≡ length keys + 1 → length keys ≤ max_series → KeyEnds keys k first last → first < last
      → last < length keys → length keys ≤ length leads₀ → length keys ≤ length hashes₀
      → Marks join skip many k array at keys leads₀ hashes₀ leads₀ hashes₀ (replicate buckets 65535) first last first
  marks_start count few ends order inside e f = record {
    long = refl;
    kept = refl;
    led_room = e;
    hash_room = f;
    inside = inside;
    after = omega arith;
    within = omega arith;
    so = record {
      count = count;
      few = few;
      none = λ i h g. cases (eqb (get_or keys i 0) k)
          (λ y. absurd (let z = first_before k keys i g (eqb-true (get_or keys i 0) k y) in
          omega (arith, z, h, ends.first_place_lem)))
          (λ y. y);
      led = λ i a g. absurd (omega (arith, a, g));
      hashed = λ i a g. absurd (omega (arith, a, g));
    };
    found = buckets_start k keys hashes₀ first 65535 (omega (arith, order, inside, few));
  }

  module _ (leads hashes table : List ℕ) (o : ℕ)
      (s : Marks join skip many k array at keys leads₀ hashes₀ leads hashes table first last o) (inner : o ≤ last) where
    inside : o < length keys
    inside = omega (arith, s.inside)

    -- where the place's lead is v
    module _ (v : ℕ) where
      led_next : v ≡ get_or all o 0 → (i : ℕ) → first ≤ i → i < o + 1 → get_or (set leads o v) i 0 ≡ get_or all i 0
      led_next e = from_next first o
          (λ i a h. get_or-set_other leads o i v 0 (λ z. omega (arith, h, z)) ∙ s.so.led i a h)
          (get_or-set_same leads o v 0 (omega (arith, inside, s.long, s.led_room)) ∙ e)

      lead_is : v ≡ cond (eqb (get_or keys o 0) k)
          (lead_of (tags_by join skip) (labels_of many) k (labels_of (record_at array at o)) 0 keys
          (labels_in array at)) dropped
          → v ≡ get_or all o 0
      lead_is e =
          let count = s.so.count in
          e ∙ rw (← labels_here array at keys count o inside)
          (sym (leads_among_at (tags_by join skip) (labels_of many) k keys (labels_in array at) keys (labels_in array at) o
          inside
          (omega (arith, inside, labels_long array at keys count))))

    pub marks_lead : (x : List ℕ) → x ≡ record_at array at o → (h : ℕ) → h ≡ hash_of (edited_tags join skip many x)
        → (noted : List ℕ) (start : ℕ) → BucketNoted table h o noted start → (r : ℕ)
        → LeadFound join skip many array at leads hashes start o r → get_or keys o 0 ≡ k
        → Marks join skip many k array at keys leads₀ hashes₀ (set leads o r) (set hashes o h) noted first last (o + 1)
    marks_lead x hx h hh noted start b r f key =
        let hash : h ≡ edited_hash join skip many array at o =
        hh ∙ ap (λ (y : List ℕ). hash_of (edited_tags join skip many y)) hx in
        let none : NoneHashed k keys hashes first start (edited_hash join skip many array at o) =
        rw hash at (none_hashed k keys hashes first o table s.found h noted start b s.after) in
        record {
          long = simp length-set s.long;
          kept = simp length-set s.kept;
          led_room = s.led_room;
          hash_room = s.hash_room;
          inside = s.inside;
          after = omega (arith, s.after);
          within = omega (arith, inner);
          so = record {
            count = s.so.count;
            few = s.so.few;
            none = s.so.none;
            led = led_next r
                (lead_is r (f.each k keys first s.so none inside key ∙ rw (eq-eqb (get_or keys o 0) k key)));
            hashed = from_next first o
                (λ i a w e. get_or-set_other hashes o i h 0 (λ z. omega (arith, w, z)) ∙ s.so.hashed i a w e)
                (λ e. get_or-set_same hashes o h 0 (omega (arith, inside, s.hash_room, s.kept)) ∙ hash);
          };
          found = buckets_turn k keys hashes first o table s.found h noted start b s.after
              (omega (arith, inside, s.hash_room, s.kept));
        }

    pub marks_none : (get_or keys o 0 ≡ k → ⊥)
        → Marks join skip many k array at keys leads₀ hashes₀ (set leads o dropped) hashes table first last (o + 1)
    marks_none f = record {
      long = simp length-set s.long;
      kept = s.kept;
      led_room = s.led_room;
      hash_room = s.hash_room;
      inside = s.inside;
      after = omega (arith, s.after);
      within = omega (arith, inner);
      so = record {
        count = s.so.count;
        few = s.so.few;
        none = s.so.none;
        led = led_next dropped (lead_is dropped (rw (ne_eqb (get_or keys o 0) k f)));
        hashed = from_next first o (λ i a w e. s.so.hashed i a w e) (λ e. absurd (f e));
      };
      found = buckets_past k keys hashes first o table s.found f;
    }

  pub marks_end : (leads hashes table : List ℕ) (i : ℕ)
      → Marks join skip many k array at keys leads₀ hashes₀ leads hashes table first last i
      → last < i → LeadsPut first last all leads
  marks_end leads hashes table i s h = record { each = λ j a w. s.so.led j a (omega (arith, w, h)) }

-- what calls ask

module _ {join skip : Names} {many : List ℕ} {k : ℕ} {array at keys leads₀ hashes₀ leads hashes table : List ℕ}
    {first last o : ℕ} (s : Marks join skip many k array at keys leads₀ hashes₀ leads hashes table first last o) where
  pub table_size : length table ≡ buckets
  table_size = s.found.size

  module _ (h : o ≤ last) where
    pub key_inside : o < length keys
    key_inside = omega (arith, s.inside)

    pub record_inside : o + 1 < length at
    record_inside = omega (arith, s.so.count, s.inside)

    pub leads_room : o ≤ length leads
    leads_room = omega (arith, s.long, s.led_room, s.inside)

    pub hashes_room : o ≤ length hashes
    hashes_room = omega (arith, s.kept, s.hash_room, s.inside)

    pub next_fits : Fits w64 (o + 1)
    next_fits = omega (arith, s.inside, s.so.few)

    -- where it stands among words
    pub word_fits : Fits w64 (o * 8)
    word_fits = omega (arith, s.inside, s.so.few)

    pub fewer_left : last + 1 - (o + 1) < last + 1 - o
    fewer_left = omega (arith, h)

-- `note_lasts`: the leaders from first up to i have the last of the places before i that has them
pub record Lasts (first : ℕ) (leads lasts₀ lasts : List ℕ) (i : ℕ) : Type 0 where
  pub within : i ≤ length leads
  pub kept : length lasts ≡ length lasts₀
  pub each : (o : ℕ) → first ≤ o → o < i → get_or leads o 0 ≡ o → LastAt leads i o (get_or lasts o 0)

module _ (first : ℕ) (leads lasts₀ : List ℕ) where
  pub lasts_start : first ≤ length leads → Lasts first leads lasts₀ lasts₀ first
  lasts_start h = record { within = h; kept = refl; each = λ o a b. absurd (omega (arith, a, b)) }

  module _ (lasts : List ℕ) (i : ℕ) (s : Lasts first leads lasts₀ lasts i) where
    pub lasts_turn : length leads ≤ length lasts₀ → i < length leads → (later : List ℕ)
        → later ≡ set lasts (get_or leads i 0) i → Lasts first leads lasts₀ later (i + 1)
    lasts_turn room h later e = record {
      within = omega arith;
      kept = ap length e ∙ length-set lasts (get_or leads i 0) i ∙ s.kept;
      each = λ o a b g. rw e (cases (eqb (get_or leads i 0) o)
          (λ y. new o b (eqb-true (get_or leads i 0) o y))
          (λ y. old o a b g y));
    }
      where
        new : (o : ℕ) → o < i + 1 → get_or leads i 0 ≡ o
            → LastAt leads (i + 1) o (get_or (set lasts (get_or leads i 0) i) o 0)
        new o b y =
            rw (y, get_or-set_same lasts o i 0 (omega (arith, b, h, room, s.kept)))
            (record { from = omega arith; within = omega arith; led = y; none = λ j p q. absurd (omega (arith, p, q)) })

        old : (o : ℕ) → first ≤ o → o < i + 1 → get_or leads o 0 ≡ o → eqb (get_or leads i 0) o ≡ false
            → LastAt leads (i + 1) o (get_or (set lasts (get_or leads i 0) i) o 0)
        old o a b g y =
            let f : get_or leads i 0 ≡ o → ⊥ = eqb-false (get_or leads i 0) o y in
            let d : o ≡ i → ⊥ = λ z. f (ap (λ n. get_or leads n 0) (sym z) ∙ g) in
            let l : LastAt leads i o (get_or lasts o 0) = s.each o a (omega (arith, b, d)) g in
            rw (get_or-set_other lasts (get_or leads i 0) o i 0 (λ z. f (sym z)))
            (record {
              from = l.from;
              within = omega (arith, l.within);
              led = l.led;
              none = λ j p q. cases (eqb j i) (λ t. rw (eqb-true j i t) y)
                  (λ t. l.none j p (let z : j ≡ i → ⊥ = eqb-false j i t in omega (arith, q, z)));
            })

    pub lasts_end : length leads ≤ i → LastsNoted first leads lasts
    lasts_end h = record {
      each = λ o a b g. (let e : i ≡ length leads = omega (arith, h, s.within) in
          rw e at (s.each o a (omega (arith, b, h)) g));
    }
