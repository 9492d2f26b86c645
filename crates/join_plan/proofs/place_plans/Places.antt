-- `plan_leads`, `plan_place` and `place_leads`: one many-side place of a join planned. Assumes nothing.
use Prim.Native.Nat.{ℕ, suc, ◌+◌, ◌*◌, ◌/◌, ◌%◌, ◌≤◌, ◌<◌}
use mathlib.Core.Path.{◌≡◌, refl, sym, ap, ◌∙◌}
use mathlib.Core.Bool.{false}
use mathlib.Core.List.{List, [], ◌∷◌}
use native.Mathlib.Omega.{arith}
use mir.Syntax.{w64}
use mir.Val.{Fits}
use lib.Dec.{eqb, ltb}
use lib.ListN.{length, get_or, take, length-set}
use lib.Seq.{length-sets, length-take-le, get_or-set_same, get_or-take, take-take}
use borrow.Author.Tests.{eqb-true, ltb-true}
use Rattle.model.specs.Limits.{max_series}
use Rattle.model.specs.Lists.{cases}
use Rattle.model.specs.Labels.{Labels}
use Rattle.plan.specs.Keys.{KeyEnds, dropped}
use Rattle.plan.specs.Laws.Ends.{first_before, first_last, last_greatest, several_stand, ends_within}
use Rattle.plan.specs.Joins.{Edit, leads_of, lead_rows, row_code, one_place}
use Rattle.overwriting.specs.Marks.{bit}
use Rattle.end_codes.specs.Codes.{side_first, side_last}
use Rattle.key_ends.specs.Ends.{EndsOf, side_first_lem, side_last_lem}
use Rattle.index_lists.specs.Places.{NotedAll}
use Rattle.row_marks.specs.Words.{led_behind, MarksAt}
use Rattle.row_marks.specs.WordLaws.{bit_zero}
use Rattle.std.specs.Prelude.{Result, Ok, ⊤}
use Rattle.answers.specs.declared.Clash.{Clash}
use Rattle.join_plan.specs.lead_marks.Marks.{LastsNoted}
use Rattle.join_plan.specs.join_leads.Checks.{LedAs, ClashOf, RowFits, RowsMarked, RowsListed}
use Rattle.join_plan.specs.place_plans.Places.{LeadsMarked, PlaceNotes, sole_leads, LeadsPlanned}
use Rattle.join_plan.specs.place_plans.Places.{PlaceLeads, PlaceDone, PlaceMarked, PlaceHeld}
use Rattle.join_plan.proofs.lead_marks.Leaders.{leads_among_long, leads_among_at}
use Rattle.join_plan.proofs.join_leads.Sole.{sole_long, sole_clash, nowhere_rows, sole_rows, not_led, sole_leads_lem}

-- of two slices in an array

pub first_there : 0 < 2
first_there = omega arith

-- `plan_leads`

noted_rows : (rows : List ℕ) (n : ℕ) (before after : List ℕ) (c : ℕ) → NotedAll rows n before after c
    → PlaceNotes rows before n after (Ok c)
noted_rows rows n before after c h = record {
  noted = λ d f. (let z : c ≡ d = cc in rw (← z) h);
  stopped = λ d f. absurd (let z : ◌≡◌ {A = ℕ} 0 1 = cc in omega arith);
  long = ap length h.content ∙ length-sets before n rows;
}

marked_rows : (leads list : List ℕ) (n : ℕ) (before after : List ℕ) (c : ℕ) → RowsMarked leads list n c before after
    → LeadsMarked leads list n before after (Ok c)
marked_rows leads list n before after c h = record {
  rows = λ d f. (let z : c ≡ d = cc in rw (← z) h);
  stopped = λ d f. absurd (let z : ◌≡◌ {A = ℕ} 0 1 = cc in omega arith);
  long = h.frame.long;
}

module _ (allowance m n p : ℕ) (rows : List ℕ) (first : ℕ) (leads list₀ marks₀ : List ℕ) (x : Result ⊤ Clash)
    (h : ClashOf allowance p rows first leads x) where
  pub leads_planned : x ≡ Ok tt → (list marks : List ℕ) (c : ℕ)
      → RowsListed m n first leads list₀ marks₀ list marks c
      → LeadsPlanned allowance m n p rows first leads list₀ marks₀ list marks (Ok c)
  leads_planned e list marks c k = record {
    each = λ all led clean. record {
      clash = λ side. h.each all led side ∙ rw e;
      notes = noted_rows (lead_rows m 0 all) n list₀ list c (k.rows all led);
      marked = marked_rows all list n marks₀ marks c (k.marked all led clean.each);
    };
  }

-- `plan_place`

module _ (m c n p : ℕ) (rows leads lasts marks₀ : List ℕ) (held : PlaceHeld m c n p rows leads lasts marks₀)
    (first : ℕ) (hf : first ≡ side_first c) where
  inside : (first ≡ length leads → ⊥) → first < length leads
  inside f = omega (arith, f, hf, held.first)

  pub row_fits : (first ≡ length leads → ⊥) → RowFits m first n
  row_fits f = record {
    many = held.place;
    one = omega (arith, inside f, held.few);
    before = omega (arith, held.place, held.before);
  }

  module _ (last : ℕ) (hl : last ≡ side_last c) where
    module _ (f : first ≡ last → ⊥) where
      apart : side_first c ≡ side_last c → ⊥
      apart z = f (hf ∙ z ∙ sym hl)

      last_inside : last < length leads
      last_inside = rw hl (held.last apart)

      pub end_inside : last + 1 ≤ length leads
      end_inside = omega (arith, last_inside)

      front : length (take (last + 1) leads) ≡ last + 1
      front = length-take-le (last + 1) leads end_inside

      pub lasts_room : length (take (last + 1) leads) ≤ length lasts
      lasts_room = omega (arith, front, last_inside, held.room)

    module _ (e : first ≡ last) (allowance : ℕ) (list₀ : List ℕ) where
      sole_planned : (list : List ℕ) (r : ℕ) → NotedAll (lead_rows m 0 (sole_leads first 0 (length leads))) n list₀ list r
          → ((i : ℕ) → n ≤ i → i < r → i < length list
          → MarksAt (sole_leads first 0 (length leads)) (one_place (get_or list i 0)) (i * 8) marks₀)
          → PlaceDone allowance m c n p rows leads list₀ marks₀ list marks₀ (Ok r)
      sole_planned list r noted marks = record {
        each = λ all led. rw (led.sole (sym hf ∙ e ∙ hl), ← hf) (record {
          clash = λ side. sole_clash first (length leads) held.few allowance p rows side;
          notes = noted_rows (lead_rows m 0 (sole_leads first 0 (length leads))) n list₀ list r noted;
          marked = marked_rows (sole_leads first 0 (length leads)) list n marks₀ marks₀ r
              (record {
                frame = record { long = refl; below = λ i h. refl; above = λ i h. refl };
                marks = λ i a b u v. marks i a b u;
              });
        });
      }

      pub none_planned : first ≡ length leads
          → PlaceDone allowance m c n p rows leads list₀ marks₀ list₀ marks₀ (Ok n)
      none_planned f =
          sole_planned list₀ n
          (rw (nowhere_rows first m (length leads) 0 (omega (arith, f)) (omega (arith, held.few)))
          (record { content = refl; count = omega arith }))
          (λ i a b u. absurd (omega (arith, a, b)))

      pub one_planned : (first ≡ length leads → ⊥) → (list : List ℕ) (r : ℕ)
          → NotedAll (row_code m first ∷ []) n list₀ list r
          → PlaceDone allowance m c n p rows leads list₀ marks₀ list marks₀ (Ok r)
      one_planned f list r noted =
          sole_planned list r
          (rw (sole_rows first m (length leads) 0 (omega arith) (omega (arith, inside f)) (omega (arith, held.few)))
          noted)
          (λ i a b u. (let s : i ≡ n = omega (arith, a, b, noted.count) in rw s (unmarked (rw s at u))))
        where
          small : first < 512
          small = omega (arith, inside f, held.few)

          code_one : (x : ℕ) → x ≡ row_code m first → one_place x ≡ first
          code_one x h = omega (arith, h, small)

          here : n < length list → get_or list n 0 ≡ row_code m first
          here u =
              let l : length list ≡ length list₀ =
              ap length noted.content ∙ length-set list₀ n (row_code m first) in
              ap (λ (x : List ℕ). get_or x n 0) noted.content
              ∙ get_or-set_same list₀ n (row_code m first) 0 (omega (arith, u, l))

          none_behind : (j : ℕ) → led_behind (sole_leads first 0 (length leads)) first j ≡ false
          none_behind j =
              cases (ltb (suc first + j) (length (sole_leads first 0 (length leads))))
              (λ e. rw e (let w = ltb-true (suc first + j) (length (sole_leads first 0 (length leads))) e in
              not_led first (length leads) held.few first (suc first + j) (inside f)
              (omega (arith, w, sole_long first 0 (length leads))) (λ z. omega (arith, z))))
              (λ e. rw e)

          unmarked : n < length list
              → MarksAt (sole_leads first 0 (length leads)) (one_place (get_or list n 0)) (n * 8) marks₀
          unmarked u = rw (code_one (get_or list n 0) (here u)) (record {
            each = λ j w.
                ap (λ x. bit x (j % 64)) (held.clean.each (n * 8 + j / 64) (omega arith)) ∙ bit_zero (j % 64)
                ∙ sym (none_behind j);
          })

-- `place_leads`

-- the code of the key k, where its first place is not its last
module _ (keys : List ℕ) (k c : ℕ) (ends : EndsOf keys k c) where
  pub ends_few : length keys ≤ max_series
  ends_few = ends.few

  pub code_order : side_first c ≤ side_last c
  code_order = omega (arith, side_first_lem keys k c ends, side_last_lem keys k c ends, first_last k keys)

  module _ (first last : ℕ) (hf : first ≡ side_first c) (hl : last ≡ side_last c) where
    pub key_ends : KeyEnds keys k first last
    key_ends = record { first_place_lem = hf ∙ side_first_lem keys k c ends; last_place = hl ∙ side_last_lem keys k c ends }

    module _ (f : first ≡ last → ⊥) where
      pub key_order_lem : first < last
      key_order_lem = omega (arith, f, hf, hl, code_order)

      pub key_last : last < length keys
      key_last = ends_within keys k first last key_ends (several_stand keys k first last key_ends key_order_lem)

      pub last_fits : Fits w64 (last + 1)
      last_fits = omega (arith, key_last, ends.few)

      module _ (leads₀ leads : List ℕ) (room : length keys ≤ length leads₀) (long : length leads ≡ length leads₀) where
        pub front_there : last + 1 ≤ length leads
        front_there = omega (arith, key_last, room, long)

        pub front_first : first ≤ length (take (last + 1) leads)
        front_first = omega (arith, length-take-le (last + 1) leads front_there, key_order_lem)

        pub front_room : (lasts : List ℕ) → length keys ≤ length lasts → length (take (last + 1) leads) ≤ length lasts
        front_room lasts h = omega (arith, length-take-le (last + 1) leads front_there, key_last, h)

module _ (c : ℕ) (all leads lasts : List ℕ) (first last : ℕ) (hf : first ≡ side_first c) (hl : last ≡ side_last c) where
  pub unmarked_leads : first ≡ last → PlaceMarked c all leads lasts
  unmarked_leads e = record { led = λ f. absurd (f (sym hf ∙ e ∙ hl)); noted = λ f. absurd (f (sym hf ∙ e ∙ hl)) }

-- the leaders so marked are those of the key
module _ (edit : Edit) (m : Labels) (keys : List ℕ) (k c : ℕ) (ends : EndsOf keys k c) (labels : List Labels)
    (long : length labels ≡ length keys) (leads lasts : List ℕ) (room : length keys ≤ length leads) where
  abbrev all : List ℕ
  all = leads_of edit m k keys labels

  abbrev part : List ℕ
  part = take (length keys) leads

  part_long : length part ≡ length keys
  part_long = length-take-le (length keys) leads room

  all_long : length all ≡ length keys
  all_long = leads_among_long edit m k keys labels keys labels (sym long)

  not_led_at : (i : ℕ) → i < length all → eqb (get_or keys i 0) k ≡ false → get_or all i 0 ≡ dropped
  not_led_at i h e =
      leads_among_at edit m k keys labels keys labels i (omega (arith, h, all_long)) (omega (arith, h, all_long, long))
      ∙ rw e

  none_before : (i : ℕ) → i < side_first c → i < length all → eqb (get_or keys i 0) k ≡ false
  none_before i h g = cases (eqb (get_or keys i 0) k)
      (λ y. absurd (let z = first_before k keys i (omega (arith, g, all_long)) (eqb-true (get_or keys i 0) k y) in
      omega (arith, z, h, side_first_lem keys k c ends)))
      (λ y. y)

  module _ (marked : PlaceMarked c all leads lasts) where
    module _ (f : side_first c ≡ side_last c → ⊥) where
      pub part_last : side_last c < length part
      part_last = omega (arith, part_long, key_last keys k c ends (side_first c) (side_last c) refl refl f)

      front_part : take (side_last c + 1) part ≡ take (side_last c + 1) leads
      front_part = take-take (side_last c + 1) (length keys) leads (omega (arith, part_last, part_long))

      pub part_noted : LastsNoted (side_first c) (take (side_last c + 1) part) lasts
      part_noted = rw front_part (marked.noted f)

      several_led : LedAs all (side_first c) (take (side_last c + 1) part)
      several_led =
          let l : length (take (side_last c + 1) part) ≡ side_last c + 1 =
          length-take-le (side_last c + 1) part (omega (arith, part_last)) in record {
            few = omega (arith, all_long, ends.few);
            part = omega (arith, l, part_last, part_long, all_long);
            before = λ i h g. not_led_at i g (none_before i h g);
            same = λ i h g. get_or-take (side_last c + 1) part i 0 (omega (arith, g, l))
                ∙ get_or-take (length keys) leads i 0 (omega (arith, g, l, part_last, part_long))
                ∙ (marked.led f).each i h (omega (arith, g, l));
            behind = λ i h g. not_led_at i g (last_greatest k keys i
                (omega (arith, h, l, side_last_lem keys k c ends)) (omega (arith, g, all_long)));
          }

    pub placed_leads : PlaceLeads all c part
    placed_leads = record {
      sole = λ e. rw (part_long, side_first_lem keys k c ends)
          (sole_leads_lem keys k (sym (side_first_lem keys k c ends) ∙ e ∙ side_last_lem keys k c ends) edit m labels long);
      several = several_led;
    }
