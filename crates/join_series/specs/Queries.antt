-- A join whose work and lists are those of a query comes to what the query's join comes to. Assumes nothing.
use Rattle.std.specs.Prelude.{ℕ, suc, ◌+◌, ◌≤◌, ◌≡◌, ltb, length}
use Rattle.std.proofs.Math.Path.{refl}
use Rattle.std.proofs.Common.{sym, ap, ◌∙◌, arith, ltb-true, ltb-false}
use mathlib.Core.List.{List, [], ◌∷◌, map, append-nil}
use Rattle.std.proofs.Math.ListN.{get_or, get_or-eq_default}
use Rattle.model.specs.Lists.{cases}
use Rattle.model.specs.Reading.{scalar_op}
use Rattle.model.specs.Labels.{Labels, ascending, WellFormed}
use Rattle.model.specs.Record.{encode}
use Rattle.model.specs.Edits.{Names}
use Rattle.model.specs.Query.{Query, Side, should_reset_metric_group}
use Rattle.semantics.specs.Binop.{skip_list, joined_labels, join_rows}
use Rattle.plan.specs.Pairs.{no_labels}
use Rattle.plan.specs.Joins.{JoinWork, work_of, edit_of, same_edited_by, lead_of, leads_among, leads_for, many_place, one_place}
use Rattle.plan.specs.Joins.{join_clash, join_rows_from, join_labels, join_row, join_series, join_outcome}
use Rattle.record_tags.specs.Lenient.{labels_of, labels_encoded}
use Rattle.set_tags.specs.naming.Namings.{naming_of}
use Rattle.set_tags.specs.Records.{edited_is}
use Rattle.side_parts.specs.Sides.{labels_in}
use Rattle.side_parts.specs.SideLaws.{labels_at, labels_count}
use Rattle.side_parts.specs.Lent.{Sides, side_labels, Formed, BothHeld}
use Rattle.join_series.specs.declared.Work.{Work}
use Rattle.join_records.specs.Edits.{edited_by, edited_by_lem}
use Rattle.join_series.specs.Works.{many_side, worked_row, coded_work}

-- the work is that of a query, and the lists are its own
pub record WorkOf (q : Query) (join skip : Names) (w : Work) : Type 0 where
  pub joins : q.join_list ≡ join
  pub skips : skip_list q.matching q.matching_list ≡ skip
  pub operator : q.operator ≡ w.operator
  pub bool : q.bool ≡ w.as_bool
  pub naming : w.naming ≡ naming_of join skip (should_reset_metric_group q)
  pub allowance : w.allowance ≡ q.allowance

-- labels each of which is well formed

record EachFormed (ls : List Labels) : Type 0 where
  at : (i : ℕ) → WellFormed (get_or ls i no_labels)

first_formed : (l : Labels) (ls : List Labels) → EachFormed (l ∷ ls) → WellFormed l
first_formed l ls f = f.at 0

later_formed : (l : Labels) (ls : List Labels) → EachFormed (l ∷ ls) → EachFormed ls
later_formed l ls f = record { at = λ i. f.at (suc i) }

none_formed : WellFormed no_labels
unfolding ascending
none_formed = record { name = record { short = omega arith; bytes = tt }; tags = tt; order = refl }

side_formed : (array at : List ℕ) → Formed array at → EachFormed (labels_in array at)
side_formed array at f = record {
  at = λ i.
      cases (ltb (i + 1) (length at))
      (λ e. (let h = ltb-true (i + 1) (length at) e in rw (labels_at array at i no_labels h) (f.labels i h)))
      (λ e. (let h : length (labels_in array at) ≤ i = few i (ltb-false (i + 1) (length at) e) in
      rw (get_or-eq_default (labels_in array at) no_labels {n = i} h) none_formed));
}
  where
    few : (i : ℕ) → length at ≤ i + 1 → length (labels_in array at) ≤ i
    few i h = omega (arith, labels_count array at, h)

-- two works that edit well-formed labels alike

module _ (f g : Labels → Labels → Labels) (rows : List ℕ → List ℕ → List ℕ) (allowance : ℕ)
    (agree : (m o : Labels) → WellFormed m → WellFormed o → f m o ≡ g m o) where
  abbrev a : JoinWork
  a = record { labels = f; rows = rows; allowance = allowance }

  abbrev b : JoinWork
  b = record { labels = g; rows = rows; allowance = allowance }

  module _ (m : Labels) (wm : WellFormed m) where
    alike : (x y : Labels) → WellFormed x → WellFormed y → same_edited_by (edit_of a) m x y ≡ same_edited_by (edit_of b) m x y
    unfolding same_edited_by
    alike x y wx wy = rw (agree m x wm wx, agree m y wm wy)

    module _ (k : ℕ) where
      lead : (c : Labels) → WellFormed c → (i : ℕ) (ks : List ℕ) (ls : List Labels) → EachFormed ls
          → lead_of (edit_of a) m k c i ks ls ≡ lead_of (edit_of b) m k c i ks ls
      unfolding lead_of
      lead c wc i [] ls e = refl
      lead c wc i (x ∷ ks) [] e = refl
      lead c wc i (x ∷ ks) (l ∷ ls) e =
          rw (alike l c (first_formed l ls e) wc, lead c wc (suc i) ks ls (later_formed l ls e))

      leads : (keys : List ℕ) (labels : List Labels) → EachFormed labels → (xs : List ℕ) (ls : List Labels)
          → EachFormed ls
          → leads_among (edit_of a) m k keys labels xs ls ≡ leads_among (edit_of b) m k keys labels xs ls
      unfolding leads_among
      leads keys labels e [] ls h = refl
      leads keys labels e (x ∷ xs) [] h = refl
      leads keys labels e (x ∷ xs) (l ∷ ls) h =
          rw (lead l (first_formed l ls h) 0 keys labels e, leads keys labels e xs ls (later_formed l ls h))

  module _ (s : Sides) (ones : EachFormed (side_labels s.right)) where
    led : (m : Labels) → WellFormed m → (k : ℕ) → leads_for a s m k ≡ leads_for b s m k
    led m wm k = leads m wm k s.right.keys (side_labels s.right) ones s.right.keys (side_labels s.right)
        ones

    clashes : (many : Side) (ks : List ℕ) (ls : List Labels) → EachFormed ls
        → join_clash a many s ks ls ≡ join_clash b many s ks ls
    unfolding join_clash
    clashes many [] ls e = refl
    clashes many (k ∷ ks) [] e = refl
    clashes many (k ∷ ks) (l ∷ ls) e = rw (led l (first_formed l ls e) k, clashes many ks ls (later_formed l ls e))

    codes : (m : ℕ) (ks : List ℕ) (ls : List Labels) → EachFormed ls
        → join_rows_from a s m ks ls ≡ join_rows_from b s m ks ls
    unfolding join_rows_from
    codes m [] ls e = refl
    codes m (k ∷ ks) [] e = refl
    codes m (k ∷ ks) (l ∷ ls) e = rw (led l (first_formed l ls e) k, codes (suc m) ks ls (later_formed l ls e))

    module _ (manys : EachFormed (side_labels s.left)) where
      series : (x : ℕ) → join_series a s x ≡ join_series b s x
      unfolding join_series join_labels join_row
      series x =
          let m = get_or (side_labels s.left) (many_place x) no_labels in
          let wm : WellFormed m = manys.at (many_place x) in
          rw (
            agree m (get_or (side_labels s.right) (one_place x) no_labels) wm (ones.at (one_place x)),
            led m wm
                (get_or s.left.keys (many_place x) 0),
          )

      all_series : (xs : List ℕ) → map (join_series a s) xs ≡ map (join_series b s) xs
      all_series [] = refl
      all_series (x ∷ xs) = rw (series x, all_series xs)

      outcomes : (many : Side) (label_room room : ℕ)
          → join_outcome a many label_room room s ≡ join_outcome b many label_room room s
      outcomes many label_room room =
          rw (
            clashes many s.left.keys (side_labels s.left) manys,
            codes 0 s.left.keys (side_labels s.left)
                manys,
            all_series,
          )

-- the labels that a query's join gives

labels_again : (l : Labels) → labels_of (encode l) ≡ l
labels_again l = ap labels_of (sym (append-nil (encode l))) ∙ labels_encoded l []

module _ (q : Query) (join skip : Names) (w : Work) (of : WorkOf q join skip w) where
  edits : (m o : Labels) → WellFormed m → WellFormed o → edited_by join skip w.naming m o ≡ joined_labels q m o
  unfolding joined_labels
  edits m o wm wo =
      rw (of.naming, of.joins, of.skips)
      (rw (labels_again m, labels_again o) at
      (sym (edited_by_lem join skip (naming_of join skip (should_reset_metric_group q)) (encode m) (encode o))
      ∙ edited_is join skip (should_reset_metric_group q) (encode m) (encode o) (rw (labels_again m) wm)
      (rw (labels_again o) wo)))

  works : record { labels = joined_labels q; rows = worked_row w; allowance = w.allowance } ≡ work_of q (many_side w)
  works =
      let rows : worked_row w ≡ join_rows (many_side w) (scalar_op q.operator q.bool) =
      ap (λ o. join_rows (many_side w) (scalar_op o w.as_bool)) (sym of.operator)
      ∙ ap (λ b. join_rows (many_side w) (scalar_op q.operator b)) (sym of.bool) in
      λ i. record { labels = joined_labels q; rows = rows i; allowance = of.allowance i }

  -- a join so worked is the query's
  pub joined_outcome : (s : Sides) → BothHeld s → (label_room room : ℕ)
      → join_outcome (coded_work w join skip) (many_side w) label_room room s
      ≡ join_outcome (work_of q (many_side w)) (many_side w) label_room room s
  joined_outcome s held label_room room =
      outcomes (edited_by join skip w.naming) (joined_labels q) (worked_row w) w.allowance edits s
      (side_formed s.right.array s.right.at held.right.formed)
      (side_formed s.left.array s.left.at held.left.formed)
      (many_side w) label_room room
      ∙ ap (λ x. join_outcome x (many_side w) label_room room s) works
