-- The codes of a join's plan: they stand on both sides, and with their marks they give the answer. Assumes nothing.
use Prim.Native.Nat.{ℕ, zero, suc, ◌*◌, ◌≤◌, ◌<◌}
use mathlib.Core.Path.{◌≡◌, refl, sym, ap, ◌∙◌}
use mathlib.Core.Option.{none}
use mathlib.Core.List.{List, [], ◌∷◌, map}
use native.Mathlib.Omega.{arith}
use lib.ListN.{length, get_or, take, drop, replicate, length-drop}
use lib.Seq.{length-take-le, drop-cons, get_or-take, length-sets}
use Rattle.model.specs.Limits.{max_series}
use Rattle.model.specs.Edits.{Names}
use Rattle.model.specs.Vector.{Series}
use Rattle.plan.specs.Merging.{row_of}
use Rattle.plan.specs.Joins.{JoinWork, edit_of, many_place, one_place, join_labels, join_row, join_series}
use Rattle.plan.specs.Pairs.{no_labels}
use Rattle.side_parts.specs.Sides.{row_at}
use Rattle.side_parts.specs.Lent.{Sides, side_labels, BothHeld}
use Rattle.std.specs.Prelude.{Result, Ok}
use Rattle.answers.specs.declared.Twice.{Twice}
use Rattle.answers.specs.Plans.{PlannedAs, up_from, up_to}
use Rattle.answers.proofs.Planning.{planned_clear, planned_count, planned_codes}
use Rattle.row_marks.specs.WordLaws.{part_marks}
use Rattle.join_series.specs.declared.Work.{Work}
use Rattle.join_series.specs.Works.{many_side, worked_row, coded_work}
use Rattle.join_records.specs.Records.{coded_join_labels}
use Rattle.join_series.specs.join_rows.Rows.{JoinCode, marked_row, coded_join_row}
use Rattle.join_series.specs.Series.{marks_of, coded_join_series}
use Rattle.join_series.proofs.Merged.{marked_is_merged}
use Rattle.join_plan.specs.Plans.{first_clash, join_codes, early_codes, noted_codes, leads_at, RowMarks, MarksPlanned}
use Rattle.join_plan.specs.place_plans.Places.{Clean}
use Rattle.join_plan.proofs.lead_marks.Leaders.{leads_among_long}
use Rattle.join_plan.proofs.lead_marks.Marking.{labels_long, labels_here}
use Rattle.join_plan.proofs.Codes.{merges_at, Sound, rows_sound, heads, tails}

-- marks of zeros

zeros : (n i : ℕ) → get_or {A = ℕ} (replicate n 0) i 0 ≡ 0
zeros zero i = refl
zeros (suc n) zero = refl
zeros (suc n) (suc i) = zeros n i

pub clean_start : (n : ℕ) → Clean 0 (replicate n 0)
clean_start n = record { each = λ i h. zeros n i }

-- series by their numbers
map_up : (f g : ℕ → Series) (i : ℕ) (list rest : List ℕ) → rest ≡ drop i list
    → ((j : ℕ) → j < length list → f j ≡ g (get_or list j 0)) → map f (up_from i (length rest)) ≡ map g rest
unfolding up_from
map_up f g i list [] e h = refl
map_up f g i list (x ∷ rest) e h =
    let l : i < length list = omega (arith, ap length e, length-drop i list) in
    let c = e ∙ drop-cons list i 0 l in
    let y : get_or list i 0 ≡ x = sym (heads x (get_or list i 0) rest (drop (suc i) list) c) in
    rw (h i l, y, map_up f g (suc i) list rest (tails x (get_or list i 0) rest (drop (suc i) list) c) h)

module _ (w : Work) (join skip : Names) (s : Sides) (held : BothHeld s) where
  abbrev work : JoinWork
  work = coded_work w join skip

  one_long : length (side_labels s.right) ≡ length s.right.keys
  one_long = labels_long s.right.array s.right.at s.right.keys held.right.count

  -- a sound code with its marks gives the series of the code

  module _ (codes marks : List ℕ) (k : ℕ) (sound : Sound work s (get_or codes k 0))
      (marked : RowMarks work s codes marks k) where
    abbrev x : ℕ
    x = get_or codes k 0

    labels_same : coded_join_labels w.naming join skip s x ≡ join_labels work s (many_place x) (one_place x)
    unfolding join_labels
    labels_same =
        rw (
          labels_here s.left.array s.left.at s.left.keys held.left.count (many_place x)
              sound.places.many,
          labels_here s.right.array s.right.at s.right.keys held.right.count (one_place x)
              sound.places.one,
        )

    abbrev led : List ℕ
    led = leads_at work s (many_place x)

    led_long : length led ≡ length s.right.keys
    led_long =
        leads_among_long (edit_of work) (get_or (side_labels s.left) (many_place x) no_labels)
        (get_or s.left.keys (many_place x) 0)
        s.right.keys (side_labels s.right) s.right.keys (side_labels s.right) (sym one_long)

    -- the row that the marks tell is the one that the leaders merge
    marked_same : marked_row s (marks_of marks k) (one_place x) ≡ row_of (merges_at work s x)
    unfolding merges_at
    marked_same =
        let few : length led ≤ 512 = omega (arith, led_long, held.right.rows.few) in
        marked_is_merged w.allowance s led (marks_of marks k) (one_place x) led_long
        (part_marks led (one_place x) (k * 8) marks few marked) (row_of (merges_at work s x)) sound.merge

    by_merges : worked_row w (row_at s.shape.points s.left.rows (many_place x)) (row_of (merges_at work s x))
        ≡ join_row work s (many_place x) (one_place x)
    unfolding merges_at join_row
    by_merges = refl

    rows_same : coded_join_row w s (marks_of marks k) x ≡ join_row work s (many_place x) (one_place x)
    rows_same = rw marked_same by_merges

    series_same : coded_join_series w join skip s codes marks k ≡ join_series work s x
    unfolding join_series
    series_same = λ i. record { labels = labels_same i; row = rows_same i }

  -- a plan without a clash, whose codes the list has room for

  module _ (codes₀ codes : List ℕ) (r : Result ℕ Twice)
      (planned : PlannedAs (first_clash work (many_side w) s) (join_codes work s) (early_codes work (many_side w) s) codes₀
      codes r)
      (n : ℕ) (h : r ≡ Ok n) (few : n ≤ max_series) (room : max_series ≤ length codes₀) where
    clear : first_clash work (many_side w) s ≡ none
    clear =
        planned_clear (first_clash work (many_side w) s) (join_codes work s) (early_codes work (many_side w) s) codes₀ codes
        r planned n h

    count : n ≡ length (join_codes work s)
    count =
        planned_count (first_clash work (many_side w) s) (join_codes work s) (early_codes work (many_side w) s) codes₀ codes
        r planned n h

    listed : take n codes ≡ join_codes work s
    listed =
        planned_codes (first_clash work (many_side w) s) (join_codes work s) (early_codes work (many_side w) s) codes₀ codes
        r planned n h
        (omega (arith, few, room))

    long : length codes ≡ length codes₀
    long =
        ap length planned.list
        ∙ length-sets codes₀ 0 (noted_codes work (many_side w) s)

    sound : (k : ℕ) → k < n → Sound work s (get_or codes k 0)
    sound k l =
        rw (← get_or-take n codes k 0 l, listed) (rows_sound work (many_side w) s held clear k (omega (arith, l, count)))

    pub join_codes_lem : (k : ℕ) → k < n → JoinCode s (get_or codes k 0)
    join_codes_lem k l = (sound k l).places

    -- and the marks for theirs
    module _ (marks₀ marks : List ℕ) (words : 4096 ≤ length marks₀)
        (marked : MarksPlanned work s (length (noted_codes work (many_side w) s)) codes marks₀ marks) where
      row_marks : (k : ℕ) → k < n → RowMarks work s codes marks k
      row_marks k l =
          let all : MarksPlanned work s (length (join_codes work s)) codes marks₀ marks = rw clear at marked in
          all.each k (omega (arith, l, count)) (omega (arith, l, few, room, long)) (omega (arith, l, few, words))

      pub join_series_lem : map (coded_join_series w join skip s codes marks) (up_to n)
          ≡ map (join_series work s) (join_codes work s)
      join_series_lem =
          let front : length (take n codes) ≡ n = length-take-le n codes (omega (arith, few, room, long)) in
          (rw front at
          (map_up (coded_join_series w join skip s codes marks) (join_series work s) 0 (take n codes) (take n codes) refl
          (λ k l.
          let below : k < n = omega (arith, l, front) in
          series_same codes marks k (sound k below) (row_marks k below)
          ∙ ap (join_series work s) (sym (get_or-take n codes k 0 below)))))
          ∙ ap (map (join_series work s)) listed
