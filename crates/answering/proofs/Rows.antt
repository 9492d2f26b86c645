-- The rows of a plan, each written into its own part. Assumes nothing.
use Prim.Native.Nat.{ℕ, ◌+◌, ◌-◌, ◌*◌, ◌≤◌, ◌<◌}
use mathlib.Core.Path.{◌≡◌, sym, ◌∙◌}
use mathlib.Core.List.{List}
use native.Mathlib.Omega.{arith}
use mir.Syntax.{w64}
use mir.Val.{Fits}
use lib.ListN.{length, get_or, take, drop, length-take, length-drop}
use borrow.Rule.Slice.PartMut.{put_mid}
use Rattle.model.specs.Limits.{max_series, max_points}
use Rattle.model.specs.Lists.{gather}
use Rattle.side_parts.specs.Lent.{Sides, row_sides, BothRowsHeld}
use Rattle.answers.specs.Outcomes.{starting_with}
use Rattle.answers.specs.Plans.{up_to}
use Rattle.answers.proofs.Numbering.{up_long, up_at}
use Rattle.answers.proofs.Rows.{from_fits, bytes_fit, RowsWriting, rows_start, rows_length, row_within, part_wide, rows_turn, rows_end}
use Rattle.pair_series.proofs.Widths as Pair
use Rattle.join_series.specs.Series.{marks_of}
use Rattle.join_series.proofs.Widths.{join_row_wide}
use Rattle.set_series.proofs.Rows as Set
use Rattle.answering.specs.declared.families.Rule.{Rule}
use Rattle.answering.specs.declared.families.Rule.TheVariants as R
use Rattle.answering.specs.families.Codes.{rule_row, plan_row, CodeIn, CodesIn, WorkRoom, WorkKept}
use Rattle.answering.proofs.families.Grouping.{group_wide}

-- the row of a code is as wide as the readings
row_wide : (rule : Rule) (s : Sides) → BothRowsHeld s → (marks : List ℕ) (c : ℕ) → CodeIn rule s c → length (rule_row rule s marks c) ≡ s.shape.points
row_wide (R.Pairs q) s h marks c k = Pair.coded_wide q.operator q.as_bool s h c k
row_wide (R.Join w) s h marks c k = join_row_wide s c h k w marks
row_wide (R.Set op) s h marks c k = Set.coded_wide _ s h c k
row_wide (R.Groups g) s h marks c k = group_wide g s h c k

-- the rows before k are written, and the work rows and the list of places are as long as they were made
pub record RowsDone (rule : Rule) (s : Sides) (codes marks before left right places out : List ℕ) (k : ℕ) : Type 0 where
  pub held : BothRowsHeld s
  pub codes_in : CodesIn rule s codes
  pub marked : length codes * 8 ≤ length marks
  pub left_long : length left ≡ 1024
  pub right_long : length right ≡ 1024
  pub places_long : length places ≡ 1024
  pub done : RowsWriting (plan_row rule s codes marks) s.shape.points (up_to (length codes)) before k out

module _ (rule : Rule) (p : ℕ) (lkeys lrows rkeys rrows codes marks before : List ℕ) where
  abbrev s : Sides
  s = row_sides p lkeys lrows rkeys rrows

  pub rows_begin : BothRowsHeld (row_sides p lkeys lrows rkeys rrows) → CodesIn rule (row_sides p lkeys lrows rkeys rrows) codes
      → length codes * 8 ≤ length marks → length codes * p ≤ length before
      → (left right places : List ℕ) → length left ≡ 1024 → length right ≡ 1024 → length places ≡ 1024
      → RowsDone rule (row_sides p lkeys lrows rkeys rrows) codes marks before left right places before 0
  rows_begin h c m r left right places l l' l'' = record {
    held = h;
    codes_in = c;
    marked = m;
    left_long = l;
    right_long = l';
    places_long = l'';
    done = rows_start (plan_row rule s codes marks) p (up_to (length codes)) before
        (record {
          each = λ i w.
              (let u : i < length codes = omega (arith, w, up_long 0 (length codes)) in
              rw (up_at (length codes) i u) (row_wide rule s h (marks_of marks i) (get_or codes i 0) (c.each i u)));
        })
        (rw (up_long 0 (length codes)) r);
  }

  module _ (left right places out : List ℕ) (k : ℕ)
      (inv : RowsDone rule (row_sides p lkeys lrows rkeys rrows) codes marks before left right places out k) where
    pub rows_long : length out ≡ length before
    rows_long = rows_length (plan_row rule s codes marks) p (up_to (length codes)) before k out inv.done

    pub rows_put : length codes ≤ k
        → out ≡ starting_with (gather (plan_row rule (row_sides p lkeys lrows rkeys rrows) codes marks) (up_to (length codes))) before
    rows_put h = rows_end (plan_row rule s codes marks) p (up_to (length codes)) before k out inv.done (omega (arith, h, up_long 0 (length codes)))

    module _ (h : k < length codes) where
      few : length codes ≤ max_series
      few = inv.codes_in.few

      inside : k < length (up_to (length codes))
      inside = omega (arith, h, up_long 0 (length codes))

      pub part_within : k * p + p ≤ length out
      part_within = row_within (plan_row rule s codes marks) p (up_to (length codes)) before k out inv.done inside

      wide : length (take (k * p + p - k * p) (drop (k * p) out)) ≡ p
      wide = part_wide (plan_row rule s codes marks) p (up_to (length codes)) before k out inv.done inside

      pub work_room : WorkRoom (length (take (k * p + p - k * p) (drop (k * p) out))) left right places
      work_room =
          let n : p ≤ max_points = inv.held.left.narrow in
          rw wide
          (record {
            left_room = omega (arith, n, inv.left_long);
            right_room = omega (arith, n, inv.right_long);
            places_room = omega (arith, inv.places_long);
          })

      pub rows_next : (left' right' places' y : List ℕ)
          → y ≡ rule_row rule (row_sides (length (take (k * p + p - k * p) (drop (k * p) out))) lkeys lrows rkeys rrows)
          (take (k * 8 + 8 - k * 8) (drop (k * 8) marks)) (get_or codes k 0)
          → WorkKept left right places left' right' places'
          → RowsDone rule (row_sides p lkeys lrows rkeys rrows) codes marks before left' right' places'
          (put_mid (k * p) (k * p + p - k * p) out y) (k + 1)
      rows_next left' right' places' y e kept = record {
        held = inv.held;
        codes_in = inv.codes_in;
        marked = inv.marked;
        left_long = kept.left_long ∙ inv.left_long;
        right_long = kept.right_long ∙ inv.right_long;
        places_long = kept.places_long ∙ inv.places_long;
        done =
            let eight : k * 8 + 8 - k * 8 ≡ 8 = omega arith in
            let is : y ≡ plan_row rule s codes marks k = rw (wide, eight) at e in
            rows_turn (plan_row rule s codes marks) p (up_to (length codes)) before k out inv.done inside y (rw (up_at (length codes) k h) is);
      }
