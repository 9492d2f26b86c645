-- The record of a row: which it is, its size, and its bytes. Assumes nothing.
use Prim.Native.Nat.{ℕ, ◌+◌, ◌-◌, ◌≤◌, ◌<◌}
use mathlib.Core.Path.{◌≡◌, sym, ap, ◌∙◌}
use mathlib.Core.List.{List}
use native.Mathlib.Omega.{arith}
use lib.ListN.{length, get_or, get_or-append}
use lib.Seq.{get_or-append-add}
use Rattle.model.specs.Limits.{max_label_bytes}
use Rattle.model.specs.Labels.{Labels}
use Rattle.model.specs.Record.{encode}
use Rattle.record_tags.specs.Lenient.{labels_of}
use Rattle.plan.specs.Pairs.{no_labels}
use Rattle.plan.specs.Sets.{set_labels}
use Rattle.side_parts.specs.Sides.{record_at}
use Rattle.side_parts.specs.SideLaws.{labels_at, labels_count, record_within}
use Rattle.side_parts.specs.Lent.{Side, Sides, side_labels, RecordsFormed, BothFormed, record_count}
use Rattle.set_records.specs.Records.{RowRecord}

-- the record of a place of one side

module _ (x : Side) (f : RecordsFormed x) (i : ℕ) (rec : List ℕ) (e : rec ≡ record_at x.array x.at i) where
  place_labels : i < length x.at - 1 → labels_of rec ≡ get_or (side_labels x) i no_labels
  place_labels h = ap labels_of e ∙ sym (labels_at x.array x.at i no_labels (omega arith))

  place_whole : i < length x.at - 1 → rec ≡ encode (labels_of rec)
  place_whole h = rw e (f.formed.encoded i (omega arith))

  place_short : length rec ≤ max_label_bytes
  place_short = omega (arith, record_within x.array x.at i, f.held.short, ap length e)

-- of a row

module _ (s : Sides) (both : BothFormed s) (x : ℕ) (rec : List ℕ) where
  lefts : length (side_labels s.left) ≡ length s.left.at - 1
  lefts = labels_count s.left.array s.left.at

  row_record : (l : Labels) → labels_of rec ≡ l → l ≡ set_labels s x → rec ≡ encode (labels_of rec)
      → length rec ≤ max_label_bytes → RowRecord s x rec
  row_record l e h w k = record { bytes = w ∙ ap encode (e ∙ h); labels = e ∙ h; short = k }

  pub left_record : x < length s.left.at - 1 → rec ≡ record_at s.left.array s.left.at x → RowRecord s x rec
  left_record h e =
      row_record (get_or (side_labels s.left) x no_labels) (place_labels s.left both.left x rec e h)
      (sym (get_or-append (side_labels s.left) (side_labels s.right) no_labels x (omega (arith, lefts))))
      (place_whole s.left both.left x rec e h)
      (place_short s.left both.left x rec e)

  module _ (h : length s.left.at - 1 ≤ x) (k : x < record_count s.left + record_count s.right) where
    behind : ℕ
    behind = x - (length s.left.at - 1)

    pub right_record : rec ≡ record_at s.right.array s.right.at (x - (length s.left.at - 1))
        → RowRecord s x rec
    unfolding behind
    right_record e =
        let l : behind < length s.right.at - 1 = omega arith in
        let n : length (side_labels s.left) + behind ≡ x = omega (arith, lefts) in
        row_record (get_or (side_labels s.right) behind no_labels) (place_labels s.right both.right behind rec e l)
        (sym (get_or-append-add (side_labels s.left) (side_labels s.right) behind no_labels) ∙ ap (set_labels s) n)
        (place_whole s.right both.right behind rec e l)
        (place_short s.right both.right behind rec e)
