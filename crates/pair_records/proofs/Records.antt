-- The edited record of a code: measured, and written. Assumes nothing.
use Prim.Native.Nat.{ℕ}
use mathlib.Core.Path.{◌≡◌, ap, ◌∙◌}
use mathlib.Core.List.{List}
use native.Mathlib.Omega.{arith}
use lib.ListN.{length}
use Rattle.model.specs.Query as Model
use Rattle.record_tags.specs.Lenient.{labels_of}
use Rattle.kept_labels.specs.Edited.{Sized}
use Rattle.kept_labels.specs.declared.Size.{Size}
use Rattle.kept_labels.proofs.Sizes.{labels_short, kept_short}
use Rattle.side_parts.specs.Sides.{record_at}
use Rattle.side_parts.specs.SideLaws.{record_within}
use Rattle.side_parts.specs.Lent.{RecordsHeld}
use Rattle.answers.specs.Tallies.{SizedRecord}
use Rattle.end_codes.specs.Codes.{left_last}
use Rattle.pair_records.specs.adjusted_labels.Edits.{keeps_name, edited}
use Rattle.pair_records.specs.Records.{coded_pair_labels}

module _ (array at : List ℕ) (c j : ℕ) (hj : j ≡ left_last c) (rec : List ℕ) (hr : rec ≡ record_at array at j)
    (q : Model.Query) where
  same : rec ≡ record_at array at (left_last c)
  same = hr ∙ ap (record_at array at) hj

  pub code_sized : RecordsHeld array at → (z : Size) → Sized (edited q (labels_of rec)) z
      → SizedRecord (coded_pair_labels q array at c) z
  code_sized h z s =
      record {
        sized = rw same at s;
        small = omega (
          arith,
          s.bytes,
          kept_short q.matching q.matching_list (keeps_name q) (labels_of rec),
          labels_short rec,
          ap length hr,
          record_within array at j,
          h.short,
        );
      }
