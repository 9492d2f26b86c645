-- The edited record of a code: measured, and written. Assumes nothing.
use Prim.Native.Nat.{ℕ, ◌+◌, ◌≤◌, ◌<◌}
use mathlib.Core.Path.{◌≡◌, sym, ap, ◌∙◌}
use mathlib.Core.List.{List}
use native.Mathlib.Omega.{arith}
use lib.ListN.{length}
use Rattle.model.specs.Limits.{max_label_bytes}
use Rattle.model.specs.Labels.{WellFormed}
use Rattle.model.specs.Edits.{Names}
use Rattle.plan.specs.Joins.{many_place, one_place}
use Rattle.record_tags.specs.Lenient.{labels_of}
use Rattle.kept_labels.specs.Edited.{Sized}
use Rattle.kept_labels.specs.declared.Size.{Size}
use Rattle.kept_labels.proofs.Sizes.{length-labels}
use Rattle.set_tags.specs.declared.naming.Naming.{Naming}
use Rattle.set_tags.specs.declared.naming.Naming.TheVariants.{Nobody, Many, Source}
use Rattle.set_tags.specs.naming.Namings.{name_of}
use Rattle.set_tags.specs.Records.{ShortRecords, edited}
use Rattle.set_tags.proofs.Sizes.{edited_short}
use Rattle.side_parts.specs.Sides.{record_at}
use Rattle.side_parts.specs.SideLaws.{record_within}
use Rattle.side_parts.specs.Lent.{Sides}
use Rattle.answers.specs.Tallies.{SizedRecord}
use Rattle.join_records.specs.Edits.{edited_by_lem}
use Rattle.join_records.specs.Records.{coded_join_labels, JoinRecord}

-- a record of an array within the limit is within it
record_short : (array at : List ℕ) (i : ℕ) (x : List ℕ) → x ≡ record_at array at i → length array ≤ max_label_bytes
    → length x ≤ max_label_bytes
record_short array at i x e h = omega (arith, ap length e, record_within array at i)

-- the name of an edited record is a name
named : (naming : Naming) (many source : List ℕ) → WellFormed (labels_of many) → WellFormed (labels_of source)
    → length (name_of naming many source) ≤ 255
named Nobody many source wm ws = omega arith
named Many many source wm ws = wm.name.short
named Source many source wm ws = ws.name.short

module _ (s : Sides) (c : ℕ) (h : JoinRecord s c) where
  pub many_in : (i : ℕ) → i ≡ many_place c → i + 1 < length s.left.at
  many_in i e = omega (arith, e, h.many)

  pub one_in : (i : ℕ) → i ≡ one_place c → i + 1 < length s.right.at
  one_in i e = omega (arith, e, h.one)

  -- its two records

  module _ (i : ℕ) (hi : i ≡ many_place c) (j : ℕ) (hj : j ≡ one_place c)
      (rec : List ℕ) (hr : rec ≡ record_at s.left.array s.left.at i)
      (source : List ℕ) (hs : source ≡ record_at s.right.array s.right.at j) where
    pub code_short : ShortRecords rec source
    code_short = record {
      many_short = record_short s.left.array s.left.at i rec hr h.held.left.held.short;
      source_short = record_short s.right.array s.right.at j source hs h.held.right.held.short;
    }

    module _ (naming : Naming) (join skip : Names) where
      labels_are : coded_join_labels naming join skip s c ≡ edited join skip naming rec source
      labels_are = sym (edited_by_lem join skip naming rec source ∙ rw (hr, hs, hi, hj))

      code_name : length (name_of naming rec source) ≤ 255
      code_name =
          named naming rec source
          (rw hr (h.held.left.formed.labels i (many_in i hi)))
          (rw hs (h.held.right.formed.labels j (one_in j hj)))

      pub code_sized : (z : Size) → Sized (edited join skip naming rec source) z
          → SizedRecord (coded_join_labels naming join skip s c) z
      code_sized z k = record {
        sized = rw labels_are k;
        small = omega (
          arith,
          k.bytes,
          length-labels (edited join skip naming rec source),
          edited_short join skip rec source,
          code_name,
          code_short.many_short,
          code_short.source_short,
        );
      }
