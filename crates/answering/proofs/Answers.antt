-- A rule run: its plan's clash, or the answer of its rows as they fit. Assumes nothing.
use Prim.Native.Nat.{ℕ, ◌*◌, ◌≤◌, ◌<◌}
use mathlib.Core.Path.{◌≡◌, refl, sym, ap, ◌∙◌}
use mathlib.Core.Bool.{false}
use mathlib.Core.List.{List, [], map}
use native.Mathlib.Omega.{arith}
use lib.ListN.{length, get_or, take}
use lib.Seq.{length-sets, length-take-le}
use Rattle.model.specs.Limits.{max_series}
use Rattle.model.specs.Lists.{gather}
use Rattle.model.specs.Vector.{Series}
use Rattle.semantics.specs.Call.{fit}
use Rattle.side_parts.specs.Lent.{Side, Sides, rows_only, in_code, of_points, BothHeld, BothFormed, BothRowsHeld}
use Rattle.std.specs.Prelude.{Result, Ok, Err, ⊤}
use Rattle.answers.specs.declared.Answer.{Answer}
use Rattle.answers.specs.declared.Refusal.{Refusal}
use Rattle.answers.specs.declared.Refusal.TheVariants as Out
use Rattle.answers.specs.declared.Twice.{Twice}
use Rattle.answers.specs.declared.Tally.{Tally}
use Rattle.answers.specs.declared.NoRoom.{NoRoom}
use Rattle.answers.specs.Outcomes.{Ran, starting_with, refused_twice, refused_room}
use Rattle.answers.specs.Plans.{noted_by, up_to}
use Rattle.answers.specs.Tallies.{records_of, RecordsPut, some_wide, TallyOf, room_number, room_refusal}
use Rattle.answers.proofs.Concluding.{ran_no_room, ran_answer}
use Rattle.answers.proofs.Numbering.{up_long, coded_records, coded_tally}
use Rattle.answers.proofs.Planning.{planned_twice, planned_too_many, planned_answer}
use Rattle.answers.proofs.Tallies.{records_narrow, records_fit, rows_fit}
use Rattle.answering.specs.declared.families.Rule.{Rule}
use Rattle.answering.specs.declared.families.Rule.TheVariants as R
use Rattle.answering.specs.families.Codes.{rule_labels, plan_row, plan_series, CodeIn, RecordIn, CodesIn, RecordsIn}
use Rattle.answering.specs.families.Plans.{rule_clash, rule_codes, early_codes, rule_series, rule_outcome, RulePlanned}

-- sides without rows

abbrev records_only : Side → Side
records_only x = record { array = x.array; at = x.at; keys = []; rows = [] }

abbrev labelled_only : Sides → Sides
labelled_only s = record { shape = of_points 0; left = records_only s.left; right = records_only s.right }

-- records play no part in rows, nor rows in records

labels_same : (rule : Rule) (first second : List ℕ) (s : Sides) → rule_labels rule first second (labelled_only s) ≡ rule_labels rule first second s
labels_same (R.Pairs q) first second s = refl
labels_same (R.Join w) first second s = refl
labels_same (R.Set op) first second s = refl
labels_same (R.Groups g) first second s = refl

rows_same : (rule : Rule) (s : Sides) (codes marks : List ℕ) → plan_row rule (rows_only s) codes marks ≡ plan_row rule s codes marks
rows_same (R.Pairs q) s codes marks = refl
rows_same (R.Join w) s codes marks = refl
rows_same (R.Set op) s codes marks = refl
rows_same (R.Groups g) s codes marks = refl

module _ (s : Sides) (held : BothHeld s) where
  pub both_formed : BothFormed (labelled_only s)
  both_formed = record {
    left = record { held = held.left.records; formed = held.left.formed; some = omega (arith, held.left.count) };
    right = record { held = held.right.records; formed = held.right.formed; some = omega (arith, held.right.count) };
  }

  pub both_rows : BothRowsHeld (rows_only s)
  both_rows = record { left = held.left.rows; right = held.right.rows }

  record_in : (rule : Rule) (c : ℕ) → CodeIn rule s c → RecordIn rule (labelled_only s) c
  record_in (R.Pairs q) c k = record { place = omega (arith, k.left, held.left.count) }
  record_in (R.Join w) c k = record {
    held = both_formed;
    many = omega (arith, k.many, held.left.count);
    one = omega (arith, k.one, held.right.count);
  }
  record_in (R.Set op) c k = record { below = omega (arith, k.below, held.left.count, held.right.count) }
  record_in (R.Groups g) c k = record { below = omega (arith, k.below, held.left.count) }

  code_in : (rule : Rule) (c : ℕ) → CodeIn rule s c → CodeIn rule (rows_only s) c
  code_in (R.Pairs q) c k = record { left = k.left; right = k.right }
  code_in (R.Join w) c k = record { many = k.many; one = k.one }
  code_in (R.Set op) c k = record { below = k.below }
  code_in (R.Groups g) c k = record { below = k.below }

-- the plan carried out

module _ (rule : Rule) (first second : List ℕ) (s : Sides) (held : BothHeld s) (before codes marks : List ℕ) (r : Result ℕ Twice)
    (w : RulePlanned rule first second s before codes marks r) (long : length before ≡ max_series) where
  module _ (labels₀ out₀ : List ℕ) where
    pub run_twice : (twice : Twice) → r ≡ Err twice
        → Ran (rule_outcome rule first second (length labels₀) (length out₀) s) labels₀ out₀ labels₀ out₀ (Err (refused_twice twice))
    run_twice twice h =
        planned_twice (rule_clash rule first second s) (rule_codes rule first second s) (early_codes rule first second s) before codes r w.planned
        s.shape (rule_series rule first second s) labels₀ out₀ twice h

  module _ (n : ℕ) (h : r ≡ Ok n) where
    pub run_many : (labels₀ out₀ : List ℕ) → max_series < n
        → Ran (rule_outcome rule first second (length labels₀) (length out₀) s) labels₀ out₀ labels₀ out₀ (Err Out.TooLarge)
    run_many labels₀ out₀ many =
        planned_too_many (rule_clash rule first second s) (rule_codes rule first second s) (early_codes rule first second s) before codes r w.planned
        n h s.shape (rule_series rule first second s) labels₀ out₀ (w.count n h) many

    module _ (few : n ≤ max_series) where
      codes_long : length codes ≡ max_series
      codes_long =
          ap length w.planned.list
          ∙ length-sets before 0 (noted_by (rule_clash rule first second s) (rule_codes rule first second s) (early_codes rule first second s)) ∙ long

      pub codes_within : n ≤ length codes
      codes_within = omega (arith, few, codes_long)

      front : length (take n codes) ≡ n
      front = length-take-le n codes codes_within

      pub codes_front : n ≡ length (take n codes)
      codes_front = sym front

      pub codes_in : CodesIn rule (rows_only s) (take n codes)
      codes_in = record {
        few = rw front few;
        each = λ k l. code_in s held rule (get_or (take n codes) k 0) (w.inside n h few k (omega (arith, l, front)));
      }

      pub records_in_lem : RecordsIn rule (labelled_only s) (take n codes)
      records_in_lem = record {
        few = rw front few;
        each = λ k l. record_in s held rule (get_or (take n codes) k 0) (w.inside n h few k (omega (arith, l, front)));
      }

      pub marks_enough : length (take n codes) * 8 ≤ length marks
      marks_enough = omega (arith, front, few, w.marks_long)

      -- by the room

      abbrev series : ℕ → Series
      series = plan_series rule first second s (take n codes) marks

      abbrev rows : List ℕ
      rows = up_to (length (take n codes))

      rows_few : length rows ≤ max_series
      rows_few = omega (arith, up_long 0 (length (take n codes)), front, few)

      stands : (labels₀ out₀ labels out : List ℕ) (x : Result Answer Refusal) → Ran (fit (length labels₀) (length out₀) s.shape
          (map series rows)) labels₀ out₀ labels out x
          → Ran (rule_outcome rule first second (length labels₀) (length out₀) s) labels₀ out₀ labels out x
      stands labels₀ out₀ labels out x ran =
          planned_answer (rule_clash rule first second s) (rule_codes rule first second s) (early_codes rule first second s) before codes r w.planned
          n h s.shape series rows (rule_series rule first second s) labels₀ out₀ labels out x
          (rw front (w.series n h few)) ran

      module _ (labels₀ out₀ : List ℕ) (t : Tally) (tally : TallyOf (rule_labels rule first second (labelled_only s)) (take n codes) t)
          (room : Result ⊤ NoRoom) (asked : room_number room ≡ room_refusal n s.shape.points t (length labels₀) (length out₀)) where
        tally_here : TallyOf (rule_labels rule first second s) (take n codes) t
        tally_here = rw (labels_same rule first second s) at tally

        by_number : TallyOf (λ k. (series k).labels) rows t
        by_number = coded_tally (rule_labels rule first second s) (take n codes) t tally_here

        as_asked : room_number room ≡ room_refusal (length rows) s.shape.points t (length labels₀) (length out₀)
        as_asked = rw (up_long 0 (length (take n codes)), front) asked

        pub run_no_room : (why : NoRoom) → room ≡ Err why
            → Ran (rule_outcome rule first second (length labels₀) (length out₀) s) labels₀ out₀ labels₀ out₀ (Err (refused_room why))
        run_no_room why e = stands labels₀ out₀ labels₀ out₀ (Err (refused_room why))
            (ran_no_room s.shape labels₀ out₀ series rows rows_few t by_number room as_asked why e)

        module _ (e : room ≡ Ok tt) where
          pub rows_room : length (take n codes) * s.shape.points ≤ length out₀
          rows_room = rw front (rows_fit n s.shape.points t (length labels₀) (length out₀) room asked e)

          pub none_wide : some_wide (rule_labels rule first second (labelled_only s)) (take n codes) ≡ false
          none_wide =
              records_narrow n s.shape.points t (length labels₀) (length out₀) room asked e (rule_labels rule first second (labelled_only s))
              (take n codes) tally

          pub records_room : length (records_of (rule_labels rule first second (labelled_only s)) (take n codes)) ≤ length labels₀
          records_room =
              records_fit n s.shape.points t (length labels₀) (length out₀) room asked e (rule_labels rule first second (labelled_only s))
              (take n codes) tally

          pub run_answer : (bytes : ℕ) (labels out : List ℕ)
              → RecordsPut (rule_labels rule first second (labelled_only s)) (take n codes) labels₀ labels bytes
              → out ≡ starting_with (gather (plan_row rule (rows_only s) (take n codes) marks) (up_to (length (take n codes)))) out₀
              → Ran (rule_outcome rule first second (length labels₀) (length out₀) s) labels₀ out₀ labels out
              (Ok (record { series = n; shape = in_code s.shape; bytes = bytes }))
          run_answer bytes labels out put made =
              let here : RecordsPut (rule_labels rule first second s) (take n codes) labels₀ labels bytes = rw (labels_same rule first second s) at put in
              let same = coded_records (rule_labels rule first second s) (take n codes) in
              let count : length rows ≡ n = up_long 0 (length (take n codes)) ∙ front in
              stands labels₀ out₀ labels out (Ok (record { series = n; shape = in_code s.shape; bytes = bytes }))
              (rw count at
              (ran_answer s.shape labels₀ out₀ series rows rows_few t by_number room as_asked e bytes (here.bytes ∙ ap length same) labels out
              (here.out ∙ ap (λ x. starting_with x labels₀) same)
              (rw (rows_same rule s (take n codes) marks) at made)))
