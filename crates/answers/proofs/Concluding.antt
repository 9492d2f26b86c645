-- What a plan comes to, outcome by outcome: the first clash, then the room, then the answer. Assumes nothing.
use Prim.Native.Nat.{ℕ, ◌*◌, ◌≤◌, ◌<◌}
use mathlib.Core.Path.{◌≡◌, refl}
use mathlib.Core.Bool.{Bool, true, false, ◌||◌, cond}
use mathlib.Core.Option.{Option, none, some}
use mathlib.Core.List.{List, [], ◌∷◌, map}
use native.Mathlib.Omega.{arith}
use lib.Dec.{ltb}
use lib.ListN.{length, length-map}
use borrow.Author.Tests.{lt-ltb, le-ltb}
use Rattle.model.specs.Limits.{max_series, max_label_bytes}
use Rattle.model.specs.Lists.{gather}
use Rattle.model.specs.Labels.{Labels}
use Rattle.model.specs.Vector.{Series, Shape, label_bytes, readings_of}
use Rattle.semantics.specs.Events.{Duplicate}
use Rattle.semantics.specs.Call as Call
use Rattle.semantics.specs.Call.{refused, answered, fit, over_tags}
use Rattle.plan.specs.Conclude.{conclude}
use Rattle.side_parts.specs.Lent.{in_code}
use Rattle.std.specs.Prelude.{Result, Ok, Err, ⊤}
use Rattle.answers.specs.declared.Answer.{Answer}
use Rattle.answers.specs.declared.Refusal.{Refusal}
use Rattle.answers.specs.declared.Refusal.TheVariants as R
use Rattle.answers.specs.declared.Tally.{Tally}
use Rattle.answers.specs.declared.NoRoom.{NoRoom}
use Rattle.answers.specs.declared.NoRoom.TheVariants as Room
use Rattle.answers.specs.Outcomes.{Ran, starting_with, refused_room, refused_twice}
use Rattle.answers.specs.Plans.{duplicate_of}
use Rattle.answers.specs.declared.Twice.{Twice}
use Rattle.answers.specs.declared.Twice.TheVariants.{Left, Right}
use Rattle.answers.specs.Tallies.{records_of, some_wide, TallyOf, room_number, room_refusal}

-- rows as series

module _ (S : ℕ → Series) where
  abbrev labels : ℕ → Labels
  labels x = (S x).labels

  abbrev row : ℕ → List ℕ
  row x = (S x).row

  bytes_of : (rows : List ℕ) → label_bytes (map S rows) ≡ records_of labels rows
  unfolding label_bytes
  bytes_of [] = refl
  bytes_of (x ∷ rows) = rw (bytes_of rows)

  readings_of_lem : (rows : List ℕ) → readings_of (map S rows) ≡ gather row rows
  unfolding readings_of
  readings_of_lem [] = refl
  readings_of_lem (x ∷ rows) = rw (readings_of_lem rows)

  tags_of_lem : (rows : List ℕ) → over_tags (map S rows) ≡ some_wide labels rows
  unfolding some_wide
  tags_of_lem [] = refl
  tags_of_lem (x ∷ rows) = rw (tags_of_lem rows)

-- the outcome by the room
abbrev outcome_by : Call.Outcome → Result ⊤ NoRoom → Call.Outcome
outcome_by answer (Ok _) = answer
outcome_by answer (Err Room.TooLarge) = refused 9 0 0
outcome_by answer (Err Room.TooLong) = refused 10 0 0

by_tests_lem : (answer : Call.Outcome) (large long : Bool) (room : Result ⊤ NoRoom) → room_number room ≡ cond large 9 (cond long 10 0)
    → cond large (refused 9 0 0) (cond long (refused 10 0 0) answer) ≡ outcome_by answer room
by_tests_lem answer true long (Err Room.TooLarge) h = refl
by_tests_lem answer true long (Err Room.TooLong) h = absurd (omega arith)
by_tests_lem answer true long (Ok _) h = absurd (omega arith)
by_tests_lem answer false true (Err Room.TooLarge) h = absurd (omega arith)
by_tests_lem answer false true (Err Room.TooLong) h = refl
by_tests_lem answer false true (Ok _) h = absurd (omega arith)
by_tests_lem answer false false (Err Room.TooLarge) h = absurd (omega arith)
by_tests_lem answer false false (Err Room.TooLong) h = absurd (omega arith)
by_tests_lem answer false false (Ok _) h = refl

-- a plan

module _ (shape : Shape) (labels₀ out₀ : List ℕ) where
  -- the first clash is the outcome
  pub ran_twice : (clash : Option Duplicate) (ss : List Series) (twice : Twice) → clash ≡ some (duplicate_of twice)
      → Ran (conclude (length labels₀) (length out₀) shape clash ss) labels₀ out₀ labels₀ out₀ (Err (refused_twice twice))
  ran_twice clash ss (Left d) h = rw h (record { outcome = refl; label_part = refl; reading_part = refl })
  ran_twice clash ss (Right d) h = rw h (record { outcome = refl; label_part = refl; reading_part = refl })

  -- without a clash, the rows as they fit
  pub ran_without_clash : (clash : Option Duplicate) (ss : List Series) (labels out : List ℕ) (r : Result Answer Refusal) → clash ≡ none
      → Ran (fit (length labels₀) (length out₀) shape ss) labels₀ out₀ labels out r
      → Ran (conclude (length labels₀) (length out₀) shape clash ss) labels₀ out₀ labels out r
  ran_without_clash clash ss labels out r h k = rw h k

  pub ran_too_many : (ss : List Series) → max_series < length ss
      → Ran (fit (length labels₀) (length out₀) shape ss) labels₀ out₀ labels₀ out₀ (Err R.TooLarge)
  unfolding fit
  ran_too_many ss h = rw (lt-ltb max_series (length ss) h) (record { outcome = refl; label_part = refl; reading_part = refl })

  -- at most 512 rows, whose series S gives, with their tally and the room for them
  module _ (S : ℕ → Series) (rows : List ℕ) (few : length rows ≤ max_series) (t : Tally) (tally : TallyOf (λ x. (S x).labels) rows t)
      (room : Result ⊤ NoRoom) (asked : room_number room ≡ room_refusal (length rows) shape.points t (length labels₀) (length out₀)) where
    abbrev answer : Call.Outcome
    answer = answered (length rows) shape (records_of (labels S) rows) (gather (row S) rows)

    fits_as : fit (length labels₀) (length out₀) shape (map S rows) ≡ outcome_by answer room
    unfolding fit
    fits_as =
        rw (
          length-map rows S,
          le-ltb max_series (length rows) few,
          tags_of_lem S rows,
          bytes_of S rows,
          readings_of_lem S rows,
          ← tally.bytes,
          ← tally.wide,
        )
        (by_tests_lem answer
        (t.too_many_tags || ltb max_label_bytes t.bytes)
        (ltb (length labels₀) t.bytes || ltb (length out₀) (length rows * shape.points))
        room asked)

    pub ran_no_room : (why : NoRoom) → room ≡ Err why
        → Ran (fit (length labels₀) (length out₀) shape (map S rows)) labels₀ out₀ labels₀ out₀ (Err (refused_room why))
    ran_no_room Room.TooLarge h = rw (fits_as, h) (record { outcome = refl; label_part = refl; reading_part = refl })
    ran_no_room Room.TooLong h = rw (fits_as, h) (record { outcome = refl; label_part = refl; reading_part = refl })

    pub ran_answer : room ≡ Ok tt → (bytes : ℕ) → bytes ≡ length (records_of (λ x. (S x).labels) rows)
        → (labels out : List ℕ) → labels ≡ starting_with (records_of (λ x. (S x).labels) rows) labels₀
        → out ≡ starting_with (gather (λ x. (S x).row) rows) out₀
        → Ran (fit (length labels₀) (length out₀) shape (map S rows)) labels₀ out₀ labels out
        (Ok (record { series = length rows; shape = in_code shape; bytes = bytes }))
    ran_answer h bytes k labels out a b =
        rw (fits_as, h) (record { outcome = rw k; label_part = a; reading_part = b })
