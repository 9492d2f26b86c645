-- What an answer takes, whether it fits, and what writing its records leaves. A row of an answer is a number, its code;
-- f gives the labels of a code. Assumes nothing.
use Rattle.std.specs.Prelude.{ℕ, ◌+◌, ◌*◌, ◌≤◌, ◌≡◌, Bool, false, ◌||◌, cond, List, [], ◌∷◌, ltb, length, Result, Ok, Err, ⊤}
use Rattle.model.specs.Limits.{max_tags, max_label_bytes}
use Rattle.model.specs.Lists.{gather}
use Rattle.model.specs.Labels.{Labels}
use Rattle.model.specs.Record.{encode}
use Rattle.kept_labels.specs.declared.Size.{Size}
use Rattle.kept_labels.specs.Edited.{Sized}
use Rattle.answers.specs.declared.Tally.{Tally}
use Rattle.answers.specs.declared.NoRoom.{NoRoom}
use Rattle.answers.specs.declared.NoRoom.TheVariants.{TooLarge, TooLong}
use Rattle.answers.specs.Outcomes.{starting_with}

-- the bytes that an edited record has at most: those of two label arrays, and of a name, a count and lengths
abbrev pub most_of_record : ℕ
most_of_record = 131370

-- and those of all records of an answer
abbrev pub most_bytes : ℕ
most_bytes = 67261440

-- the size of a record, which a tally has room for
pub record SizedRecord (l : Labels) (z : Size) : Type 0 where
  pub sized : Sized l z
  pub small : z.bytes ≤ most_of_record

abbrev pub no_tally : Tally
no_tally = record { bytes = 0; too_many_tags = false }

-- with one more record
abbrev pub with_size : Tally → Size → Tally
with_size t z = record { bytes = t.bytes + z.bytes; too_many_tags = t.too_many_tags || ltb max_tags z.tags }

-- the records of rows, one behind another
abbrev pub records_of : (ℕ → Labels) → List ℕ → List ℕ
records_of f rows = gather (λ x. encode (f x)) rows

-- the records of rows at the start of an output part, and r is their bytes
pub record RecordsPut (f : ℕ → Labels) (rows before after : List ℕ) (r : ℕ) : Type 0 where
  pub out : after ≡ starting_with (records_of f rows) before
  pub bytes : r ≡ length (records_of f rows)

-- 01: over 32 tags
unfoldable pub some_wide : (ℕ → Labels) → List ℕ → Bool
some_wide f [] = false
some_wide f (x ∷ rows) = ltb max_tags (length (f x).tags) || some_wide f rows

-- what the records of rows come to
pub record TallyOf (f : ℕ → Labels) (rows : List ℕ) (t : Tally) : Type 0 where
  pub bytes : t.bytes ≡ length (records_of f rows)
  pub wide : t.too_many_tags ≡ some_wide f rows

-- 01's number of the code's answers, 0 where nothing is refused
abbrev pub room_number : Result ⊤ NoRoom → ℕ
room_number (Ok _) = 0
room_number (Err TooLarge) = 9
room_number (Err TooLong) = 10

-- 01: 9, the answer has over 32 tags or 65,535 label bytes; then 10, it is longer than a lent output part.
-- The number for an answer of at most 512 series, 0 where it fits.
abbrev pub room_refusal : ℕ → ℕ → Tally → ℕ → ℕ → ℕ
room_refusal series points t labels readings =
    cond (t.too_many_tags || ltb max_label_bytes t.bytes) 9 (cond (ltb labels t.bytes || ltb readings (series * points)) 10 0)
