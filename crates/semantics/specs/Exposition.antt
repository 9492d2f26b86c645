-- The meaning of an export: from bytes and readings to a text or a refusal. Assumes nothing.
use Rattle.std.specs.Prelude.{ℕ, cond, List, ltb, length}
use Rattle.model.specs.Vector.{Vector, TakenVector, vector, faulty, take_vector}
use Rattle.exposition.specs.Faults.{Fault, sound, fault, first_fault}
use Rattle.exposition.specs.Text.{series_text}

-- 01: A refusal has its number and two fields, 0 if not named.
pub data Exported : Type 0 where
  refused : ℕ → ℕ → ℕ → Exported  -- number, first field, second field
  written : List ℕ → Exported  -- the text

-- 02: Number 10 covers an output part too short.
abbrev pub fitted : ℕ → List ℕ → Exported
fitted room text = cond (ltb room (length text)) (refused 10 0 0) (written text)

-- 02: Both (15 and 16) come before number 10; the first series at fault is named: the side, 0, and its place.
abbrev pub judged : Fault → Exported → Exported
judged sound e = e
judged (fault number i) e = refused number 0 i

unfoldable pub export_vector : ℕ → Vector → Exported
export_vector room v = judged (first_fault 0 v.series) (fitted room (series_text v.shape v.series))

abbrev pub export_taken : ℕ → TakenVector → Exported
export_taken room (vector v) = export_vector room v
export_taken room (faulty number side i) = refused number side i

-- 02: Wherever one vector is taken, its faults are named with side 0.
-- Label part, readings, length of the lent output part.
unfoldable pub export : List ℕ → List ℕ → ℕ → Exported
export labels readings room = export_taken room (take_vector 0 labels readings)

-- a theorem that computes an export has the line
-- unfolding Rattle.semantics.specs.Computing.computing
