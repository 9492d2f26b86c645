-- The records of codes: each has its record, and room where all of them have. Assumes nothing.
use Prim.Native.Nat.{ℕ, zero, suc, ◌≤◌, ◌<◌}
use mathlib.Core.Path.{◌≡◌}
use mathlib.Core.Bool.{false}
use mathlib.Core.List.{List, [], ◌∷◌}
use native.Mathlib.Omega.{arith}
use lib.Dec.{ltb}
use lib.ListN.{length, get_or}
use borrow.Author.Tests.{ltb-false}
use Rattle.model.specs.Limits.{max_tags}
use Rattle.model.specs.Labels.{Labels}
use Rattle.model.proofs.Laws.Booleans.{neither_of}
use Rattle.model.specs.Record.{encode}
use Rattle.side_parts.specs.Lent.{Sides}
use Rattle.answers.specs.Tallies.{some_wide}
use Rattle.answers.proofs.Writing.{Writing, writing_room}
use Rattle.join_records.specs.Records.{LabelRoom}
use Rattle.answering.specs.declared.families.Rule.{Rule}
use Rattle.answering.specs.families.Codes.{RecordIn, RecordsIn}

-- where no record has too many tags, each has few enough
each_narrow : (f : ℕ → Labels) (codes : List ℕ) → some_wide f codes ≡ false → (k : ℕ) → k < length codes → length (f (get_or codes k 0)).tags ≤ max_tags
unfolding some_wide
each_narrow f [] w k h = absurd (omega arith)
each_narrow f (x ∷ codes) w zero h = ltb-false max_tags (length (f x).tags) (neither_of (ltb max_tags (length (f x).tags)) (some_wide f codes) w).0
each_narrow f (x ∷ codes) w (suc k) h = each_narrow f codes (neither_of (ltb max_tags (length (f x).tags)) (some_wide f codes) w).1 k (omega arith)

-- such records, while they are written
pub label_room_lem : (f : ℕ → Labels) (codes before out : List ℕ) (o k : ℕ) → some_wide f codes ≡ false
    → Writing (λ x. encode (f x)) codes before k out o → k < length codes → LabelRoom (f (get_or codes k 0)) o (length out)
label_room_lem f codes before out o k narrow inv h = record {
  few = each_narrow f codes narrow k h;
  room = writing_room (λ x. encode (f x)) codes before k out o inv h;
}
