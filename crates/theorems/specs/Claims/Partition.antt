-- Demand 3: what the calls of two piles say of the whole call, for every query, on bytes. Assumes nothing.
use Rattle.std.specs.Prelude.{ℕ, ◌+◌, ◌≡◌, Bool, true, false, not, ◌||◌, List, eqb, length}
use Rattle.std.proofs.Math.Option.{Option, none, some}
use Rattle.model.specs.Labels.{Bytes}
use Rattle.model.specs.Query.{Query, left, right}
use Rattle.model.specs.Vector.{Series, Shape, label_part, label_bytes, readings_of, Readings}
use Rattle.semantics.specs.Places.{Rank, rank_before}
use Rattle.semantics.specs.Events.{Ranked, Duplicate, Verdict, answer, duplicate}
use Rattle.semantics.specs.Call.{Outcome, refused, answered, verdict, told, concluded, call}
use Rattle.theorems.specs.Claims.Outcomes.{Taken, written, series_in}
use Rattle.theorems.specs.Claims.Dealing.{Rising, Renumber, moved_verdict, Deal, second_pile, pile, whole_places, Dealt, weave, earlier_of}

-- 01: Each pile's call has the whole call's query, p and lengths of output parts. 02: The pile rule supposes one grid for
-- all. A call on sides as they are encoded.
abbrev pub call_on : List ℕ → Shape → List Series → List Series → ℕ → ℕ → Outcome
call_on s shape ls rs label_room room = call s (label_part shape ls) (readings_of ls) (label_part shape rs) (readings_of rs) label_room room

abbrev pub pile_call : List ℕ → Shape → Deal → List Series → List Series → ℕ → ℕ → Outcome
pile_call s shape deal ls rs label_room room = call_on s shape (pile deal left ls) (pile deal right rs) label_room room

abbrev pub is_refused : Outcome → Bool
is_refused (refused n i j) = true
is_refused (answered n p x y) = false

-- refused for something other than a duplicate
abbrev pub refused_otherwise : Outcome → Bool
refused_otherwise (refused n i j) = not (eqb n 7 || eqb n 8)
refused_otherwise (answered n p x y) = false

-- the first of two verdicts' duplicates
abbrev pub first_duplicate : Verdict → Verdict → Option (Ranked Rank Duplicate)
first_duplicate (answer l) (answer m) = none
first_duplicate (answer l) (duplicate y) = some y
first_duplicate (duplicate x) (answer m) = some x
first_duplicate (duplicate x) (duplicate y) = some (earlier_of x y)

-- The whole call is refused with the first of the piles' duplicates. The verdicts are the piles', in whole places.
pub record DuplicateOf (v w : Verdict) (whole : Outcome) : Type 0 where
  pub which : Ranked Rank Duplicate
  pub first : first_duplicate v w ≡ some which
  pub is : whole ≡ told which

-- The whole answer is the piles' answers merged in document 01's order, bit for bit, every label record and every row; n and
-- label length are the sums.
-- The verdicts are the piles', in whole places.
pub record MergedAnswer (v w : Verdict) (shape : Shape) (whole first second : Outcome) : Type 0 where
  pub l : List (Ranked Rank Series)
  pub m : List (Ranked Rank Series)
  pub firsts : v ≡ answer l
  pub seconds : w ≡ answer m
  pub first_is : first ≡ written shape (series_in l)
  pub second_is : second ≡ written shape (series_in m)
  pub whole_is : whole ≡ written shape (series_in (weave rank_before l m))
  pub order : Rising rank_before (weave rank_before l m)
  pub count : length (series_in (weave rank_before l m)) ≡ length (series_in l) + length (series_in m)
  pub bytes : length (label_bytes (series_in (weave rank_before l m))) ≡ length (label_bytes (series_in l)) + length (label_bytes (series_in m))

-- what the piles' calls, which come to the verdicts v and w, say of the whole one
pub record Splits (label_room room : ℕ) (shape : Shape) (ρ₁ ρ₂ : Renumber) (v w : Verdict) (whole first second : Outcome) : Type 0 where
  pub first_call : first ≡ concluded label_room room shape v
  pub second_call : second ≡ concluded label_room room shape w
  -- it is refused exactly when a pile's call is
  pub together : is_refused whole ≡ (is_refused first || is_refused second)
  -- and then with the first of the piles' duplicates, its series named by their places before the dealing
  pub duplicates : is_refused whole ≡ true → DuplicateOf (moved_verdict ρ₁ v) (moved_verdict ρ₂ w) whole
  pub answers : is_refused whole ≡ false → MergedAnswer (moved_verdict ρ₁ v) (moved_verdict ρ₂ w) shape whole first second

-- demand 3 whole
abbrev pub Partition : Type 0
Partition =
    (s ll lr rl rr : List ℕ) → Bytes ll → Readings lr → Bytes rl → Readings rr
    → (q : Query) (shape : Shape) (ls rs : List Series) → Taken s ll lr rl rr q shape ls rs
    → (deal : Deal) → Dealt q deal ls rs
    → (label_room room : ℕ) → refused_otherwise (call s ll lr rl rr label_room room) ≡ false
    → Splits label_room room shape (whole_places deal ls rs) (whole_places (second_pile deal) ls rs)
    (verdict q (pile deal left ls) (pile deal right rs)) (verdict q (pile (second_pile deal) left ls) (pile (second_pile deal) right rs))
    (call s ll lr rl rr label_room room) (pile_call s shape deal ls rs label_room room) (pile_call s shape (second_pile deal) ls rs label_room room)

-- the sides that a call is on
pub record Sides (s ll lr rl rr : List ℕ) : Type 0 where
  pub q : Query
  pub shape : Shape
  pub ls : List Series
  pub rs : List Series
  pub taken : Taken s ll lr rl rr q shape ls rs

-- a call that is not refused for something other than a duplicate has sides to deal
abbrev pub HasSides : Type 0
HasSides = (s ll lr rl rr : List ℕ) (label_room room : ℕ) → refused_otherwise (call s ll lr rl rr label_room room) ≡ false → Sides s ll lr rl rr
