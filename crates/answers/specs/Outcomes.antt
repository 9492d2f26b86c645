-- The code's outcomes in the numbers of 01 and 02, and what a call leaves in the output parts lent to it. Assumes nothing.
use Rattle.std.specs.Prelude.{ℕ, ◌≡◌, List, ◌++◌, length, drop, Result, Ok, Err}
use Rattle.semantics.specs.Call as Call
use Rattle.semantics.specs.Call.{refused, answered}
use Rattle.side_parts.specs.declared.Shape.{Shape}
use Rattle.side_parts.specs.Lent.{in_code}
use Rattle.query.specs.declared.QueryError.{QueryError}
use Rattle.query.specs.declared.QueryError.TheVariants as Q
use Rattle.query.specs.declared.aggregations.AggregationError.{AggregationError}
use Rattle.query.specs.declared.aggregations.AggregationError.TheVariants as A
use Rattle.answers.specs.declared.Answer.{Answer}
use Rattle.answers.specs.declared.Numbers.{Numbers}
use Rattle.answers.specs.declared.NoRoom.{NoRoom}
use Rattle.answers.specs.declared.NoRoom.TheVariants as Room
use Rattle.answers.specs.declared.Twice.{Twice}
use Rattle.answers.specs.declared.Twice.TheVariants.{Left, Right}
use Rattle.answers.specs.declared.Refusal.{Refusal}
use Rattle.answers.specs.declared.Refusal.TheVariants.{BadOperator, Malformed, Cut, BadKey, Readings, Unequal, LeftTwice, RightTwice}
use Rattle.answers.specs.declared.Refusal.TheVariants.{TooLarge, TooLong, BadGrid, GridsDiffer, BadAllowance, BadAggregate}

-- an answer's series, shape and label bytes; or a refusal's number and fields
abbrev pub answer : ℕ → Shape → ℕ → Result Answer Numbers
answer series shape bytes = Ok (record { series = series; shape = shape; bytes = bytes })

abbrev pub numbers : ℕ → ℕ → ℕ → Numbers
numbers number first second = record { number = number; first = first; second = second }

abbrev pub refusal : ℕ → ℕ → ℕ → Result Answer Numbers
refusal number first second = Err (numbers number first second)

-- 01: A refusal has its number and two fields, 0 if not named.
abbrev pub numbers_of : Refusal → Numbers
numbers_of BadOperator = numbers 1 0 0
numbers_of Malformed = numbers 2 0 0
numbers_of (Cut side place) = numbers 3 side place
numbers_of (BadKey side place) = numbers 4 side place
numbers_of (Readings side) = numbers 5 side 0
numbers_of Unequal = numbers 6 0 0
numbers_of (LeftTwice kept failed) = numbers 7 kept failed
numbers_of (RightTwice kept failed) = numbers 8 kept failed
numbers_of TooLarge = numbers 9 0 0
numbers_of TooLong = numbers 10 0 0
numbers_of (BadGrid side) = numbers 11 side 0
numbers_of GridsDiffer = numbers 12 0 0
numbers_of BadAllowance = numbers 13 0 0
numbers_of BadAggregate = numbers 14 0 0

abbrev pub told : Result Answer Refusal → Result Answer Numbers
told (Ok a) = Ok a
told (Err r) = Err (numbers_of r)

-- a query's error, a request's, a plan's first clash, and a want of room, as refusals
abbrev pub refused_query : QueryError → Refusal
refused_query Q.BadOperator = BadOperator
refused_query Q.Malformed = Malformed
refused_query Q.BadAllowance = BadAllowance

abbrev pub refused_request : AggregationError → Refusal
refused_request A.BadAggregate = BadAggregate
refused_request A.Malformed = Malformed

abbrev pub refused_twice : Twice → Refusal
refused_twice (Left clash) = LeftTwice clash.kept clash.failed
refused_twice (Right clash) = RightTwice clash.kept clash.failed

abbrev pub refused_room : NoRoom → Refusal
refused_room Room.TooLarge = TooLarge
refused_room Room.TooLong = TooLong

abbrev pub wanted : Call.Outcome → Result Answer Numbers
wanted (refused n a b) = refusal n a b
wanted (answered n shape x y) = answer n (in_code shape) (length x)

-- 01: An answer changes only its own length at the start of each output part; what lies behind it stays.
abbrev pub starting_with : List ℕ → List ℕ → List ℕ
starting_with x d = x ++ drop (length x) d

-- 01: All refusals write no output.
abbrev pub labels_after : Call.Outcome → List ℕ → List ℕ
labels_after (refused n a b) d = d
labels_after (answered n shape x y) d = starting_with x d

abbrev pub readings_after : Call.Outcome → List ℕ → List ℕ
readings_after (refused n a b) d = d
readings_after (answered n shape x y) d = starting_with y d

-- a call that is to come to `want` answers r, and the output parts labels₀ and out₀ hold labels and out afterwards
pub record Ran (want : Call.Outcome) (labels₀ out₀ labels out : List ℕ) (r : Result Answer Refusal) : Type 0 where
  pub outcome : told r ≡ wanted want
  pub label_part : labels ≡ labels_after want labels₀
  pub reading_part : out ≡ readings_after want out₀
