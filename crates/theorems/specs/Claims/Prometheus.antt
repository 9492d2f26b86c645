-- Demand 2, by proof: `and` and `unless`, every match of a group join, and comparisons, as Prometheus has them. Assumes nothing.
use Rattle.std.specs.Prelude.{ℕ, ◌<◌, ◌≡◌, Bool, true, false, not, cond, length, get_or}
use Rattle.std.proofs.Math.Option.{Option, none, some}
use mathlib.Core.List.{List, [], ◌∷◌, Memᴰ}
use Rattle.operator.specs.declared.Operator.{Operator}
use Rattle.operator.specs.declared.Operator.TheVariants.{And, Unless}
use Rattle.operator.specs.Kinds.{Comparison, Kind, arithmetic, comparison, set_rule, fallback, not_carried, kind_of}
use Rattle.operator.specs.Operators.{is_logical_op, is_carried}
use Rattle.model.specs.Lists.{keep, is_empty, gather}
use Rattle.model.specs.Reading.{missing, no_reading, holds, one_or_zero, scalar_op}
use Rattle.model.specs.Labels.{Labels}
use Rattle.model.specs.Query.{Query, same_key, Side, left, right, group}
use Rattle.model.specs.Vector.{Series, Shape}
use Rattle.semantics.specs.Places.{Place, Placed, placed, same_place, Rank}
use Rattle.semantics.specs.Events.{Ranked, answer, of_key}
use Rattle.semantics.specs.Rules.{of_side, other, has_readings}
use Rattle.semantics.specs.Binop.{joined_labels}
use Rattle.semantics.specs.Call.{Outcome, call, fit, verdict}
use Rattle.theorems.specs.Claims.Outcomes.{Taken, written, series_in}
use Rattle.theorems.specs.Claims.Partition.{is_refused}

-- instant vectors

-- an element: a series' labels and its reading at the point
pub record Element : Type 0 where
  pub labels : Labels
  pub reading : ℕ

abbrev pub reading_at : ℕ → Series → ℕ
reading_at i b = get_or b.row i no_reading

abbrev pub element_of : ℕ → Series → List Element
element_of i b = cond (missing (reading_at i b)) [] (record { labels = b.labels; reading = reading_at i b } ∷ [])

-- the instant vector of a side at a point: the series with a reading there
abbrev pub instant : ℕ → List Series → List Element
instant i ss = gather (element_of i) ss

-- an element has a match in an instant vector, under document 01's key
abbrev pub has_match : Query → List Element → Element → Bool
has_match q rs e = not (is_empty (keep (λ f. same_key q e.labels f.labels) rs))

-- Prometheus: `vector1 and vector2` results in a vector consisting of the elements of vector1 for which there are elements in vector2 with
-- exactly matching label sets.
abbrev pub and_of : Query → List Element → List Element → List Element
and_of q ls rs = keep (has_match q rs) ls

-- Prometheus: `vector1 unless vector2` results in a vector consisting of the elements of vector1 for which there are no elements in vector2
-- with exactly matching label sets.
abbrev pub unless_of : Query → List Element → List Element → List Element
unless_of q ls rs = keep (λ e. not (has_match q rs e)) ls

-- The call answers these series, unless they pass a limit or a lent part; and at each point their instant vector is the operator's on the sides', in order.
pub record Reads (operator : List Element → List Element → List Element) (shape : Shape) (ls rs : List Series) (label_room room : ℕ)
    (outcome : Outcome) : Type 0 where
  pub series : List Series
  pub answers : outcome ≡ fit label_room room shape series
  pub elements : (i : ℕ) → instant i series ≡ operator (instant i ls) (instant i rs)

abbrev pub ReadsAs : Operator → (Query → List Element → List Element → List Element) → Type 0
ReadsAs o operator =
    (s ll lr rl rr : List ℕ) (q : Query) (shape : Shape) (ls rs : List Series) → Taken s ll lr rl rr q shape ls rs → q.operator ≡ o
    → (label_room room : ℕ) → Reads (operator q) shape ls rs label_room room (call s ll lr rl rr label_room room)

abbrev pub AndReads : Type 0
AndReads = ReadsAs And and_of

abbrev pub UnlessReads : Type 0
UnlessReads = ReadsAs Unless unless_of

-- joins

-- membership in a list, the library's
abbrev pub In : {A : Type 0} → A → List A → Type 0
In x xs = Memᴰ x xs

-- after document 01's first drop of empty series, which arithmetic makes
abbrev pub after_drop : Kind → List Placed → List Placed
after_drop (arithmetic a) xs = keep (λ x. has_readings x.series) xs
after_drop (comparison c) xs = xs
after_drop (set_rule k) xs = xs
after_drop (fallback k) xs = xs
after_drop not_carried xs = xs

abbrev pub joined_series : Query → List Series → List Series → List Placed
joined_series q ls rs = after_drop (kind_of q.operator) (placed ls rs)

-- the one-side series of a many-side series' key
abbrev pub matches_of : Query → Side → Placed → List Placed → List Placed
matches_of q many s xs = of_side (other many) (of_key (same_key q) s.series.labels xs)

-- a group join: arithmetic or a comparison
pub record IsJoin (q : Query) (many : Side) : Type 0 where
  pub grouped : q.join ≡ group many
  pub scalar : is_logical_op q.operator ≡ false
  pub carried : is_carried q.operator ≡ true

-- s is a many-side series of the call, not dropped
pub record ManySide (q : Query) (many : Side) (ls rs : List Series) (s : Placed) : Type 0 where
  pub stands : In s (joined_series q ls rs)
  pub side : s.place.side ≡ many

-- the answer has a series that comes from s with the tags that o gives it, and it ranks by a match of s
pub record Served (q : Query) (many : Side) (xs : List Placed) (s o : Placed) (l : List (Ranked Rank Series)) : Type 0 where
  pub earliest : Placed
  pub given : Series
  pub match : In earliest (matches_of q many s xs)
  pub answers : In (record { rank = record { producer = s.place; earliest = earliest.place }; what = given }) l
  pub labels : given.labels ≡ joined_labels q s.series.labels earliest.series.labels
  pub tags : given.labels.tags ≡ (joined_labels q s.series.labels o.series.labels).tags

-- every many-side series whose key stands on the one side has an answer series for each distinct edited tag set
abbrev pub EveryMatchServed : Type 0
EveryMatchServed =
    (q : Query) (many : Side) → IsJoin q many → (ls rs : List Series) (l : List (Ranked Rank Series)) → verdict q ls rs ≡ answer l
    → (s : Placed) → ManySide q many ls rs s → (o : Placed) → In o (matches_of q many s (joined_series q ls rs)) → Served q many (joined_series q ls rs) s o l

-- the left and the right reading at a point, of a many-side and a one-side series
abbrev pub on_point : Side → (ℕ → ℕ → ℕ) → ℕ → ℕ → ℕ
on_point left op m o = op m o
on_point right op m o = op o m

-- where the key has a single one-side series the answer series has its edited labels, and the row is the operator on the two rows, point by point
pub record ServedAlone (q : Query) (many : Side) (s o : Placed) (l : List (Ranked Rank Series)) : Type 0 where
  pub given : Series
  pub answers : In (record { rank = record { producer = s.place; earliest = o.place }; what = given }) l
  pub labels : given.labels ≡ joined_labels q s.series.labels o.series.labels
  pub readings : (i : ℕ) → i < length s.series.row → i < length o.series.row
      → reading_at i given ≡ on_point many (scalar_op q.operator q.bool) (reading_at i s.series) (reading_at i o.series)

abbrev pub SingleMatchServed : Type 0
SingleMatchServed =
    (q : Query) (many : Side) → IsJoin q many → (ls rs : List Series) (l : List (Ranked Rank Series)) → verdict q ls rs ≡ answer l
    → (s : Placed) → ManySide q many ls rs s → (o : Placed) → matches_of q many s (joined_series q ls rs) ≡ o ∷ [] → ServedAlone q many s o l

-- what an answer has from a series
abbrev pub given_by : Place → List (Ranked Rank Series) → List (Ranked Rank Series)
given_by p l = keep (λ e. same_place e.rank.producer p) l

-- two calls with one one-side: a many-side series of both gives both answers the same, whatever the other many-side series are
abbrev pub ManySideApart : Type 0
ManySideApart =
    (q : Query) (many : Side) → IsJoin q many
    → (ls rs ls' rs' : List Series) → of_side (other many) (placed ls rs) ≡ of_side (other many) (placed ls' rs')
    → (l l' : List (Ranked Rank Series)) → verdict q ls rs ≡ answer l → verdict q ls' rs' ≡ answer l'
    → (s : Placed) → s.place.side ≡ many → In s (placed ls rs) → In s (placed ls' rs') → given_by s.place l ≡ given_by s.place l'

-- comparisons

-- what an instant vector has of a reading: a sample, or nothing
abbrev pub sample_of : ℕ → Option ℕ
sample_of x = cond (missing x) none (some x)

-- Prometheus: Vector elements for which the expression is not true or which do not find a match on the other side of the expression get
-- dropped from the result. (With `bool`, its page says, what would have been dropped has the value 0: this is so of matched elements alone,
-- as runs against it show. 02: no element on the right, no result.)
abbrev pub comparison_of : Bool → Comparison → Option ℕ → Option ℕ → Option ℕ
comparison_of bool c none b = none
comparison_of bool c (some a) none = none
comparison_of true c (some a) (some b) = some (one_or_zero (holds c a b))
comparison_of false c (some a) (some b) = cond (holds c a b) (some a) none

-- every comparison, plain and bool, of any two readings
abbrev pub ComparisonReads : Type 0
ComparisonReads =
    (o : Operator) (c : Comparison) → kind_of o ≡ comparison c
    → (bool : Bool) (a b : ℕ) → sample_of (scalar_op o bool a b) ≡ comparison_of bool c (sample_of a) (sample_of b)

-- What a call that answers writes are the series of its verdict, so that these claims are about calls.
pub record Answers (q : Query) (ls rs : List Series) (shape : Shape) (outcome : Outcome) : Type 0 where
  pub l : List (Ranked Rank Series)
  pub verdict_is : verdict q ls rs ≡ answer l
  pub is : outcome ≡ written shape (series_in l)

abbrev pub AnswersVerdict : Type 0
AnswersVerdict =
    (s ll lr rl rr : List ℕ) (q : Query) (shape : Shape) (ls rs : List Series) → Taken s ll lr rl rr q shape ls rs
    → (label_room room : ℕ) → is_refused (call s ll lr rl rr label_room room) ≡ false → Answers q ls rs shape (call s ll lr rl rr label_room room)
