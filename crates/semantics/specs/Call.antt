-- The meaning of a call: from bytes and readings to an answer or a refusal. Assumes nothing.
use Rattle.std.specs.Prelude.{ℕ, ◌*◌, Bool, false, ◌&&◌, ◌||◌, cond, List, [], ◌∷◌, map, ltb, eqb, length}
use Rattle.operator.specs.Kinds.{kind_of}
use Rattle.model.specs.Limits.{max_series, max_tags, max_label_bytes}
use Rattle.model.specs.Query.{Query, same_key, Side, left, right, TakenQuery, query, bad_operator, malformed, bad_allowance, take_query}
use Rattle.model.specs.Vector.{Series, Shape, Vector, TakenVector, vector, faulty, take_vector, label_bytes, readings_of}
use Rattle.semantics.specs.Places.{Rank, placed}
use Rattle.semantics.specs.Events.{Ranked, Duplicate, Verdict, answer, duplicate, run}
use Rattle.semantics.specs.Binop.{rule_of, look}

-- 01: A refusal has its number and two fields, 0 if not named.
pub data Outcome : Type 0 where
  refused : ℕ → ℕ → ℕ → Outcome  -- number, first field, second field
  answered : ℕ → Shape → List ℕ → List ℕ → Outcome  -- series, points and grid, label bytes, readings

-- the ranked answer series of a query over two sides, or its first duplicate
unfoldable pub verdict : Query → List Series → List Series → Verdict
verdict q ls rs = run (same_key q) (rule_of q (kind_of q.operator) (look (kind_of q.operator) ls rs)) (placed ls rs)

abbrev pub over_tags : List Series → Bool
over_tags [] = false
over_tags (b ∷ bs) = ltb max_tags (length b.labels.tags) || over_tags bs

-- 01: 9, the answer has over 512 series, 32 tags or 65,535 label bytes
abbrev pub over_limits : List Series → Bool
over_limits bs = ltb max_series (length bs) || (over_tags bs || ltb max_label_bytes (length (label_bytes bs)))

-- 01: 10, it is longer than a lent output part
abbrev pub over_room : ℕ → ℕ → Shape → List Series → Bool
over_room label_room room shape bs = ltb label_room (length (label_bytes bs)) || ltb room (length bs * shape.points)

-- 01: Then 9; then 10.
unfoldable pub fit : ℕ → ℕ → Shape → List Series → Outcome
fit label_room room shape bs =
    cond (over_limits bs)
    (refused 9 0 0)
    (cond (over_room label_room room shape bs) (refused 10 0 0) (answered (length bs) shape (label_bytes bs) (readings_of bs)))

-- 01: 7 left or 8 right duplicate
abbrev pub duplicate_number : Side → ℕ
duplicate_number left = 7
duplicate_number right = 8

abbrev pub told : Ranked Rank Duplicate → Outcome
told x = refused (duplicate_number x.what.kept.side) x.what.kept.number x.what.failed.number

abbrev pub concluded : ℕ → ℕ → Shape → Verdict → Outcome
concluded label_room room shape (answer l) = fit label_room room shape (map (λ e. e.what) l)
concluded label_room room shape (duplicate x) = told x

abbrev pub same_points : Shape → Shape → Bool
same_points s t = eqb s.points t.points

abbrev pub same_grid : Shape → Shape → Bool
same_grid s t = eqb s.start t.start && eqb s.step t.step

-- 01: 6, the sides' p differ, empty sides included; then 7 or 8
-- 02: 12, the sides' grids differ, empty sides included, after number 6. The answer carries the grid of its sides.
unfoldable pub running : ℕ → ℕ → Query → Vector → Vector → Outcome
running label_room room q l r =
    cond (same_points l.shape r.shape)
    (cond (same_grid l.shape r.shape) (concluded label_room room l.shape (verdict q l.series r.series)) (refused 12 0 0))
    (refused 6 0 0)

abbrev pub on_vector : TakenVector → (Vector → Outcome) → Outcome
on_vector (vector v) f = f v
on_vector (faulty n side place) f = refused n side place

abbrev pub on_query : TakenQuery → (Query → Outcome) → Outcome
on_query (query q) f = f q
on_query bad_operator f = refused 1 0 0
on_query malformed f = refused 2 0 0
on_query bad_allowance f = refused 13 0 0

-- 01: Taking a query; taking a vector, left before right; running.
-- Query, left label part, left readings, right label part, right readings, lengths of the lent label and readings parts.
unfoldable pub call : List ℕ → List ℕ → List ℕ → List ℕ → List ℕ → ℕ → ℕ → Outcome
call s left_labels left_readings right_labels right_readings label_room room =
    on_query (take_query s) (λ q. on_vector (take_vector 0 left_labels left_readings) (λ l. on_vector (take_vector 1 right_labels right_readings) (λ r.
    running label_room room q l r)))

-- a theorem that computes a call has the line
-- unfolding Rattle.semantics.specs.Computing.computing
