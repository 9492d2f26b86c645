-- What each stage of a call comes to, by what taking found. Assumes nothing.
use Prim.Native.Nat.{ℕ, ◌+◌, ◌-◌, ◌≤◌}
use Rattle.std.specs.Prelude.{Result, Ok, Err}
use mathlib.Core.Path.{◌≡◌, refl, sym, ◌∙◌}
use mathlib.Core.Bool.{Bool, true, false, not}
use mathlib.Core.List.{List, ◌++◌}
use native.Mathlib.Omega.{arith}
use lib.ListN.{length, take, drop, length-append}
use lib.Seq.{length-take-le, take_at}
use lib.Dec.{eqb}
use borrow.Author.Tests.{eq-eqb, ne_eqb, not-true, not-false}
use Rattle.model.specs.Limits.{sizes_length}
use Rattle.model.specs.Query as Model
use Rattle.model.specs.Vector.{Shape, Vector}
use Rattle.semantics.specs.Call as Call
use Rattle.semantics.specs.Call.{running, same_grid, call}
use Rattle.query.specs.declared.Query.{Query}
use Rattle.query.specs.declared.QueryError.{QueryError}
use Rattle.query.specs.declared.QueryError.TheVariants as E
use Rattle.query.specs.Queries.{query_of, request_number, matching_part, TakenAs}
use Rattle.query.proofs.Takes.{query_taken, operator_refused, query_malformed, allowance_refused}
use Rattle.answers.specs.declared.Answer.{Answer}
use Rattle.answers.specs.declared.Refusal.{Refusal}
use Rattle.answers.specs.declared.Refusal.TheVariants as Out
use Rattle.answers.specs.Outcomes.{Ran, refused_query}
use Rattle.operator.specs.Kinds.{kind_of}
use Rattle.labels.specs.Names.{names_of}
use Rattle.labels.specs.Matchings.{matching_of}
use Rattle.side_parts.specs.Lent.{Sides, BothHeld}
use Rattle.keyed_sides.specs.Keyed.{drops_missing, KeysKept, SidesKeyed, with_keys, kept_keyed_by}
use Rattle.keyed_sides.specs.TakenSides.{TakenSide, lent_vector, Took}
use Rattle.vector_faults.proofs.Faults.{ran_taken_lem}
use Rattle.binop_vector_vector.specs.dispatch.Runs.{Asked, ran_taken}
use Rattle.binop_vector_vector.specs.Stages.{asked_carried, left_stage, right_stage, call_asked, call_operator, call_malformed, call_allowance}

-- a query that is refused, or taken

module _ (s : List ℕ) (labels readings labels' readings' labels₀ out₀ : List ℕ) where
  pub ran_refused : (e : QueryError) → TakenAs s (Model.take_query s) (Err e)
      → Ran (call s labels readings labels' readings' (length labels₀) (length out₀)) labels₀ out₀ labels₀ out₀ (Err (refused_query e))
  ran_refused E.BadOperator h = rw
      (call_operator s labels readings labels' readings' (length labels₀) (length out₀) (operator_refused s (Model.take_query s) h))
      (record { outcome = refl; label_part = refl; reading_part = refl })
  ran_refused E.Malformed h = rw
      (call_malformed s labels readings labels' readings' (length labels₀) (length out₀) (query_malformed s (Model.take_query s) h))
      (record { outcome = refl; label_part = refl; reading_part = refl })
  ran_refused E.BadAllowance h = rw
      (call_allowance s labels readings labels' readings' (length labels₀) (length out₀) (allowance_refused s (Model.take_query s) h))
      (record { outcome = refl; label_part = refl; reading_part = refl })

module _ (s : List ℕ) (q : Query) (h : TakenAs s (Model.take_query s) (Ok q)) where
  asked_as : Model.take_query s ≡ Model.query (query_of s q)
  asked_as = query_taken s (Model.take_query s) q h

  pub asked : Asked s q
  asked = record { within = h.within q refl; carried = asked_carried s q asked_as }

  pub ran_asked : (labels readings labels' readings' labels₀ out₀ d o : List ℕ) (x : Result Answer Refusal)
      → Ran (left_stage (query_of s q) labels readings labels' readings' (length labels₀) (length out₀)) labels₀ out₀ d o x
      → Ran (call s labels readings labels' readings' (length labels₀) (length out₀)) labels₀ out₀ d o x
  ran_asked labels readings labels' readings' labels₀ out₀ d o x k =
      rw (call_asked s labels readings labels' readings' (length labels₀) (length out₀) (query_of s q) asked_as) k

-- 01: 6, the sides' p differ; 02: 12, the sides' grids differ, .. after number 6
module _ (q : Model.Query) (shape : Shape) (array at rows : List ℕ) (other : Shape) (array' at' rows' labels₀ out₀ : List ℕ) where
  abbrev runs : Call.Outcome
  runs = running (length labels₀) (length out₀) q (lent_vector shape array at rows) (lent_vector other array' at' rows')

  ran_unequal : (other.points ≡ shape.points → ⊥) → Ran runs labels₀ out₀ labels₀ out₀ (Err Out.Unequal)
  unfolding running
  ran_unequal h = rw (ne_eqb shape.points other.points (λ e. h (sym e))) (record { outcome = refl; label_part = refl; reading_part = refl })

  ran_differing : other.points ≡ shape.points → same_grid shape other ≡ false → Ran runs labels₀ out₀ labels₀ out₀ (Err Out.GridsDiffer)
  unfolding running
  ran_differing e g =
      rw (eq-eqb shape.points other.points (sym e), g) (record { outcome = refl; label_part = refl; reading_part = refl })

  ran_equal : other.points ≡ shape.points → same_grid shape other ≡ true → (d o : List ℕ) (y : Result Answer Refusal)
      → Ran (ran_taken q shape array at rows array' at' rows' (length labels₀) (length out₀)) labels₀ out₀ d o y → Ran runs labels₀ out₀ d o y
  unfolding running
  ran_equal e g d o y k = rw (e, eq-eqb shape.points shape.points refl, g) k

-- both sides taken
module _ (s x after : List ℕ) (n : ℕ) (shape : Shape) (l : Took 0 s x after n shape)
    (s' x' after' : List ℕ) (n' : ℕ) (other : Shape) (r : Took 1 s' x' after' n' other)
    (q : Model.Query) (labels₀ out₀ : List ℕ) where
  abbrev lefts : Vector
  lefts = lent_vector shape (take (length s - sizes_length) (drop sizes_length s)) (take (n + 1) after) x

  abbrev rights : Vector
  rights = lent_vector other (take (length s' - sizes_length) (drop sizes_length s')) (take (n' + 1) after') x'

  ran_both : (d o : List ℕ) (y : Result Answer Refusal) → Ran (running (length labels₀) (length out₀) q lefts rights) labels₀ out₀ d o y
      → Ran (left_stage q s x s' x' (length labels₀) (length out₀)) labels₀ out₀ d o y
  ran_both d o y k =
      ran_taken_lem 0 s x (λ v. right_stage q v s' x' (length labels₀) (length out₀)) labels₀ out₀ after n shape l d o y
      (ran_taken_lem 1 s' x' (λ v. running (length labels₀) (length out₀) q lefts v) labels₀ out₀ after' n' other r d o y k)

  pub ran_apart : (other.points ≡ shape.points → ⊥)
      → Ran (left_stage q s x s' x' (length labels₀) (length out₀)) labels₀ out₀ labels₀ out₀ (Err Out.Unequal)
  ran_apart h =
      ran_both labels₀ out₀ (Err Out.Unequal)
      (ran_unequal q shape (take (length s - sizes_length) (drop sizes_length s)) (take (n + 1) after) x other
      (take (length s' - sizes_length) (drop sizes_length s')) (take (n' + 1) after') x' labels₀ out₀ h)

  module _ (h : other.points ≡ shape.points) (b : Bool) (tested : b ≡ not (same_grid shape other)) where
    pub ran_on_two_grids : b ≡ true
        → Ran (left_stage q s x s' x' (length labels₀) (length out₀)) labels₀ out₀ labels₀ out₀ (Err Out.GridsDiffer)
    ran_on_two_grids e =
        ran_both labels₀ out₀ (Err Out.GridsDiffer)
        (ran_differing q shape (take (length s - sizes_length) (drop sizes_length s)) (take (n + 1) after) x other
        (take (length s' - sizes_length) (drop sizes_length s')) (take (n' + 1) after') x' labels₀ out₀ h
        (not-true (same_grid shape other) (sym tested ∙ e)))

    pub ran_alike : b ≡ false → (d o : List ℕ) (y : Result Answer Refusal)
        → Ran (ran_taken q shape (take (length s - sizes_length) (drop sizes_length s)) (take (n + 1) after) x
        (take (length s' - sizes_length) (drop sizes_length s')) (take (n' + 1) after') x'
        (length labels₀) (length out₀)) labels₀ out₀ d o y
        → Ran (left_stage q s x s' x' (length labels₀) (length out₀)) labels₀ out₀ d o y
    ran_alike e d o y k =
        ran_both d o y
        (ran_equal q shape (take (length s - sizes_length) (drop sizes_length s)) (take (n + 1) after) x other
        (take (length s' - sizes_length) (drop sizes_length s')) (take (n' + 1) after') x' labels₀ out₀ h
        (not-false (same_grid shape other) (sym tested ∙ e)) d o y k)

-- on the points of the other side
pub held_alike : (p points : ℕ) (array at rows : List ℕ) → points ≡ p → TakenSide points array at rows → TakenSide p array at rows
held_alike p points array at rows e t = rw e at t

-- `run`: the numbers stand at the start of the key arrays

-- room for a key number for each series
front_count : (p : ℕ) (array at rows work : List ℕ) → TakenSide p array at rows → length work ≡ 512
    → length at ≡ length (take (length at - 1) work) + 1
front_count p array at rows work t e =
    omega (arith, t.some, t.few, length-take-le (length at - 1) work (omega (arith, t.few, e)))

pub side_few : (p : ℕ) (array at rows : List ℕ) → TakenSide p array at rows → length at - 1 ≤ 512
side_few p array at rows t = omega (arith, t.few)

-- both sides, with any numbers for keys
pub run_held : (shape : Shape) (array at rows array' at' rows' work work' : List ℕ) → TakenSide shape.points array at rows
    → TakenSide shape.points array' at' rows'
    → length work ≡ 512 → length work' ≡ 512
    → BothHeld (record {
      shape = shape;
      left = record { array = array; at = at; keys = take (length at - 1) work; rows = rows };
      right = record { array = array'; at = at'; keys = take (length at' - 1) work'; rows = rows' };
    })
run_held shape array at rows array' at' rows' work work' l r e e' = record {
  left = l.held (take (length at - 1) work) (front_count shape.points array at rows work l e);
  right = r.held (take (length at' - 1) work') (front_count shape.points array' at' rows' work' r e');
}

module _ (s : List ℕ) (q : Query) (x : Sides) (b : BothHeld x) (d d' : List ℕ)
    (k : KeysKept (matching_of q.matching) (names_of (matching_part s q.join_at)) (drops_missing (kind_of q.operator)) x d d') where
  keyed : SidesKeyed (query_of s q) (drops_missing (kind_of q.operator)) (with_keys x d d')
  keyed = kept_keyed_by (query_of s q) (drops_missing (kind_of q.operator)) x b d d' k

  left_count : length d ≡ length x.left.at - 1
  left_count = omega (arith, keyed.both.left.count)

  right_count : length d' ≡ length x.right.at - 1
  right_count = omega (arith, keyed.both.right.count)

  module _ (rest : List ℕ) where
    pub left_within : length x.left.at - 1 ≤ length (d ++ rest)
    left_within = omega (arith, left_count, length-append d rest)

    pub right_within : length x.right.at - 1 ≤ length (d' ++ rest)
    right_within = omega (arith, right_count, length-append d' rest)

    pub left_front : length x.left.at - 1 ≡ length (take (length x.left.at - 1) (d ++ rest))
    left_front = rw (take_at d rest (length x.left.at - 1) left_count) (sym left_count)

    pub right_front : length x.right.at - 1 ≡ length (take (length x.right.at - 1) (d' ++ rest))
    right_front = rw (take_at d' rest (length x.right.at - 1) right_count) (sym right_count)

  pub sides_numbered : (rest rest' : List ℕ)
      → SidesKeyed (query_of s q) (drops_missing (kind_of q.operator))
      (with_keys x (take (length x.left.at - 1) (d ++ rest)) (take (length x.right.at - 1) (d' ++ rest')))
  sides_numbered rest rest' =
      rw (take_at d rest (length x.left.at - 1) left_count, take_at d' rest' (length x.right.at - 1) right_count) keyed
