-- What running a query over two sides with their key numbers comes to. Assumes nothing.
use Rattle.std.specs.Prelude.{ℕ, ◌≡◌, true, List}
use Rattle.operator.specs.Operators.{is_carried}
use Rattle.model.specs.Query as Model
use Rattle.model.specs.Vector.{Shape}
use Rattle.semantics.specs.Call.{Outcome, concluded, verdict}
use Rattle.side_parts.specs.Sides.{lent_series}
use Rattle.side_parts.specs.Lent.{Sides, Slices, lent, side_series}
use Rattle.query.specs.declared.Query.{Query}
use Rattle.query.specs.Queries.{ListsWithin}

-- a query that is taken from the bytes s: its lists stand in them, and its operator is carried
pub record Asked (s : List ℕ) (q : Query) : Type 0 where
  pub within : ListsWithin s q.join_at
  pub carried : is_carried q.operator ≡ true

-- both sides, with their key numbers apart
abbrev pub sides_with : Shape → Slices → Slices → List ℕ → List ℕ → Slices → Sides
sides_with shape arrays at keys keys' rows = record {
  shape = shape;
  left = record { array = lent arrays 0; at = lent at 0; keys = keys; rows = lent rows 0 };
  right = record { array = lent arrays 1; at = lent at 1; keys = keys'; rows = lent rows 1 };
}

-- what running comes to over two sides
abbrev pub ran_sides : Model.Query → Sides → ℕ → ℕ → Outcome
ran_sides q s label_room room =
    concluded label_room room s.shape (verdict q (side_series s.shape.points s.left) (side_series s.shape.points s.right))

-- and over two that are taken, before their keys are numbered
abbrev pub ran_taken : Model.Query → Shape → List ℕ → List ℕ → List ℕ → List ℕ → List ℕ → List ℕ → ℕ → ℕ → Outcome
ran_taken q shape array at rows array' at' rows' label_room room =
    concluded label_room room shape
    (verdict q (lent_series array at shape.points rows) (lent_series array' at' shape.points rows'))
