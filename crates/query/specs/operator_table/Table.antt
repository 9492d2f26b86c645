-- The operator table, and one computed proof that its rows agree with the operators' tests. Assumes nothing.
use Rattle.std.specs.Prelude.{ℕ, ◌≡◌, refl, Bool, true, false, List, [], ◌∷◌, map, Option, Some, None, slice_get}
use Rattle.operator.specs.declared.Operator.{Operator}
use Rattle.query.specs.declared.operator_table.OperatorRow.{OperatorRow}
use Rattle.operator.specs.Operators.{operators, is_comparison, is_logical_op, is_carried}

-- 01: spelling, comparison, logical, carried; a spelling by its bytes
pub record Row : Type 0 where
  pub spelling : List ℕ
  pub comparison : Bool
  pub logical : Bool
  pub carried : Bool

-- what a row of the code says
abbrev pub said : OperatorRow → Row
said r = record { spelling = r.spelling.now; comparison = r.comparison; logical = r.logical; carried = r.carried }

abbrev row : List ℕ → Bool → Bool → Bool → Row
row s c l k = record { spelling = s; comparison = c; logical = l; carried = k }

-- 01: A constant table has nineteen rows: spelling, comparison, logical, carried.
abbrev pub table : List Row
table =
    row (43 ∷ []) false false true ∷  -- +
    row (97 ∷ 110 ∷ 100 ∷ []) false true true ∷  -- and
    row (97 ∷ 116 ∷ 97 ∷ 110 ∷ 50 ∷ []) false false false ∷  -- atan2
    row (100 ∷ 101 ∷ 102 ∷ 97 ∷ 117 ∷ 108 ∷ 116 ∷ []) false true true ∷  -- default
    row (47 ∷ []) false false true ∷  -- /
    row (61 ∷ 61 ∷ []) true false true ∷  -- ==
    row (37 ∷ []) false false true ∷  -- %
    row (42 ∷ []) false false true ∷  -- *
    row (94 ∷ []) false false false ∷  -- ^
    row (45 ∷ []) false false true ∷  -- -
    row (62 ∷ []) true false true ∷  -- >
    row (62 ∷ 61 ∷ []) true false true ∷  -- >=
    row (105 ∷ 102 ∷ []) false true true ∷  -- if
    row (105 ∷ 102 ∷ 110 ∷ 111 ∷ 116 ∷ []) false true true ∷  -- ifnot
    row (60 ∷ []) true false true ∷  -- <
    row (60 ∷ 61 ∷ []) true false true ∷  -- <=
    row (33 ∷ 61 ∷ []) true false true ∷  -- !=
    row (111 ∷ 114 ∷ []) false true true ∷  -- or
    row (117 ∷ 110 ∷ 108 ∷ 101 ∷ 115 ∷ 115 ∷ []) false true true ∷  -- unless
    []

-- a byte above 18 stands for no operator, and has no row
abbrev pub table_row : ℕ → Option Row
table_row n = slice_get table n

-- whether a row says that calls run its operator
abbrev pub carried_by : Option Row → Bool
carried_by None = false
carried_by (Some r) = r.carried

-- what a row says of its operator, and what the operator's tests say
pub record Claims : Type 0 where
  pub comparison : Bool
  pub logical : Bool
  pub carried : Bool

abbrev pub claimed : Row → Claims
claimed r = record { comparison = r.comparison; logical = r.logical; carried = r.carried }

abbrev pub tested : Operator → Claims
tested o = record { comparison = is_comparison o; logical = is_logical_op o; carried = is_carried o }

pub agrees : map claimed table ≡ map tested operators
agrees = refl
