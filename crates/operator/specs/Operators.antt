-- Operators by their numbers, and their tests. Assumes nothing.
use Rattle.std.specs.Prelude.{ℕ, zero, suc, Bool, true, false, List, [], ◌∷◌, Result, Ok, Err}
use Rattle.std.proofs.Math.Option.{Option, none, some}
use Rattle.operator.specs.declared.Operator.{Operator}
use Rattle.operator.specs.declared.Operator.TheVariants.{Add, And, Atan2, Default, Div, Eql, Mod, Mul, Pow, Sub, Gt, Gte, If, IfNot, Lt, Lte}
use Rattle.operator.specs.declared.Operator.TheVariants.{NotEq, Or, Unless}
use Rattle.operator.specs.declared.UnknownOperator.{UnknownOperator}
use Rattle.operator.specs.Kinds.{Kind, arithmetic, comparison, set_rule, fallback, not_carried, kind_of}

-- 01: Operators are numbered 0 to 18 as `Operator` lists them, 0 `Add` to 18 `Unless`.
abbrev pub operators : List Operator
operators = Add ∷ And ∷ Atan2 ∷ Default ∷ Div ∷ Eql ∷ Mod ∷ Mul ∷ Pow ∷ Sub ∷ Gt ∷ Gte ∷ If ∷ IfNot ∷ Lt ∷ Lte ∷ NotEq ∷ Or ∷ Unless ∷ []

abbrev pub nth : {A : Type 0} → List A → ℕ → Option A
nth [] n = none
nth (x ∷ xs) zero = some x
nth (x ∷ xs) (suc n) = nth xs n

abbrev pub operator_of : ℕ → Option Operator
operator_of n = nth operators n

-- the answer of the code for what a byte stands for; an error has the byte
abbrev pub coded : ℕ → Option Operator → Result Operator UnknownOperator
coded b none = Err (record { 0 = b })
coded b (some o) = Ok o

abbrev pub coded_of : ℕ → Result Operator UnknownOperator
coded_of b = coded b (operator_of b)

abbrev pub compares : Kind → Bool
compares (arithmetic a) = false
compares (comparison c) = true
compares (set_rule s) = false
compares (fallback s) = false
compares not_carried = false

-- the set rules are the logical operators
abbrev pub joins_sets : Kind → Bool
joins_sets (arithmetic a) = false
joins_sets (comparison c) = false
joins_sets (set_rule s) = true
joins_sets (fallback s) = true
joins_sets not_carried = false

abbrev pub runs : Kind → Bool
runs (arithmetic a) = true
runs (comparison c) = true
runs (set_rule s) = true
runs (fallback s) = true
runs not_carried = false

abbrev pub is_comparison : Operator → Bool
is_comparison o = compares (kind_of o)

abbrev pub is_logical_op : Operator → Bool
is_logical_op o = joins_sets (kind_of o)

abbrev pub is_carried : Operator → Bool
is_carried o = runs (kind_of o)
