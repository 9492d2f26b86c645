-- An operator that is neither arithmetic nor a comparison gives no reading. Assumes nothing.
use mathlib.Core.Path.{◌≡◌, refl}
use mathlib.Core.Bool.{Bool, true, false}
use mathlib.Core.List.{List, [], ◌∷◌}
use Prim.Native.Nat.{ℕ}
use types.Run.{OneOf}
use denote.Enum.Declared.{tag_of}
use Rattle.operator.specs.declared.Operator.{Operator}
use Rattle.operator.specs.Kinds.{Kind, arithmetic, comparison, set_rule, fallback, not_carried, kind_of}
use Rattle.operator.specs.contracts.Operator.{the_type}
use Rattle.operator.proofs.Cases.{by_numbers}
use Rattle.model.specs.Reading.{no_reading, scalar_of_kind, scalar_op}

abbrev gives : Kind → Bool
gives (arithmetic k) = true
gives (comparison k) = true
gives (set_rule s) = false
gives (fallback s) = false
gives not_carried = false

none_given : (k : Kind) → false ≡ gives k → (as_bool : Bool) (a b : ℕ) → no_reading ≡ scalar_of_kind k as_bool a b
none_given (arithmetic k) h as_bool a b = cc
none_given (comparison k) h as_bool a b = cc
none_given (set_rule s) h as_bool a b = refl
none_given (fallback s) h as_bool a b = refl
none_given not_carried h as_bool a b = refl

-- the numbers of the others
abbrev pub others : List ℕ
others = 1 ∷ 2 ∷ 3 ∷ 8 ∷ 12 ∷ 13 ∷ 17 ∷ 18 ∷ []

pub no_scalar : (o : Operator) → OneOf others (tag_of the_type o) → (as_bool : Bool) (a b : ℕ) → no_reading ≡ scalar_op o as_bool a b
unfolding scalar_op
no_scalar o h = none_given (kind_of o) (by_numbers (λ o. gives (kind_of o)) false others tt o h)
