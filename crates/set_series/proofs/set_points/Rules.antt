-- Each operator has the rule of its kind. Assumes nothing.
use Prim.Native.Nat.{ℕ}
use mathlib.Core.Path.{◌≡◌, refl}
use mathlib.Core.Bool.{Bool, true, false}
use mathlib.Core.List.{List, [], ◌∷◌}
use types.Run.{OneOf}
use denote.Enum.Declared.{tag_of}
use Rattle.operator.specs.declared.Operator.{Operator}
use Rattle.operator.specs.declared.Operator.TheVariants as O
use Rattle.operator.specs.Kinds.{Kind, arithmetic, comparison, set_rule, fallback, not_carried, kind_of}
use Rattle.operator.specs.Kinds.{where_found, where_none, filled}
use Rattle.operator.specs.contracts.Operator.{the_type}
use Rattle.operator.proofs.Cases.{by_numbers}
use Rattle.model.proofs.Laws.Booleans.{never_so}
use Rattle.plan.specs.Sets.{rule_by}

module _ (op : Operator) where
  pub and_rule : op ≡ O.And → where_found ≡ rule_by (kind_of op)
  and_rule e = rw e

  pub if_rule : op ≡ O.If → where_found ≡ rule_by (kind_of op)
  if_rule e = rw e

  pub unless_rule : op ≡ O.Unless → where_none ≡ rule_by (kind_of op)
  unless_rule e = rw e

  pub if_not_rule : op ≡ O.IfNot → where_none ≡ rule_by (kind_of op)
  if_not_rule e = rw e

-- the operators that fill
abbrev fills : Kind → Bool
fills (arithmetic a) = true
fills (comparison c) = true
fills (set_rule where_found) = false
fills (set_rule where_none) = false
fills (set_rule filled) = true
fills (fallback where_found) = false
fills (fallback where_none) = false
fills (fallback filled) = true
fills not_carried = true

fills_rule : (k : Kind) → true ≡ fills k → filled ≡ rule_by k
fills_rule (arithmetic a) h = refl
fills_rule (comparison c) h = refl
fills_rule (set_rule where_found) h = never_so h
fills_rule (set_rule where_none) h = never_so h
fills_rule (set_rule filled) h = refl
fills_rule (fallback where_found) h = never_so h
fills_rule (fallback where_none) h = never_so h
fills_rule (fallback filled) h = refl
fills_rule not_carried h = refl

abbrev others : List ℕ
others = 0 ∷ 2 ∷ 3 ∷ 4 ∷ 5 ∷ 6 ∷ 7 ∷ 8 ∷ 9 ∷ 10 ∷ 11 ∷ 14 ∷ 15 ∷ 16 ∷ 17 ∷ []

pub other_rule : (op : Operator) → OneOf others (tag_of the_type op) → filled ≡ rule_by (kind_of op)
other_rule op h = fills_rule (kind_of op) (by_numbers (λ o. fills (kind_of o)) true others tt op h)
