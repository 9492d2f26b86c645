-- Which series are dropped before an operator. Assumes nothing.
use Prim.Native.Nat.{ℕ}
use mathlib.Core.Path.{◌≡◌, refl, sym, ◌∙◌}
use mathlib.Core.Bool.{Bool, true, false}
use mathlib.Core.List.{List}
use Rattle.operator.specs.declared.Operator.{Operator}
use Rattle.operator.specs.Kinds.{Kind, arithmetic, comparison, set_rule, fallback, not_carried, kind_of}
use Rattle.operator.specs.Operators.{joins_sets, is_logical_op}
use Rattle.keyed_sides.specs.Keyed.{drops_missing, kept_keys}

sets_keep : (k : Kind) → joins_sets k ≡ true → drops_missing k ≡ false
sets_keep (arithmetic a) h = sym h
sets_keep (comparison c) h = refl
sets_keep (set_rule s) h = refl
sets_keep (fallback s) h = refl
sets_keep not_carried h = sym h

-- `drop_for`

module _ (o : Operator) (p : ℕ) (rows keys : List ℕ) (r : Bool) (hr : r ≡ is_logical_op o) where
  pub kept_by_sets : r ≡ true → keys ≡ kept_keys (drops_missing (kind_of o)) p rows keys
  kept_by_sets h = rw (sets_keep (kind_of o) (sym hr ∙ h))
