-- What each operator does. Assumes nothing.
use Rattle.operator.specs.declared.Operator.{Operator}
use Rattle.operator.specs.declared.Operator.TheVariants.{Add, And, Atan2, Default, Div, Eql, Mod, Mul, Pow, Sub, Gt, Gte, If, IfNot, Lt, Lte}
use Rattle.operator.specs.declared.Operator.TheVariants.{NotEq, Or, Unless}

pub data Arithmetic : Type 0 where
  sum difference product quotient remainder : Arithmetic

pub data Comparison : Type 0 where
  equal unequal less at_most greater at_least : Comparison

-- 01: `and`, `if` keep the left reading if one has a reading; `unless`, `ifnot` if none has; `or`, `default` fill N from the first that has.
pub data SetRule : Type 0 where
  where_found where_none filled : SetRule

-- 01: `if`, `ifnot`, `default` fall back to a right side of one series without name and tags; no other operator does.
-- `^` and `atan2` are not carried.
pub data Kind : Type 0 where
  arithmetic : Arithmetic → Kind
  comparison : Comparison → Kind
  set_rule : SetRule → Kind
  fallback : SetRule → Kind
  not_carried : Kind

abbrev pub kind_of : Operator → Kind
kind_of Add = arithmetic sum
kind_of And = set_rule where_found
kind_of Atan2 = not_carried
kind_of Default = fallback filled
kind_of Div = arithmetic quotient
kind_of Eql = comparison equal
kind_of Mod = arithmetic remainder
kind_of Mul = arithmetic product
kind_of Pow = not_carried
kind_of Sub = arithmetic difference
kind_of Gt = comparison greater
kind_of Gte = comparison at_least
kind_of If = fallback where_found
kind_of IfNot = fallback where_none
kind_of Lt = comparison less
kind_of Lte = comparison at_most
kind_of NotEq = comparison unequal
kind_of Or = set_rule filled
kind_of Unless = set_rule where_none
