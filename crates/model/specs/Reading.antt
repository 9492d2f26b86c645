-- Readings: the 64 bits of a binary64, and the operators on two of them. Assumes nothing.
use Rattle.std.specs.Prelude.{ℕ, Bool, true, false, not, cond}
use Rattle.std.specs.Float.{binary64}
use Rattle.std.specs.Float.Ieee.{of_bits, to_bits, nan_bits, add, sub, mul, div, rem, lt, le, eq}
use Rattle.operator.specs.declared.Operator.{Operator}
use Rattle.operator.specs.Kinds.{Arithmetic, sum, difference, product, quotient, remainder, Comparison, equal, unequal, less, at_most, greater}
use Rattle.operator.specs.Kinds.{at_least, Kind, arithmetic, comparison, set_rule, fallback, not_carried, kind_of}

-- 01: "Missing", written N, is any NaN.
unfoldable pub missing : ℕ → Bool
missing x = nan_bits binary64 x

-- 01: An N from arithmetic, or written by a rule that gives N, is hexadecimal 7ff8000000000000. (`to_bits` writes every NaN so.)
abbrev pub no_reading : ℕ
no_reading = 0x7ff8_0000_0000_0000

-- 01: Sums, differences, products, quotients and remainders are rounded once.
unfoldable pub calculated : Arithmetic → ℕ → ℕ → ℕ
calculated sum a b = to_bits binary64 (add binary64 (of_bits binary64 a) (of_bits binary64 b))
calculated difference a b = to_bits binary64 (sub binary64 (of_bits binary64 a) (of_bits binary64 b))
calculated product a b = to_bits binary64 (mul binary64 (of_bits binary64 a) (of_bits binary64 b))
calculated quotient a b = to_bits binary64 (div binary64 (of_bits binary64 a) (of_bits binary64 b))
calculated remainder a b = to_bits binary64 (rem binary64 (of_bits binary64 a) (of_bits binary64 b))

-- 01: Equality with both N is true; `!=` with one side N is true; other comparisons with N are false.
unfoldable pub equals : ℕ → ℕ → Bool
equals a b = cond (missing a) (missing b) (eq (of_bits binary64 a) (of_bits binary64 b))

unfoldable pub holds : Comparison → ℕ → ℕ → Bool
holds equal a b = equals a b
holds unequal a b = not (equals a b)
holds less a b = lt (of_bits binary64 a) (of_bits binary64 b)
holds at_most a b = le (of_bits binary64 a) (of_bits binary64 b)
holds greater a b = lt (of_bits binary64 b) (of_bits binary64 a)
holds at_least a b = le (of_bits binary64 b) (of_bits binary64 a)

abbrev pub one_or_zero : Bool → ℕ
one_or_zero true = 0x3ff0_0000_0000_0000
one_or_zero false = 0

-- 01: Comparison gives the left reading if true, else N. With bool: left N gives N, else 1 or 0.
abbrev pub comparison_value : Bool → Bool → ℕ → ℕ
comparison_value true h a = cond (missing a) no_reading (one_or_zero h)
comparison_value false h a = cond h a no_reading

-- 02: Every comparison with a missing right reading gives missing, bool or not. (Whether it holds, by 01, is then not asked.)
unfoldable pub compared : Bool → Comparison → ℕ → ℕ → ℕ
compared bool c a b = cond (missing b) no_reading (comparison_value bool (holds c a b) a)

abbrev pub scalar_of_kind : Kind → Bool → ℕ → ℕ → ℕ
scalar_of_kind (arithmetic k) bool a b = calculated k a b
scalar_of_kind (comparison c) bool a b = compared bool c a b
scalar_of_kind (set_rule s) bool a b = no_reading
scalar_of_kind (fallback s) bool a b = no_reading
scalar_of_kind not_carried bool a b = no_reading

-- the operator on a left and a right reading; only arithmetic and comparisons have one, so the others' is not used
unfoldable pub scalar_op : Operator → Bool → ℕ → ℕ → ℕ
scalar_op o bool a b = scalar_of_kind (kind_of o) bool a b
