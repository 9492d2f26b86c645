-- Instances of the scalar operators, worked by hand. Assumes nothing.
use Rattle.std.specs.Prelude.{◌≡◌, refl, true, false, List, [], ◌∷◌, map}
use Rattle.operator.specs.Kinds.{sum, difference, product, quotient, remainder, Comparison, equal, unequal, less, at_most, greater, at_least}
use Rattle.operator.specs.declared.Operator.TheVariants.{Add, Div, Eql}
use Rattle.model.specs.Reading.{missing, no_reading, calculated, compared, scalar_op}
use Rattle.model.specs.Computing.{computing}
use Rattle.model.specs.Examples.Numbers.{zero, one, two, three, four, five, six, seven, ten, minus_zero, minus_six, infinity, minus_infinity}
use Rattle.model.specs.Examples.Numbers.{payload, signalling, smallest}

-- any NaN is missing, whatever its sign and payload
missing_any : missing payload ≡ true
unfolding computing
missing_any = refl

missing_signalling : missing signalling ≡ true
unfolding computing
missing_signalling = refl

missing_written : missing no_reading ≡ true
unfolding computing
missing_written = refl

-- an infinity is a reading, and so is each zero
present_infinity : missing infinity ≡ false
unfolding computing
present_infinity = refl

present_minus_infinity : missing minus_infinity ≡ false
unfolding computing
present_minus_infinity = refl

present_minus_zero : missing minus_zero ≡ false
unfolding computing
present_minus_zero = refl

sum_of : calculated sum two three ≡ five
unfolding computing
sum_of = refl

-- 0.1 + 0.2, rounded once
sum_rounded : calculated sum 0x3fb9_9999_9999_999a 0x3fc9_9999_9999_999a ≡ 0x3fd3_3333_3333_3334
unfolding computing
sum_rounded = refl

sum_subnormal : calculated sum smallest smallest ≡ 2
unfolding computing
sum_subnormal = refl

sum_zeros : calculated sum minus_zero zero ≡ zero
unfolding computing
sum_zeros = refl

-- a made N has one pattern, whatever went in
sum_missing : calculated sum payload one ≡ no_reading
unfolding computing
sum_missing = refl

-- left minus right
difference_of : calculated difference five three ≡ two
unfolding computing
difference_of = refl

difference_infinite : calculated difference infinity infinity ≡ no_reading
unfolding computing
difference_infinite = refl

product_of : calculated product two three ≡ six
unfolding computing
product_of = refl

product_none : calculated product zero infinity ≡ no_reading
unfolding computing
product_none = refl

-- 01's example: [10,N,6] / [2,1,3]
quotient_of : calculated quotient ten two ≡ five
unfolding computing
quotient_of = refl

quotient_missing : calculated quotient no_reading one ≡ no_reading
unfolding computing
quotient_missing = refl

quotient_last : calculated quotient six three ≡ two
unfolding computing
quotient_last = refl

quotient_by_zero : calculated quotient one zero ≡ infinity
unfolding computing
quotient_by_zero = refl

quotient_none : calculated quotient zero zero ≡ no_reading
unfolding computing
quotient_none = refl

remainder_of : calculated remainder seven four ≡ three
unfolding computing
remainder_of = refl

-- the remainder has the left operand's sign, a zero too
remainder_sign : calculated remainder minus_six three ≡ minus_zero
unfolding computing
remainder_sign = refl

remainder_infinite : calculated remainder seven infinity ≡ seven
unfolding computing
remainder_infinite = refl

remainder_zero : calculated remainder seven zero ≡ no_reading
unfolding computing
remainder_zero = refl

-- 02: Every comparison with a missing right reading gives missing, bool or not: whatever NaN it is, whether the left one is missing too, and
-- in the written pattern, so that the left one's bits do not pass

abbrev comparisons : List Comparison
comparisons = equal ∷ unequal ∷ less ∷ at_most ∷ greater ∷ at_least ∷ []

right_missing : map (λ c. compared false c three payload) comparisons ≡ map (λ c. no_reading) comparisons
unfolding computing
right_missing = refl

right_missing_bool : map (λ c. compared true c three payload) comparisons ≡ map (λ c. no_reading) comparisons
unfolding computing
right_missing_bool = refl

both_missing : map (λ c. compared false c payload signalling) comparisons ≡ map (λ c. no_reading) comparisons
unfolding computing
both_missing = refl

both_missing_bool : map (λ c. compared true c payload signalling) comparisons ≡ map (λ c. no_reading) comparisons
unfolding computing
both_missing_bool = refl

-- 01: `!=` with one side N is true, and the left bits pass; other comparisons with N are false. With bool, left N gives N.
left_missing : map (λ c. compared false c payload three) comparisons ≡ no_reading ∷ payload ∷ no_reading ∷ no_reading ∷ no_reading ∷ no_reading ∷ []
unfolding computing
left_missing = refl

left_missing_bool : map (λ c. compared true c payload three) comparisons ≡ map (λ c. no_reading) comparisons
unfolding computing
left_missing_bool = refl

-- both present, and the same

both_there : map (λ c. compared false c two three) comparisons ≡ no_reading ∷ two ∷ two ∷ two ∷ no_reading ∷ no_reading ∷ []
unfolding computing
both_there = refl

both_there_bool : map (λ c. compared true c two three) comparisons ≡ zero ∷ one ∷ one ∷ one ∷ zero ∷ zero ∷ []
unfolding computing
both_there_bool = refl

both_same : map (λ c. compared false c three three) comparisons ≡ three ∷ no_reading ∷ no_reading ∷ three ∷ no_reading ∷ three ∷ []
unfolding computing
both_same = refl

both_same_bool : map (λ c. compared true c three three) comparisons ≡ one ∷ zero ∷ zero ∷ one ∷ zero ∷ one ∷ []
unfolding computing
both_same_bool = refl

equal_zeros : compared false equal minus_zero zero ≡ minus_zero
unfolding computing
equal_zeros = refl

greater_so : compared false greater three two ≡ three
unfolding computing
greater_so = refl

-- *N `== bool` 3: N
bool_left_missing : compared true equal no_reading three ≡ no_reading
unfolding computing
bool_left_missing = refl

-- *3 `!= bool` N: 1 in 01; 02: so 3 `!= bool` N becomes N
bool_right_missing : compared true unequal three no_reading ≡ no_reading
unfolding computing
bool_right_missing = refl

-- the operator chooses
operator_quotient : scalar_op Div false ten two ≡ five
unfolding computing
operator_quotient = refl

operator_equal : scalar_op Eql true two two ≡ one
unfolding computing
operator_equal = refl

-- bool changes nothing in arithmetic
operator_plain_bool : scalar_op Add true two three ≡ five
unfolding computing
operator_plain_bool = refl
