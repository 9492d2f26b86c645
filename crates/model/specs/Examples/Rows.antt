-- Instances of merging, worked by hand. Assumes nothing.
use Rattle.std.specs.Prelude.{◌≡◌, refl, true, false, [], ◌∷◌}
use Rattle.std.proofs.Math.Option.{none, some}
use Rattle.operator.specs.declared.Operator.TheVariants.{Sub}
use Rattle.model.specs.Reading.{no_reading, scalar_op}
use Rattle.model.specs.Row.{only_missing, zip_with, overlaps, merged}
use Rattle.model.specs.Computing.{computing}
use Rattle.model.specs.Examples.Numbers.{zero, one, two, three, four, five, six, seven, eight, nine, payload}

only_missing_lem : only_missing (no_reading ∷ no_reading ∷ []) ≡ true
unfolding computing
only_missing_lem = refl

only_missing_not : only_missing (no_reading ∷ zero ∷ []) ≡ false
unfolding computing
only_missing_not = refl

-- p = 0 counts as only N
only_missing_none : only_missing [] ≡ true
unfolding computing
only_missing_none = refl

-- the left reading is the left operand
zipped : zip_with (scalar_op Sub false) (five ∷ no_reading ∷ []) (three ∷ one ∷ []) ≡ (two ∷ no_reading ∷ [])
unfolding computing
zipped = refl

-- *into [1,N,3,N] of [N,2,N,4]
merge_gaps : merged 2 (one ∷ no_reading ∷ three ∷ no_reading ∷ []) (no_reading ∷ two ∷ no_reading ∷ four ∷ []) ≡ some (one ∷ two ∷ three ∷ four ∷ [])
unfolding computing
merge_gaps = refl

-- *into [1,2,3]: [9,8,N] gives [9,8,3]
merge_two : merged 2 (one ∷ two ∷ three ∷ []) (nine ∷ eight ∷ no_reading ∷ []) ≡ some (nine ∷ eight ∷ three ∷ [])
unfolding computing
merge_two = refl

-- *[9,8,7] overlaps
merge_three : merged 2 (one ∷ two ∷ three ∷ []) (nine ∷ eight ∷ seven ∷ []) ≡ none
unfolding computing
merge_three = refl

-- *p = 2, [1,N] and [N,2]: overlapping
merge_short : merged 2 (one ∷ no_reading ∷ []) (no_reading ∷ two ∷ []) ≡ none
unfolding computing
merge_short = refl

-- p = 3, [1,N,N] and [N,2,N]: [1,2,N]
merge_least : merged 2 (one ∷ no_reading ∷ no_reading ∷ []) (no_reading ∷ two ∷ no_reading ∷ []) ≡ some (one ∷ two ∷ no_reading ∷ [])
unfolding computing
merge_least = refl

-- p = 0 is at most 2
merge_empty : merged 2 [] [] ≡ none
unfolding computing
merge_empty = refl

-- where both are missing the destination stays
merge_keeps_bits : merged 2 (payload ∷ one ∷ one ∷ []) (no_reading ∷ no_reading ∷ no_reading ∷ []) ≡ some (payload ∷ one ∷ one ∷ [])
unfolding computing
merge_keeps_bits = refl

-- an allowance of none refuses at the first overlap
merge_none_allowed : merged 0 (one ∷ no_reading ∷ three ∷ []) (one ∷ two ∷ no_reading ∷ []) ≡ none
unfolding computing
merge_none_allowed = refl

-- p = 2 is refused under every allowance
merge_two_points : merged 8 (one ∷ no_reading ∷ []) (no_reading ∷ two ∷ []) ≡ none
unfolding computing
merge_two_points = refl

-- an allowance of three takes a third
merge_more_allowed : merged 3 (one ∷ two ∷ three ∷ []) (nine ∷ eight ∷ seven ∷ []) ≡ some (nine ∷ eight ∷ seven ∷ [])
unfolding computing
merge_more_allowed = refl

overlap_count : overlaps (one ∷ two ∷ three ∷ no_reading ∷ []) (four ∷ no_reading ∷ five ∷ six ∷ []) ≡ 2
unfolding computing
overlap_count = refl
