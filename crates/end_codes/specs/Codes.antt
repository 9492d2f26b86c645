-- The first and the last places of a key, on one side and on two, each as one number: packed, and read off it. Assumes nothing.
use Rattle.std.specs.Prelude.{ℕ, ◌+◌, ◌*◌, ◌/◌, ◌%◌, ◌<◌, ◌≡◌}
use Rattle.std.proofs.Common.{arith}

-- the packing numbers: above every place on a side, and above every code of a side

abbrev pub places : ℕ
places = 1024

abbrev pub codes : ℕ
codes = 1048576

-- a first and a last place on a side
abbrev pub side_code : ℕ → ℕ → ℕ
side_code first last = first * places + last

-- a code of the left side, then one of the right
abbrev pub both_code : ℕ → ℕ → ℕ
both_code left right = left * codes + right

-- read off the code of a side

abbrev pub side_first : ℕ → ℕ
side_first c = c / places

abbrev pub side_last : ℕ → ℕ
side_last c = c % places

-- read off the code of both

abbrev pub left_code : ℕ → ℕ
left_code c = c / codes

abbrev pub right_code : ℕ → ℕ
right_code c = c % codes

abbrev pub left_first : ℕ → ℕ
left_first c = side_first (left_code c)

abbrev pub left_last : ℕ → ℕ
left_last c = side_last (left_code c)

abbrev pub right_first : ℕ → ℕ
right_first c = side_first (right_code c)

abbrev pub right_last : ℕ → ℕ
right_last c = side_last (right_code c)

-- of two codes packed
module _ (left right : ℕ) (small : right < codes) where
  pub both_left : left_code (both_code left right) ≡ left
  both_left = omega arith

  pub both_right : right_code (both_code left right) ≡ right
  both_right = omega arith
