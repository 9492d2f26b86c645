-- Numbers as digits. Assumes nothing.
use Rattle.std.specs.Prelude.{ℕ, zero, suc, ◌+◌, ◌/◌, ◌%◌, cond, List, [], ◌∷◌, ◌++◌, ltb}

-- a digit, those from ten on lowercase letters
abbrev pub digit : ℕ → ℕ
digit d = cond (ltb d 10) (48 + d) (87 + d)

-- the last k digits of a number to a base
unfoldable pub digits : ℕ → ℕ → ℕ → List ℕ
digits base zero n = []
digits base (suc k) n = digits base k (n / base) ++ (digit (n % base) ∷ [])

-- how many decimal digits a number has, at most k of them
unfoldable pub digit_count : ℕ → ℕ → ℕ
digit_count zero n = 0
digit_count (suc k) n = cond (ltb n 10) 1 (suc (digit_count k (n / 10)))

-- no number of 64 bits has more than twenty
abbrev pub decimal : ℕ → List ℕ
decimal n = digits 10 (digit_count 20 n) n

abbrev pub hexadecimal : ℕ → ℕ → List ℕ
hexadecimal k n = digits 16 k n
