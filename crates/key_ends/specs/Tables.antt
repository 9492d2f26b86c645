-- Tables of places by key number. Assumes nothing.
use Rattle.std.specs.Prelude.{ℕ, ◌<◌, ◌≡◌, cond, List, ltb, length, get_or, set, min}
use Rattle.key_ends.specs.declared.Ends.{Ends}

-- the places that are read behind a table's end
abbrev pub beyond : Ends
beyond = record { first = 0; last = 0 }

-- a table with a place noted, behind those noted before, at a number that it has
abbrev pub noted : List Ends → ℕ → ℕ → List Ends
noted t k i = cond (ltb k (length t)) (set t k (record { first = min (get_or t k beyond).first i; last = i })) t

-- a table of 1,024 first and last places, each as f and l say
pub record Table (f l : ℕ → ℕ) (t : List Ends) : Type 0 where
  pub size : length t ≡ 1024
  pub first : (k : ℕ) → k < 1024 → (get_or t k beyond).first ≡ f k
  pub last : (k : ℕ) → k < 1024 → (get_or t k beyond).last ≡ l k
