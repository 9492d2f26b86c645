-- Places noted by hash: a table with the first place of each bucket of hashes. Assumes nothing.
use Rattle.std.specs.Prelude.{ℕ, ◌%◌, ◌≤◌, ◌<◌, ◌≡◌, cond, List, ltb, length, get_or, set}

abbrev pub buckets : ℕ
buckets = 16384

abbrev pub bucket_of : ℕ → ℕ
bucket_of h = h % buckets

-- a table with the place n noted for the hash h, where nothing before n is noted
abbrev pub noted : List ℕ → ℕ → ℕ → List ℕ
noted t h n = cond (ltb n (get_or t (bucket_of h) 0)) (set t (bucket_of h) n) t

-- each hash's place has been noted: what stands at its bucket is not behind it
pub record Noted (t hs : List ℕ) : Type 0 where
  pub size : length t ≡ buckets
  pub early : (i : ℕ) → i < length hs → get_or t (bucket_of (get_or hs i 0)) 0 ≤ i
