-- Numbers noted in an array, and the right places that a left series meets. Assumes nothing.
use Rattle.std.specs.Prelude.{ℕ, ◌+◌, ◌*◌, ◌≤◌, ◌<◌, ◌≡◌, Bool, cond, List, [], ltb, length, get_or, take, drop, set}
use Rattle.std.proofs.lemmas.List.Edits.{sets}
use Rattle.plan.specs.Sets.{places_of}

-- a number noted at the place n, where a test holds; the count goes on
pub record NotedIf (here : Bool) (x n : ℕ) (before after : List ℕ) (r : ℕ) : Type 0 where
  pub count : r ≡ cond here (n + 1) n
  pub content : after ≡ cond here (set before n x) before

-- numbers noted from the place n on, as far as the array goes; the count goes on
pub record NotedAll (xs : List ℕ) (n : ℕ) (before after : List ℕ) (r : ℕ) : Type 0 where
  pub count : r ≡ n + length xs
  pub content : after ≡ sets before n xs

-- the rows of the places, p readings wide, lie within the readings
pub record Within (p : ℕ) (rows places : List ℕ) : Type 0 where
  pub each : (j : ℕ) → j < length places → get_or places j 0 * p + p ≤ length rows

-- the right places that a left series meets, by the first and the last: those from one to the other that have the key of
-- the last; none where the last is no place
unfoldable pub coded_met : List ℕ → ℕ → ℕ → List ℕ
coded_met keys first last =
    cond (ltb last (length keys)) (places_of (get_or keys last 0) first (drop first (take (last + 1) keys))) []
