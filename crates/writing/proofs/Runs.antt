-- What several writes in a row come to, and the writes of a list's elements. Assumes nothing.
use Prim.Native.Nat.{ℕ, ◌≤◌, ◌<◌, ◌+◌}
use mathlib.Core.List.{List, ◌++◌}
use native.Mathlib.Omega.{arith}
use native.Mathlib.Numerals.{add-one}
use lib.ListN.{length, get_or, drop, drop_of_length-le}
use lib.Seq.{drop-cons}
use Rattle.model.specs.Lists.{gather}
use Rattle.writing.specs.Written.{Put}
use Rattle.writing.proofs.Written.{Rest, rest_start, rest_room, rest_put, rest_last, rest_done}

-- a piece a of what is left to write of W, and b behind it
module _ (d₀ : List ℕ) (at : ℕ) (W d : List ℕ) (o : ℕ) where
  pub piece_room : (a b : List ℕ) → Rest d₀ at W d o (a ++ b) → o + length a ≤ length d
  piece_room a b t = rest_room d₀ at W d o a b t

  pub piece_put : (a b : List ℕ) → Rest d₀ at W d o (a ++ b) → (d' : List ℕ) (r : ℕ) → Put d o a d' r
      → Rest d₀ at W d' r b
  piece_put a b t d' r p = rest_put d₀ at W d o a b d' r t p

  pub last_room : (a : List ℕ) → Rest d₀ at W d o a → o + length a ≤ length d
  last_room a t = omega (arith, t.sum, t.size, t.room)

  pub last_put : (a : List ℕ) → Rest d₀ at W d o a → (d' : List ℕ) (r : ℕ) → Put d o a d' r → Put d₀ at W d' r
  last_put a t d' r p = rest_last d₀ at W d o a d' r t p

-- a loop that writes each element's bytes in its turn
pub record GatherLeft (f : ℕ → List ℕ) (s d₀ : List ℕ) (at : ℕ) (d : List ℕ) (i o : ℕ) : Type 0 where
  pub some : i ≤ length s
  pub rest : Rest d₀ at (gather f s) d o (gather f (drop i s))

pub gather_start : (f : ℕ → List ℕ) (s d : List ℕ) (at : ℕ) → at + length (gather f s) ≤ length d
    → GatherLeft f s d at d 0 at
gather_start f s d at room = record { some = omega arith; rest = rest_start d at (gather f s) room }

module _ (f : ℕ → List ℕ) (s d₀ : List ℕ) (at : ℕ) (d : List ℕ) (i o : ℕ) (inv : GatherLeft f s d₀ at d i o) where
  module _ (h : i < length s) where
    gather_left : Rest d₀ at (gather f s) d o (f (get_or s i 0) ++ gather f (drop (i + 1) s))
    gather_left = rw add-one (rw (drop-cons s i 0 h) at inv.rest)

    pub gather_room : o + length (f (get_or s i 0)) ≤ length d
    gather_room = rest_room d₀ at (gather f s) d o (f (get_or s i 0)) (gather f (drop (i + 1) s)) gather_left

    pub gather_turn : (d' : List ℕ) (r : ℕ) → Put d o (f (get_or s i 0)) d' r → GatherLeft f s d₀ at d' (i + 1) r
    gather_turn d' r p =
        record {
          some = omega arith;
          rest = rest_put d₀ at (gather f s) d o (f (get_or s i 0)) (gather f (drop (i + 1) s)) d' r gather_left p;
        }

  pub gather_done : length s ≤ i → Put d₀ at (gather f s) d o
  gather_done h = rest_done d₀ at (gather f s) d o (rw (drop_of_length-le s h) at inv.rest)
