-- `is_set` and `remains`, way by way. Assumes nothing.
use mathlib.Core.Path.{◌≡◌}
use mathlib.Core.Bool.{Bool, true, false, not}
use mathlib.Core.List.{List}
use Prim.Native.Nat.{ℕ}
use Rattle.model.specs.Edits.{Names, is_listed, is_star}
use Rattle.model.specs.TagWalk.{is_set, remains}

module _ (join skip : Names) (k : List ℕ) (r : Bool) (hr : r ≡ is_listed skip k) where
  pub skipped_unset : r ≡ true → false ≡ is_set join skip k
  unfolding is_set
  skipped_unset e = rw (← hr, e)

  module _ (er : r ≡ false) (s : Bool) (hs : s ≡ is_star join) where
    pub star_sets : s ≡ true → true ≡ is_set join skip k
    unfolding is_set
    star_sets e = rw (← hr, er, ← hs, e)

    pub listed_sets : s ≡ false → (t : Bool) → t ≡ is_listed join k → t ≡ is_set join skip k
    unfolding is_set
    listed_sets e t ht = rw (← hr, er, ← hs, e) ht

module _ (join skip : Names) (k : List ℕ) (s : Bool) (hs : s ≡ is_star join) where
  pub star_remains : s ≡ true → true ≡ remains join skip k
  star_remains e = rw (← hs, e)

  pub unset_remains : s ≡ false → (r : Bool) → r ≡ is_set join skip k → not r ≡ remains join skip k
  unset_remains e r hr = rw (← hs, e, hr)
