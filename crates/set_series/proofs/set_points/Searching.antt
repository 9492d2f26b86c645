-- The search over right series: where it stands, a turn, and its two ends. Assumes nothing.
use Prim.Native.Nat.{ℕ, zero, suc, ◌+◌, ◌*◌, ◌≤◌, ◌<◌}
use mathlib.Core.Path.{◌≡◌, refl, sym, ◌∙◌}
use mathlib.Core.Bool.{Bool, true, false, cond}
use mathlib.Core.Option.{some}
use mathlib.Core.List.{List, [], ◌∷◌}
use native.Mathlib.Numerals.{add-one}
use native.Mathlib.Omega.{arith}
use lib.ListN.{length, get_or, drop, drop_of_length-le}
use lib.Seq.{drop-cons}
use Rattle.model.specs.Reading.{missing, no_reading}
use Rattle.plan.specs.Sets.{Hit, first_at}
use Rattle.set_series.specs.declared.set_points.Hit as Code
use Rattle.set_series.specs.set_points.Points.{hit_of}
use Rattle.index_lists.specs.Places.{Within}

-- within a list the default is not asked for
pub any_default : (l : List ℕ) (i a b : ℕ) → i < length l → get_or l i a ≡ get_or l i b
any_default [] i a b h = absurd (omega arith)
any_default (x ∷ l) zero a b h = refl
any_default (x ∷ l) (suc i) a b h = any_default l i a b (omega arith)

-- the series before j have no reading at the point
pub record Searching (p : ℕ) (rows : List ℕ) (i : ℕ) (places : List ℕ) (j : ℕ) : Type 0 where
  pub reached : j ≤ length places
  pub rest : first_at p rows i (drop j places) ≡ first_at p rows i places

module _ (p : ℕ) (rows : List ℕ) (i : ℕ) (places : List ℕ) where
  pub search_starts : Searching p rows i places 0
  search_starts = record { reached = omega arith; rest = refl }

  module _ (j : ℕ) (s : Searching p rows i places j) where
    module _ (below : i < p) (inside : Within p rows places) (h : j < length places) where
      pub point_within : get_or places j 0 * p + i < length rows
      point_within = omega (arith, inside.each j h)

      abbrev at : ℕ
      at = get_or rows (get_or places j 0 * p + i) 0

      abbrev hit : Hit
      hit = record { place = get_or places j 0; reading = at }

      here : first_at p rows i (drop j places) ≡ cond (missing at) (first_at p rows i (drop (suc j) places)) (some hit)
      unfolding first_at
      here = rw (drop-cons places j 0 h, any_default rows (get_or places j 0 * p + i) no_reading 0 point_within)

      module _ (b : Bool) (told : b ≡ missing (get_or rows (get_or places j 0 * p + i) 0)) where
        pub search_turn : b ≡ true → Searching p rows i places (j + 1)
        search_turn e = record { reached = omega arith; rest = sym (here ∙ rw (← told, e, add-one)) ∙ s.rest }

        pub search_found : b ≡ false
            → ◌≡◌ {A = Code.Hit} (record { place = get_or places j 0; reading = get_or rows (get_or places j 0 * p + i) 0 })
            (hit_of (first_at p rows i places))
        search_found e = rw (← s.rest, here, ← told, e)

    pub search_none : length places ≤ j
        → ◌≡◌ {A = Code.Hit} (record { place = 0; reading = no_reading }) (hit_of (first_at p rows i places))
    unfolding first_at
    search_none h = rw (← s.rest, drop_of_length-le places h)
