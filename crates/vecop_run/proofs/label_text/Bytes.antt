-- Which bytes print as they are. Assumes nothing.
use Prim.Native.Nat.{ℕ, ◌≤◌, ◌<◌, ◌+◌}
use mathlib.Core.Path.{◌≡◌}
use mathlib.Core.Bool.{Bool, true, false}
use mathlib.Core.List.{List, [], ◌∷◌}
use lib.ListN.{length, get_or}
use Rattle.model.specs.Numerals.{hexadecimal}
use Rattle.vecop_run.specs.label_text.LabelText.{is_plain, escaped}
use Rattle.writing.specs.Written.{Put}
use Rattle.writing.proofs.Runs.{GatherLeft, gather_room}

-- a byte as it is, or with a percent sign
module _ (b : ℕ) (d : List ℕ) (at : ℕ) (x : Bool) (hx : x ≡ is_plain b) where
  module _ (t : x ≡ true) where
    as_it_is : escaped b ≡ b ∷ []
    unfolding escaped
    as_it_is = rw (← hx, t)

    pub plain_room : at + length (escaped b) ≤ length d → at + 1 ≤ length d
    plain_room h = rw as_it_is at h

    pub plain_put : (d' : List ℕ) (r : ℕ) → Put d at (b ∷ []) d' r → Put d at (escaped b) d' r
    plain_put d' r p = rw as_it_is p

  module _ (t : x ≡ false) where
    in_digits : escaped b ≡ 37 ∷ hexadecimal 2 b
    unfolding escaped
    in_digits = rw (← hx, t)

    pub digits_room : at + length (escaped b) ≤ length d → at + length (37 ∷ hexadecimal 2 b) ≤ length d
    digits_room h = rw in_digits at h

    pub digits_put : (d' : List ℕ) (r : ℕ) → Put d at (37 ∷ hexadecimal 2 b) d' r → Put d at (escaped b) d' r
    digits_put d' r p = rw in_digits p

pub field_room : (s d₀ : List ℕ) (at : ℕ) (d : List ℕ) (i o : ℕ) → i < length s → GatherLeft escaped s d₀ at d i o
    → o + length (escaped (get_or s i 0)) ≤ length d
field_room s d₀ at d i o h inv = gather_room escaped s d₀ at d i o inv h
