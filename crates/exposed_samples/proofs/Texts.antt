-- The texts as pieces written one behind another: room for each, and all of them written. Assumes nothing.
use Prim.Native.Nat.{ℕ, ◌≤◌, ◌+◌, ◌/◌}
use mathlib.Core.Path.{◌≡◌, refl}
use mathlib.Core.Bool.{true}
use mathlib.Core.List.{List, [], ◌∷◌, ◌++◌}
use native.Mathlib.Omega.{arith}
use lib.Dec.{leb}
use lib.ListN.{length}
use borrow.Author.Tests.{leb-true}
use Rattle.model.specs.Numerals.{digits, decimal}
use Rattle.writing.specs.Written.{Put}
use Rattle.writing.proofs.Written.{Rest, rest_start, rest_as}
use Rattle.writing.proofs.Runs.{piece_room, piece_put, last_room, last_put}
use Rattle.numerals.proofs.Digits.{digits_length}
use Rattle.exposition.specs.Values.{thousandths_text, value_text}
use Rattle.exposition.specs.Text.{time_text, sample_text}

-- a text of three pieces
record Pieces (w u v t : List ℕ) : Type 0 where
  pub joined : w ≡ u ++ (v ++ t)

module _ {w u v t : List ℕ} (is : Pieces w u v t) (d : List ℕ) (at : ℕ) (room : at + length w ≤ length d) where
  start : Rest d at w d at (u ++ (v ++ t))
  start = rest_as d at w d at w (u ++ (v ++ t)) (rest_start d at w room) is.joined

  first : at + length u ≤ length d
  first = piece_room d at w d at u (v ++ t) start

  module _ (d₁ : List ℕ) (o₁ : ℕ) (p₁ : Put d at u d₁ o₁) where
    behind_first_lem : Rest d at w d₁ o₁ (v ++ t)
    behind_first_lem = piece_put d at w d at u (v ++ t) start d₁ o₁ p₁

    second : o₁ + length v ≤ length d₁
    second = piece_room d at w d₁ o₁ v t behind_first_lem

    module _ (d₂ : List ℕ) (o₂ : ℕ) (p₂ : Put d₁ o₁ v d₂ o₂) where
      behind_second : Rest d at w d₂ o₂ t
      behind_second = piece_put d at w d₁ o₁ v t behind_first_lem d₂ o₂ p₂

      third : o₂ + length t ≤ length d₂
      third = last_room d at w d₂ o₂ t behind_second

      all : (e : List ℕ) (r : ℕ) → Put d₂ o₂ t e r → Put d at w e r
      all = last_put d at w d₂ o₂ t behind_second

-- thousandths: the whole number, a point, three digits
thousandths_is : (n : ℕ) → Pieces (thousandths_text n) (decimal (n / 1000)) (46 ∷ []) (digits 10 3 n)
unfolding thousandths_text
thousandths_is n = record { joined = refl }

module _ (n : ℕ) (d : List ℕ) (at : ℕ) (room : at + length (thousandths_text n) ≤ length d) where
  pub thousandths_1 : at + length (decimal (n / 1000)) ≤ length d
  thousandths_1 = first (thousandths_is n) d at room

  module _ (d₁ : List ℕ) (o₁ : ℕ) (p₁ : Put d at (decimal (n / 1000)) d₁ o₁) where
    pub thousandths_2 : o₁ + 1 ≤ length d₁
    thousandths_2 = second (thousandths_is n) d at room d₁ o₁ p₁

    module _ (d₂ : List ℕ) (o₂ : ℕ) (p₂ : Put d₁ o₁ (46 ∷ []) d₂ o₂) where
      three_room : o₂ + length (digits 10 3 n) ≤ length d₂
      three_room = third (thousandths_is n) d at room d₁ o₁ p₁ d₂ o₂ p₂

      -- room for three digits, so for fewer too
      pub thousandths_3 : (k : ℕ) → leb k 3 ≡ true → o₂ + length (digits 10 k n) ≤ length d₂
      thousandths_3 k h =
          omega (arith, three_room, digits_length 10 3 n, digits_length 10 k n, leb-true k 3 h)

      pub thousandths_put : (e : List ℕ) (r : ℕ) → Put d₂ o₂ (digits 10 3 n) e r → Put d at (thousandths_text n) e r
      thousandths_put = all (thousandths_is n) d at room d₁ o₁ p₁ d₂ o₂ p₂

-- a time: a space, the number, a line feed
time_is : (time : ℕ) → Pieces (time_text time) (32 ∷ []) (decimal time) (10 ∷ [])
unfolding time_text
time_is time = record { joined = refl }

module _ (time : ℕ) (d : List ℕ) (at : ℕ) (room : at + length (time_text time) ≤ length d) where
  pub time_1 : at + 1 ≤ length d
  time_1 = first (time_is time) d at room

  module _ (d₁ : List ℕ) (o₁ : ℕ) (p₁ : Put d at (32 ∷ []) d₁ o₁) where
    pub time_2 : o₁ + length (decimal time) ≤ length d₁
    time_2 = second (time_is time) d at room d₁ o₁ p₁

    module _ (d₂ : List ℕ) (o₂ : ℕ) (p₂ : Put d₁ o₁ (decimal time) d₂ o₂) where
      pub time_3 : o₂ + 1 ≤ length d₂
      time_3 = third (time_is time) d at room d₁ o₁ p₁ d₂ o₂ p₂

      pub time_put : (e : List ℕ) (r : ℕ) → Put d₂ o₂ (10 ∷ []) e r → Put d at (time_text time) e r
      time_put = all (time_is time) d at room d₁ o₁ p₁ d₂ o₂ p₂

-- a space, a value and its time
sample_is : (time x : ℕ) → Pieces (sample_text time x) (32 ∷ []) (value_text x) (time_text time)
unfolding sample_text
sample_is time x = record { joined = refl }

module _ (time x : ℕ) (d : List ℕ) (at : ℕ) (room : at + length (sample_text time x) ≤ length d) where
  pub sample_1 : at + 1 ≤ length d
  sample_1 = first (sample_is time x) d at room

  module _ (d₁ : List ℕ) (o₁ : ℕ) (p₁ : Put d at (32 ∷ []) d₁ o₁) where
    pub sample_2 : o₁ + length (value_text x) ≤ length d₁
    sample_2 = second (sample_is time x) d at room d₁ o₁ p₁

    module _ (d₂ : List ℕ) (o₂ : ℕ) (p₂ : Put d₁ o₁ (value_text x) d₂ o₂) where
      pub sample_3 : o₂ + length (time_text time) ≤ length d₂
      sample_3 = third (sample_is time x) d at room d₁ o₁ p₁ d₂ o₂ p₂

      pub sample_put : (e : List ℕ) (r : ℕ) → Put d₂ o₂ (time_text time) e r → Put d at (sample_text time x) e r
      sample_put = all (sample_is time x) d at room d₁ o₁ p₁ d₂ o₂ p₂
