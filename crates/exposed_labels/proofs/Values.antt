-- The bytes of a tag value, escaped: measured, and written. Assumes nothing.
use Prim.Native.Nat.{ℕ, ◌≤◌, ◌<◌, ◌+◌, ◌*◌, ◌^◌}
use mathlib.Core.Path.{◌≡◌, refl, ap, ◌∙◌}
use mathlib.Core.Bool.{Bool, true, false, ◌||◌, cond}
use mathlib.Core.List.{List, [], ◌∷◌}
use native.Mathlib.Omega.{arith}
use mir.Syntax.{w64}
use mir.Val.{Fits}
use lib.Dec.{eqb}
use lib.ListN.{length, get_or, set, length-append, length-set}
use lib.Seq.{set-set}
use borrow.Author.Tests.{eqb-true}
use Rattle.std.specs.List.{sum_by}
use Rattle.std.proofs.lemmas.List.Recursion.{is_sum_by}
use Rattle.model.specs.Lists.{cases}
use Rattle.writing.specs.Written.{written, Put}
use Rattle.writing.specs.Measured.{Measured}
use Rattle.writing.proofs.Written.{written_cons, put_one}
use Rattle.writing.proofs.Runs.{GatherLeft, gather_room, gather_turn}
use Rattle.exposition.specs.Text.{escaped, escaped_all}
use Rattle.exposed_labels.specs.Pieces.{letter}

-- a byte is written as itself, behind a backslash or not
module _ (b : ℕ) where
  abbrev special : Bool
  special = eqb b 92 || (eqb b 34 || eqb b 10)

  alike : escaped b ≡ cond special (92 ∷ letter b ∷ []) (letter b ∷ [])
  unfolding escaped
  alike =
      cases (eqb b 92) (λ e. rw (eqb-true b 92 e))
      (λ e. cases (eqb b 34) (λ f. rw (eqb-true b 34 f))
      (λ f. cases (eqb b 10) (λ g. rw (e, f, g)) (λ g. rw (e, f, g))))

  two_bytes_lem : special ≡ true → escaped b ≡ 92 ∷ letter b ∷ []
  two_bytes_lem e = alike ∙ rw e

  one_byte : special ≡ false → escaped b ≡ letter b ∷ []
  one_byte e = alike ∙ rw e

  some_bytes : 1 ≤ length (escaped b)
  some_bytes =
      cases special (λ e. omega (arith, ap length (two_bytes_lem e))) (λ e. omega (arith, ap length (one_byte e)))

  few_bytes_lem : length (escaped b) ≤ 2
  few_bytes_lem =
      cases special (λ e. omega (arith, ap length (two_bytes_lem e))) (λ e. omega (arith, ap length (one_byte e)))

-- `value_size`
abbrev pub escaped_size : ℕ → ℕ
escaped_size b = length (escaped b)

sizes : (s : List ℕ) → length (escaped_all s) ≡ sum_by escaped_size s
sizes s = is_sum_by (λ t. length (escaped_all t)) escaped_size refl (λ b t. length-append (escaped b) (escaped_all t)) s

pub few : (s : List ℕ) → length (escaped_all s) ≤ 2 * length s
few [] = omega arith
few (b ∷ s) = omega (arith, length-append (escaped b) (escaped_all s), few_bytes_lem b, few s)

pub value_measured : (s : List ℕ) (n : ℕ) → n ≡ sum_by escaped_size s → length s ≤ 65535
    → Measured (escaped_all s) 131070 n
value_measured s n e h = record { size = omega (arith, e, sizes s); small = omega (arith, e, sizes s, few s) }

-- two bytes that are stored
pub put_two : (d : List ℕ) (o a b : ℕ) → o + 2 ≤ length d → Put d o (a ∷ b ∷ []) (set (set d o a) (o + 1) b) (o + 2)
put_two d o a b h =
    record {
      out = put_one (set d o a) (o + 1) b (omega (arith, length-set d o a)) ∙ written_cons d o a (b ∷ []) (omega arith);
      next = refl;
    }

-- the loop of `put_value`
module _ (b : ℕ) (d : List ℕ) (o : ℕ) (room : o + length (escaped b) ≤ length d)
    (k : ℕ) (hk : Measured (escaped b) 2 (k + 1)) where
  stored : set (set d o 92) (o + k) (letter b) ≡ written d o (escaped b)
  stored =
      cases (special b)
      (λ e.
      let one : k ≡ 1 = omega (arith, hk.size, ap length (two_bytes_lem b e)) in
      rw (two_bytes_lem b e, one) (put_two d o 92 (letter b) (omega (arith, room, ap length (two_bytes_lem b e)))).out)
      (λ e.
      let none : o + k ≡ o = omega (arith, hk.size, ap length (one_byte b e)) in
      rw (one_byte b e, none, set-set) (put_one d o (letter b) (omega (arith, room, ap length (one_byte b e)))))

  byte_put : Put d o (escaped b) (set (set d o 92) (o + k) (letter b)) (o + k + 1)
  byte_put = record { out = stored; next = omega (arith, hk.size) }

module _ (s d₀ : List ℕ) (at : ℕ) (d : List ℕ) (i o : ℕ) (inv : GatherLeft escaped s d₀ at d i o)
    (h : i < length s) where
  abbrev byte : ℕ
  byte = get_or s i 0

  room : o + length (escaped byte) ≤ length d
  room = gather_room escaped s d₀ at d i o inv h

  pub first_in : o < length d
  first_in = omega (arith, room, some_bytes byte)

  module _ (k : ℕ) (hk : Measured (escaped byte) 2 (k + 1)) where
    pub second_in : o + k < length (set d o 92)
    second_in = omega (arith, room, hk.size, length-set d o 92)

    pub second_fits : length d₀ < 2 ^ 64 → Fits w64 (o + k)
    second_fits g = omega (arith, second_in, length-set d o 92, inv.rest.size)

    pub behind_fits : length d₀ < 2 ^ 64 → Fits w64 (o + k + 1)
    behind_fits g = omega (arith, second_in, length-set d o 92, inv.rest.size)

    pub value_put : (l : ℕ) → l ≡ letter byte
        → GatherLeft escaped s d₀ at (set (set d o 92) (o + k) l) (i + 1) (o + k + 1)
    value_put l hl =
        rw hl
        (gather_turn escaped s d₀ at d i o inv h (set (set d o 92) (o + k) (letter byte)) (o + k + 1)
        (byte_put byte d o room k hk))
