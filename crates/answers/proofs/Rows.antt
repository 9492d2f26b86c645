-- Rows of an answer, each written into its own part of the readings: row r from r times p on. Assumes nothing.
use Prim.Native.Nat.{ℕ, suc, ◌+◌, ◌-◌, ◌*◌, ◌≤◌, ◌<◌}
use mathlib.Core.Path.{◌≡◌, sym, ap, ◌∙◌}
use mathlib.Core.List.{List, [], ◌∷◌}
use native.Mathlib.Nat.{suc-mul, zero-mul, mul-le-mul}
use native.Mathlib.Numerals.{add-one}
use native.Mathlib.Omega.{arith}
use mir.Syntax.{w64}
use mir.Val.{Fits}
use lib.ListN.{length, get_or, take, drop, length-append, length-take, length-drop}
use borrow.Rule.Slice.PartMut.{put_mid, Post-is}
use Rattle.model.specs.Limits.{max_series, max_points}
use Rattle.model.specs.Lists.{gather}
use Rattle.writing.specs.Written.{written, Put}
use Rattle.side_parts.specs.SideLaws.{row_in}
use Rattle.answers.specs.Outcomes.{starting_with}
use Rattle.answers.proofs.Writing.{Writing, writing_starts, writing_turn, writing_ends}

-- a row of an answer begins and ends at numbers of one word, and so do its bytes
module _ (r p : ℕ) (rows : List ℕ) (h : r < length rows) (k : length rows ≤ max_series) (q : p ≤ max_points) where
  most : r * p ≤ 524288
  most = let few : r ≤ 512 = omega arith in let z : r * p ≤ 512 * 1024 = mul-le-mul few q in omega arith

  pub from_fits : Fits w64 (r * p)
  from_fits = omega (arith, most)

  pub bytes_fit : Fits w64 (r * p * 8)
  bytes_fit = omega (arith, most)

next_row : (r p : ℕ) → r * p + p ≡ (r + 1) * p
next_row r p = rw (add-one, suc-mul)

-- the rows that g gives of the codes are p readings wide
pub record Wide (g : ℕ → List ℕ) (p : ℕ) (rows : List ℕ) : Type 0 where
  pub each : (i : ℕ) → i < length rows → length (g (get_or rows i 0)) ≡ p

pub length-rows : (g : ℕ → List ℕ) (p : ℕ) (rows : List ℕ) → Wide g p rows → length (gather g rows) ≡ length rows * p
length-rows g p [] w = sym (zero-mul p)
length-rows g p (x ∷ rows) w =
    length-append (g x) (gather g rows)
    ∙ rw (w.each 0 (omega arith), length-rows g p rows (record { each = λ i h. w.each (suc i) (omega arith) }), suc-mul) (omega arith)

-- the rows before r are written
pub record RowsWriting (g : ℕ → List ℕ) (p : ℕ) (rows d₀ : List ℕ) (r : ℕ) (d : List ℕ) : Type 0 where
  pub writing : Writing g rows d₀ r d (r * p)
  pub wide : Wide g p rows
  pub room : length rows * p ≤ length d₀

module _ (g : ℕ → List ℕ) (p : ℕ) (rows d₀ : List ℕ) where
  pub rows_start : Wide g p rows → length rows * p ≤ length d₀ → RowsWriting g p rows d₀ 0 d₀
  rows_start w h =
      record {
        writing = rw (zero-mul p) (writing_starts g rows d₀ (omega (arith, length-rows g p rows w)));
        wide = w;
        room = h;
      }

  module _ (r : ℕ) (d : List ℕ) (inv : RowsWriting g p rows d₀ r d) where
    pub rows_length : length d ≡ length d₀
    rows_length = inv.writing.rest.size

    module _ (h : r < length rows) where
      -- the part of row r lies within the readings
      pub row_within : r * p + p ≤ length d
      row_within = omega (arith, row_in r (length rows) p h, rows_length, inv.room)

      pub part_wide : length (take (r * p + p - r * p) (drop (r * p) d)) ≡ p
      part_wide = simp (length-take, length-drop) (omega (arith, row_within))

      put_row : (y : List ℕ) → y ≡ g (get_or rows r 0) → Put d (r * p) (g (get_or rows r 0)) (put_mid (r * p) (r * p + p - r * p) d y) ((r + 1) * p)
      unfolding written
      put_row y e =
          let k : length y ≡ p = ap length e ∙ inv.wide.each r h in
          record {
            out = rw (← e, Post-is (r * p) (r * p + p) d (omega arith), k);
            next = rw (← e, k) (sym (next_row r p));
          }

      pub rows_turn : (y : List ℕ) → y ≡ g (get_or rows r 0) → RowsWriting g p rows d₀ (r + 1) (put_mid (r * p) (r * p + p - r * p) d y)
      rows_turn y e =
          record {
            writing = writing_turn g rows d₀ r d (r * p) inv.writing h (put_mid (r * p) (r * p + p - r * p) d y) ((r + 1) * p) (put_row y e);
            wide = inv.wide;
            room = inv.room;
          }

    pub rows_end : length rows ≤ r → d ≡ starting_with (gather g rows) d₀
    rows_end h = writing_ends g rows d₀ r d (r * p) inv.writing h
