-- A part found at a place, and three of them. Assumes nothing.
use Prim.Native.Nat.{ℕ, ◌+◌, ◌-◌, ◌≤◌, ◌<◌}
use mathlib.Core.Path.{◌≡◌, refl, sym, ◌∙◌}
use mathlib.Core.List.{List, []}
use native.Mathlib.Omega.{arith}
use lib.ListN.{length, take, drop, length-drop, drop_of_length-le}
use lib.Seq.{drop-cons, drop-drop, take_all}
use borrow.Author.Tests.{le-leb, lt-leb}
use Rattle.std.specs.Prelude.{Some, None}
use Rattle.std.specs.declared.option.Option.{Option}
use Rattle.fields.specs.Fields.{some_span}
use Rattle.fields.specs.declared.Span.{Span}
use Rattle.vecop_run.specs.frame.Frames.{part, read_part, ending, framed, max_input}
use Rattle.model.specs.Vector.{four_bytes_at}
use Rattle.little_endian.specs.Numbers.{Read}
use Rattle.vecop_run.specs.frame.Found.{PartFound, PartsFound}
use Rattle.vecop_run.specs.declared.frame.Parts.{Parts}
use Rattle.vecop_run.proofs.frame.Numbers.{four_here}

module _ (s : List ℕ) (at : ℕ) (ha : at ≤ length s) where
  pub length_cut : length s - at < 4 → PartFound s at None
  unfolding read_part
  length_cut h = record { read = rw (lt-leb 4 (length (drop at s)) (omega (arith, length-drop at s))); within = tt }

  module _ (h4 : 4 ≤ length s - at) (n : ℕ) (hn : Read (four_bytes_at s at) 4294967296 n) where
    whole : length (drop 4 (drop at s)) ≡ length s - (at + 4)
    whole = omega (arith, length-drop 4 (drop at s), length-drop at s)

    size : four_bytes_at (drop at s) 0 ≡ n
    size = four_here s at ∙ sym hn.value

    pub part_here : n ≤ length s - (at + 4) → PartFound s at (some_span (at + 4) (at + 4 + n))
    unfolding read_part
    part_here h =
        let e : at + 4 + n - (at + 4) ≡ n = omega arith in
        record {
          read = rw (
            le-leb 4 (length (drop at s)) (omega (arith, length-drop at s)),
            size,
            le-leb n (length (drop 4 (drop at s)))
                (omega (arith, whole)),
            drop-drop 4 at s,
            drop-drop n (at + 4) s,
            e,
          );
          within = (refl, omega arith, omega arith);
        }

    pub part_cut : length s - (at + 4) < n → PartFound s at None
    unfolding read_part
    part_cut h =
        record {
          read = rw
              (le-leb 4 (length (drop at s)) (omega (arith, length-drop at s)), size, lt-leb n (length (drop 4 (drop at s))) (omega (arith, whole)));
          within = tt;
        }

-- a part that was found, by its place
pub record Standing (s : List ℕ) (at end : ℕ) : Type 0 where
  pub read : read_part (drop at s) ≡ part (take (end - (at + 4)) (drop (at + 4) s)) (drop end s)
  pub order : at + 4 ≤ end
  pub within : end ≤ length s

stands : (s : List ℕ) (at : ℕ) (x : Span) → PartFound s at (Some x) → Standing s at x.end
stands s at x f =
    record { read = rw (← f.within.0) f.read; order = omega (arith, f.within.0, f.within.1); within = f.within.2 }

pub part_end_lem : (s : List ℕ) (at : ℕ) (x : Span) → PartFound s at (Some x) → x.end ≤ length s
part_end_lem s at x f = f.within.2

pub input_long : (s : List ℕ) → max_input < length s → PartsFound s None
unfolding framed
input_long s h = record { parts = rw (lt-leb (length s) max_input h); within = tt }

-- what a part that is cut leaves of the answer r
module _ (s : List ℕ) (short : length s ≤ max_input) (r : Option Parts) (none : r ≡ None) where
  pub first_cut : PartFound s 0 None → PartsFound s r
  unfolding framed
  first_cut f = rw none (record { parts = rw (le-leb (length s) max_input short, f.read); within = tt })

  module _ (a : Span) (fa : PartFound s 0 (Some a)) where
    pub second_cut : PartFound s a.end None → PartsFound s r
    unfolding framed
    second_cut f =
        rw none (record { parts = rw (le-leb (length s) max_input short, (stands s 0 a fa).read, f.read); within = tt })

    pub third_cut : (b : Span) → PartFound s a.end (Some b) → PartFound s b.end None → PartsFound s r
    unfolding framed
    third_cut b fb f =
        rw none
        (record {
          parts = rw (le-leb (length s) max_input short, (stands s 0 a fa).read, (stands s a.end b fb).read, f.read);
          within = tt;
        })

-- three parts, and what follows them
module _ (s : List ℕ) (short : length s ≤ max_input) (a b d : Span) (fa : PartFound s 0 (Some a))
    (fb : PartFound s a.end (Some b)) (fd : PartFound s b.end (Some d)) where
  first : Standing s 0 a.end
  first = stands s 0 a fa

  second : Standing s a.end b.end
  second = stands s a.end b fb

  third : Standing s b.end d.end
  third = stands s b.end d fd

  all_read : framed s
      ≡ ending (take (a.end - 4) (drop 4 s)) (take (b.end - (a.end + 4)) (drop (a.end + 4) s))
      (take (d.end - (b.end + 4)) (drop (b.end + 4) s)) (drop d.end s)
  unfolding framed
  all_read = rw (le-leb (length s) max_input short, first.read, second.read, third.read)

  pub left_over : (d.end ≡ length s → ⊥) → PartsFound s None
  left_over h =
      let more : d.end < length s = lt_of third.within h in
      record { parts = all_read ∙ rw (drop-cons s d.end 0 more); within = tt }
    where
      lt_of : d.end ≤ length s → (d.end ≡ length s → ⊥) → d.end < length s
      lt_of g k = omega (arith, g, k)

  pub three_parts : d.end ≡ length s → PartsFound s (Some (record { query = a.end; left = b.end }))
  three_parts h =
      let all : take (d.end - (b.end + 4)) (drop (b.end + 4) s) ≡ drop (b.end + 4) s =
      take_all (d.end - (b.end + 4)) (drop (b.end + 4) s) (omega (arith, length-drop (b.end + 4) s)) in
      let none : drop d.end s ≡ [] = drop_of_length-le s {i = d.end} (omega arith) in
      record {
        parts = all_read ∙ rw (all, none);
        within = (first.order, second.order, omega (arith, third.order, h), short);
      }
