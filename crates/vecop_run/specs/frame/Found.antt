-- The parts as the code finds them, by their places. Assumes nothing.
use Rattle.std.specs.Prelude.{ℕ, ◌+◌, ◌-◌, ◌≤◌, ◌≡◌, List, length, take, drop}
use Rattle.std.specs.Prelude.{Some, None}
use Rattle.std.specs.declared.option.Option.{Option}
use Rattle.fields.specs.declared.Span.{Span}
use Rattle.vecop_run.specs.frame.Frames.{Part, part, cut_part, read_part, Framed, three, unreadable, framed, max_input}
use Rattle.vecop_run.specs.frame.Sides.{labels_in, reading_bytes}
use Rattle.vecop_run.specs.declared.frame.Parts.{Parts}

abbrev pub part_at : List ℕ → Option Span → Part
part_at s (Some x) = part (take (x.end - x.start) (drop x.start s)) (drop x.end s)
part_at s None = cut_part

abbrev pub PartWithin : List ℕ → ℕ → Option Span → Type 0
PartWithin s at (Some x) = (x.start ≡ at + 4) × (x.start ≤ x.end) × (x.end ≤ length s)
PartWithin s at None = Unit {0}

-- x is the place of the part whose length stands at a place
pub record PartFound (s : List ℕ) (at : ℕ) (x : Option Span) : Type 0 where
  pub read : read_part (drop at s) ≡ part_at s x
  pub within : PartWithin s at x

-- the three parts from the ends of the first two: each starts behind its length, and the third ends with the input
abbrev pub framed_at : List ℕ → Option Parts → Framed
framed_at s (Some x) =
    three (take (x.query - 4) (drop 4 s)) (take (x.left - (x.query + 4)) (drop (x.query + 4) s)) (drop (x.left + 4) s)
framed_at s None = unreadable

abbrev pub PartsWithin : List ℕ → Option Parts → Type 0
PartsWithin s (Some x) = (4 ≤ x.query) × (x.query + 4 ≤ x.left) × (x.left + 4 ≤ length s) × (length s ≤ max_input)
PartsWithin s None = Unit {0}

pub record PartsFound (s : List ℕ) (x : Option Parts) : Type 0 where
  pub parts : framed s ≡ framed_at s x
  pub within : PartsWithin s x

-- the label part of a vector's part ends at e
pub record Split (v : List ℕ) (e : ℕ) : Type 0 where
  pub labels : take e v ≡ labels_in v
  pub readings : drop e v ≡ reading_bytes v
  pub within : e ≤ length v
