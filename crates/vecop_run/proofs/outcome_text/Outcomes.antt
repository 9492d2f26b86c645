-- An outcome by the number that the code gives it. Assumes nothing.
use Prim.Native.Nat.{ℕ, ◌≤◌, ◌<◌, ◌*◌, ◌^◌}
use mathlib.Core.Path.{◌≡◌, sym, ◌∙◌}
use mathlib.Core.List.{List}
use native.Mathlib.Omega.{arith}
use mir.Syntax.{w64}
use mir.Val.{Fits}
use lib.ListN.{length, take}
use lib.Seq.{length-take-le}
use Rattle.std.specs.Prelude.{Result, Ok, Err}
use Rattle.side_parts.specs.Lent.{shape_of}
use Rattle.answers.specs.declared.Answer.{Answer}
use Rattle.answers.specs.declared.Numbers.{Numbers}
use Rattle.writing.specs.Written.{Put}
use Rattle.vecop_run.specs.outcome_text.Text.{answer_text, refusal_text}
use Rattle.vecop_run.specs.outcome_text.Told.{told_text, Within}

module _ (w : Result Answer Numbers) (x y d : List ℕ) (t : Result Answer Numbers) (ht : t ≡ w) where
  module _ (a : Answer) (e : t ≡ Ok a) where
    is_answer : w ≡ Ok a
    is_answer = sym ht ∙ e

    module _ (lies : Within w x y) where
      inside : Within (Ok a) x y
      inside = rw is_answer at lies

      pub bytes_measured : a.bytes ≡ length (take a.bytes x)
      bytes_measured = sym (length-take-le a.bytes x inside.lies.0)

      readings_within : a.series * a.shape.points ≤ length y
      readings_within = inside.lies.1

      pub readings_measured : a.series * a.shape.points ≡ length (take (a.series * a.shape.points) y)
      readings_measured = sym (length-take-le (a.series * a.shape.points) y readings_within)

      pub readings_fit : length y < 2 ^ 64 → Fits w64 (a.series * a.shape.points)
      readings_fit h = omega (arith, readings_within, h)

      pub readings_there : a.series * a.shape.points ≤ length (take (a.series * a.shape.points) y)
      readings_there = omega (arith, length-take-le (a.series * a.shape.points) y readings_within)

    pub answer_room : length (told_text w x y) ≤ length d
        → length (answer_text a.series (shape_of a.shape) (take a.bytes x) (take (a.series * a.shape.points) y)) ≤ length d
    answer_room h = rw is_answer at h

    pub answer_told : (d' : List ℕ) (r : ℕ)
        → Put d 0 (answer_text a.series (shape_of a.shape) (take a.bytes x) (take (a.series * a.shape.points) y)) d' r
        → Put d 0 (told_text w x y) d' r
    answer_told d' r q = rw is_answer q

  module _ (a : Numbers) (e : t ≡ Err a) where
    is_refusal : w ≡ Err a
    is_refusal = sym ht ∙ e

    pub refusal_room : length (told_text w x y) ≤ length d → length (refusal_text a.number a.first a.second) ≤ length d
    refusal_room h = rw is_refusal at h

    pub refusal_told : (d' : List ℕ) (r : ℕ) → Put d 0 (refusal_text a.number a.first a.second) d' r
        → Put d 0 (told_text w x y) d' r
    refusal_told d' r q = rw is_refusal q
