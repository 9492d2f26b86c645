-- A call that ran, printed: its answer lies in the output parts, its text fits, and it is the text of what the call means. Assumes nothing.
use Prim.Native.Nat.{ℕ, ◌*◌, ◌≤◌}
use mathlib.Core.Path.{◌≡◌, refl, ap, ◌∙◌}
use mathlib.Core.List.{List}
use native.Mathlib.Omega.{arith}
use mir.Syntax.{w8, w64}
use mir.Val.{Fits}
use lib.ListN.{length, get_or, take, drop, length-append}
use lib.Seq.{take-append_seam}
use Rattle.model.specs.Vector.{Shape}
use Rattle.semantics.specs.Call as Call
use Rattle.semantics.specs.Call.{refused, answered, call}
use Rattle.theorems.proofs.Valid.{answers_are_valid}
use Rattle.answers.specs.Outcomes.{told, wanted, labels_after, readings_after, starting_with, Ran}
use Rattle.std.specs.Prelude.{Result}
use Rattle.answers.specs.declared.Answer.{Answer}
use Rattle.answers.specs.declared.Numbers.{Numbers}
use Rattle.answers.specs.declared.Refusal.{Refusal}
use Rattle.keyed_sides.specs.TakenSides.{bytes_of, readings_of_lem}
use Rattle.writing.specs.Written.{Put}
use Rattle.vecop_run.specs.outcome_text.Text.{printed}
use Rattle.vecop_run.specs.outcome_text.Told.{told_text, Within}
use Rattle.vecop_run.specs.Vecop.{ran, max_text}
use Rattle.vecop_run.proofs.Sizes.{answer_size, refusal_size}

-- what is told of a call, over output parts that hold its answer
pub record Printable (want : Call.Outcome) (w : Result Answer Numbers) (x y : List ℕ) : Type 0 where
  pub within : Within w x y
  pub text : told_text w x y ≡ printed want
  pub short : length (printed want) ≤ max_text

-- an answer whose readings are as many as its series and points say
pub record Borne (want : Call.Outcome) : Type 0 where
  pub sizes : (n : ℕ) (shape : Shape) (x y : List ℕ) → want ≡ answered n shape x y → length y ≡ n * shape.points

starts : (x d r : List ℕ) → r ≡ starting_with x d → take (length x) r ≡ x
starts x d r e = rw e (take-append_seam x (drop (length x) d))

starts_within : (x d r : List ℕ) → r ≡ starting_with x d → length x ≤ length r
starts_within x d r e = omega (arith, ap length e, length-append x (drop (length x) d))

printable : (want : Call.Outcome) (w : Result Answer Numbers) (x₀ y₀ x y : List ℕ) → Borne want → w ≡ wanted want → x ≡ labels_after want x₀
    → y ≡ readings_after want y₀ → length x ≡ 65535 → length y ≡ 8192 → Printable want w x y
printable (refused k a b) w x₀ y₀ x y v e hx hy lx ly =
    rw e (record { within = record { lies = tt }; text = refl; short = omega (arith, refusal_size k a b) })
printable (answered n shape labels readings) w x₀ y₀ x y v e hx hy lx ly =
    let s : length readings ≡ n * shape.points = v.sizes n shape labels readings refl in
    let wx : length labels ≤ length x = starts_within labels x₀ x hx in
    let wy : length readings ≤ length y = starts_within readings y₀ y hy in
    rw e (
    record {
      within = record { lies = (wx, omega (arith, wy, s)) };
      text = rw (starts labels x₀ x hx, ← s, starts readings y₀ y hy);
      short = omega (arith, answer_size n shape labels readings, wx, wy, lx, ly);
    })

module _ (q ll lr rl rr x₀ y₀ x y : List ℕ) (r : Result Answer Refusal) (hr : Ran (call q ll lr rl rr (length x₀) (length y₀)) x₀ y₀ x y r)
    (bl : (j : ℕ) → Fits w8 (get_or ll j 0)) (wl : (j : ℕ) → Fits w64 (get_or lr j 0)) (br : (j : ℕ) → Fits w8 (get_or rl j 0))
    (wr : (j : ℕ) → Fits w64 (get_or rr j 0))
    (hx : length x₀ ≡ 65535) (hy : length y₀ ≡ 8192) (sx : length x ≡ length x₀) (sy : length y ≡ length y₀) where
  borne : Borne (ran q ll lr rl rr)
  borne =
      record {
        sizes = λ n shape u v e.
            (answers_are_valid q ll lr rl rr (bytes_of ll bl) (readings_of_lem lr wl) (bytes_of rl br) (readings_of_lem rr wr) 65535 8192 n shape u v e).size;
      }

  as_ran : Ran (ran q ll lr rl rr) x₀ y₀ x y r
  as_ran = rw (hx, hy) at hr

  all : Printable (ran q ll lr rl rr) (told r) x y
  all =
      printable (ran q ll lr rl rr) (told r) x₀ y₀ x y borne as_ran.outcome as_ran.label_part as_ran.reading_part (sx ∙ hx) (sy ∙ hy)

  pub run_within : Within (told r) x y
  run_within = all.within

  pub run_room : (d : List ℕ) → max_text ≤ length d → length (told_text (told r) x y) ≤ length d
  run_room d h = omega (arith, ap length all.text, all.short, h)

  pub run_put : (d d' : List ℕ) (k : ℕ) → Put d 0 (told_text (told r) x y) d' k → Put d 0 (printed (ran q ll lr rl rr)) d' k
  run_put d d' k p = rw all.text at p
