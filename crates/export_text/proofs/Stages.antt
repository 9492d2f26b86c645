-- What each stage of an export comes to. Assumes nothing.
use Prim.Native.Nat.{ℕ, ◌+◌, ◌-◌, ◌≤◌, ◌<◌}
use mathlib.Core.Path.{◌≡◌, refl, ap, ◌∙◌}
use mathlib.Core.List.{List}
use native.Mathlib.Omega.{arith}
use native.Mathlib.Nat.{zero-add}
use lib.ListN.{length, take, drop}
use borrow.Author.Tests.{lt-ltb, le-ltb}
use Rattle.std.specs.Prelude.{Result, Ok, Err}
use Rattle.std.specs.Result.{IsErrAnd}
use Rattle.model.specs.Limits.{sizes_length}
use Rattle.model.specs.Vector.{Shape, Vector, take_vector}
use Rattle.exposition.specs.Faults.{first_fault}
use Rattle.exposition.specs.Text.{series_text}
use Rattle.semantics.specs.Exposition.{fitted, export_vector, export_taken, export}
use Rattle.writing.specs.Written.{written, Put}
use Rattle.writing.specs.Measured.{Measured}
use Rattle.timeseries.specs.declared.Vector as Code
use Rattle.timeseries.specs.declared.VectorFault.{VectorFault}
use Rattle.timeseries.specs.record_walk.Walks.{fault_number, fault_place}
use Rattle.timeseries.specs.Takes.{TakenInto}
use Rattle.timeseries.specs.TakeLaws.{taken_refused}
use Rattle.answers.specs.declared.Numbers.{Numbers}
use Rattle.answers.specs.declared.Refusal.{Refusal}
use Rattle.answers.specs.Outcomes.{starting_with, numbers, numbers_of}
use Rattle.keyed_sides.specs.TakenSides.{lent_vector, Took}
use Rattle.vector_faults.proofs.Faults.{numbered}
use Rattle.exposed_faults.specs.Fits.{fit_number}
use Rattle.export_text.specs.declared.vector_lines.Fault.{Fault}
use Rattle.export_text.specs.Found.{fault_found}
use Rattle.export_text.specs.Exports.{Exports}

-- a text that fits, or not
module _ (t d : List ℕ) (k : ℕ) (hk : Measured t 26422798188544 k) where
  pub exports_long : length d < k → (r : Numbers) → r ≡ numbers 10 0 0 → Exports (fitted (length d) t) d d (Err r)
  exports_long h r e =
      rw (lt-ltb (length d) (length t) (omega (arith, hk.size))) (record { outcome = ap Err e; part = refl })

  module _ (h : k ≤ length d) where
    pub text_fits : length t ≤ length d
    text_fits = omega (arith, hk.size)

    pub exports_text : (d' : List ℕ) (r : ℕ) → Put d 0 t d' r → Exports (fitted (length d) t) d d' (Ok r)
    exports_text d' r q =
        rw (le-ltb (length d) (length t) text_fits)
        (record { outcome = ap Ok (q.next ∙ zero-add (length t)); part = behind })
      where
        behind : d' ≡ starting_with t d
        behind = unfold written in q.out ∙ rw zero-add

-- the first fault, or none
module _ (v : Vector) (d : List ℕ) where
  pub exports_faulty : (f : Fault) → fault_found (Err f) ≡ first_fault 0 v.series → (r : Result ℕ Numbers)
      → IsErrAnd r (λ e. e ≡ numbers (fit_number (Err f.unfit)) 0 f.place) → Exports (export_vector (length d) v) d d r
  unfolding export_vector
  exports_faulty f hx (Ok n) h = absurd h
  exports_faulty f hx (Err e) h = rw (← hx) (record { outcome = ap Err h; part = refl })

  pub exports_sound : fault_found (Ok tt) ≡ first_fault 0 v.series → (d' : List ℕ) (r : Result ℕ Numbers)
      → Exports (fitted (length d) (series_text v.shape v.series)) d d' r → Exports (export_vector (length d) v) d d' r
  unfolding export_vector
  exports_sound hx d' r k = rw (← hx) k

-- a vector, refused or taken
module _ (s x d : List ℕ) where
  export_is : export s x (length d) ≡ export_taken (length d) (take_vector 0 s x)
  unfolding export
  export_is = refl

  pub exports_fault : (before after : List ℕ) (t : Result Code.Vector VectorFault) → TakenInto s x before t after
      → (fault : VectorFault) → t ≡ Err fault → (y : Refusal) → numbers_of y ≡ numbers (fault_number fault) 0 (fault_place fault)
      → (r : Numbers) → r ≡ numbers_of y → Exports (export s x (length d)) d d (Err r)
  exports_fault before after t into fault e y told r h =
      rw (export_is, taken_refused 0 s x t into.answer (rw e (numbered fault)), e)
      (record { outcome = ap Err (h ∙ told); part = refl })

  pub exports_taken : (after : List ℕ) (n : ℕ) (shape : Shape) → Took 0 s x after n shape → (d' : List ℕ) (r : Result ℕ Numbers)
      → Exports
      (export_vector (length d) (lent_vector shape (take (length s - sizes_length) (drop sizes_length s)) (take (n + 1) after) x))
      d d' r
      → Exports (export s x (length d)) d d' r
  exports_taken after n shape took d' r k = rw (export_is, took.vector) k
