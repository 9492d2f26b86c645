-- The outcomes of an export, each under its condition: claimed in Claims.Exports. Assumes nothing.
use Rattle.std.specs.Prelude.{ℕ, suc, ◌+◌, ◌≡◌, refl, true, false, List, [], ◌∷◌, ◌++◌, ltb, length}
use Rattle.std.proofs.Common.{◌∙◌, arith, zero-add, ltb-true, ltb-false, lt-ltb, le-ltb}
use Rattle.std.proofs.Math.Path.{ap}
use Rattle.model.specs.Lists.{cases, All}
use Rattle.model.specs.Vector.{Series, Vector, TakenVector, vector, faulty, take_vector}
use Rattle.model.proofs.Laws.Faults.{FaultNumber, three_to_five, eleven, fault_of_lem}
use Rattle.exposition.specs.Faults.{good_labels, some_too_large, fault_of, Fault, sound, fault, first_fault}
use Rattle.semantics.specs.Exposition.{refused, written, fitted, judged, export_vector, export_taken, export}
use Rattle.theorems.specs.Claims.Exports.{Printable, text_of, ExportOutcome, number_3_to_5, number_11, number_15}
use Rattle.theorems.specs.Claims.Exports.{number_16, number_10, text_written, EveryExport, NoOtherExport}

-- what the first fault of series from the place i on says of them
data Judged (i : ℕ) (ss : List Series) : Fault → Type 0 where
  all_printable : All Printable ss → Judged i ss sound
  labels_at : (before : List Series) (s : Series) (after : List Series) → ss ≡ before ++ (s ∷ after) → All Printable before
      → good_labels s.labels ≡ false → (n : ℕ) → n ≡ i + length before → Judged i ss (fault 15 n)
  reading_at_lem : (before : List Series) (s : Series) (after : List Series) → ss ≡ before ++ (s ∷ after) → All Printable before
      → good_labels s.labels ≡ true → some_too_large s.row ≡ true → (n : ℕ) → n ≡ i + length before
      → Judged i ss (fault 16 n)

-- the first series of several

module _ (i : ℕ) (s : Series) (ss : List Series) where
  bad_first : good_labels s.labels ≡ false → first_fault i (s ∷ ss) ≡ fault 15 i
  unfolding first_fault fault_of
  bad_first g = rw g

  large_first : good_labels s.labels ≡ true → some_too_large s.row ≡ true → first_fault i (s ∷ ss) ≡ fault 16 i
  unfolding first_fault fault_of
  large_first g t = rw (g, t)

  printable_first : Printable s → first_fault i (s ∷ ss) ≡ first_fault (suc i) ss
  unfolding first_fault fault_of
  printable_first p = rw (p.labels, p.readings)

no_fault : (i : ℕ) → first_fault i [] ≡ sound
unfolding first_fault
no_fault i = refl

-- one more printable series in front
in_front : (i : ℕ) (s : Series) (ss : List Series) (f : Fault) → Printable s → Judged (suc i) ss f → Judged i (s ∷ ss) f
in_front i s ss f p (all_printable a) = all_printable (p, a)
in_front i s ss f p (labels_at before b after e a g n h) =
    labels_at (s ∷ before) b after (ap (λ (l : List Series). s ∷ l) e) (p, a) g n (omega (arith, h))
in_front i s ss f p (reading_at_lem before b after e a g t n h) =
    reading_at_lem (s ∷ before) b after (ap (λ (l : List Series). s ∷ l) e) (p, a) g t n (omega (arith, h))

judge : (i : ℕ) (ss : List Series) → Judged i ss (first_fault i ss)
judge i [] = rw (no_fault i) (all_printable tt)
judge i (s ∷ ss) =
    cases (good_labels s.labels)
    (λ g. cases (some_too_large s.row)
    (λ t. rw (large_first i s ss g t) (reading_at_lem [] s ss refl tt g t i (omega arith)))
    (λ t. let p : Printable s = record { labels = g; readings = t } in
    rw (printable_first i s ss p) (in_front i s ss (first_fault (suc i) ss) p (judge (suc i) ss))))
    (λ g. rw (bad_first i s ss g) (labels_at [] s ss refl tt g i (omega arith)))

-- and what series say of their first fault

behind : (i : ℕ) (before rest : List Series) → All Printable before → first_fault i (before ++ rest) ≡ first_fault (i + length before) rest
behind i [] rest a = let e : i ≡ i + 0 = omega arith in ap (λ (n : ℕ). first_fault n rest) e
behind i (b ∷ before) rest a =
    let e : suc i + length before ≡ i + suc (length before) = omega arith in
    printable_first i b (before ++ rest) a.0 ∙ behind (suc i) before rest a.1 ∙ ap (λ (n : ℕ). first_fault n rest) e

at_first : (before : List Series) (s : Series) (after : List Series) → All Printable before
    → first_fault 0 (before ++ (s ∷ after)) ≡ first_fault (length before) (s ∷ after)
at_first before s after a =
    behind 0 before (s ∷ after) a ∙ ap (λ (n : ℕ). first_fault n (s ∷ after)) (zero-add (length before))

printable_sound : (i : ℕ) (ss : List Series) → All Printable ss → first_fault i ss ≡ sound
printable_sound i [] a = no_fault i
printable_sound i (s ∷ ss) a = printable_first i s ss a.0 ∙ printable_sound (suc i) ss a.1

-- an export of what was taken

module _ (x y : List ℕ) (room : ℕ) where
  export_is : (t : TakenVector) → take_vector 0 x y ≡ t → export x y room ≡ export_taken room t
  unfolding export
  export_is t e = ap (export_taken room) e

  vector_is : (v : Vector) (f : Fault) → first_fault 0 v.series ≡ f → export_vector room v ≡ judged f (fitted room (text_of v))
  unfolding export_vector
  vector_is v f e = ap (λ (g : Fault). judged g (fitted room (text_of v))) e

  of_vector : (v : Vector) → take_vector 0 x y ≡ vector v → (f : Fault) → Judged 0 v.series f
      → ExportOutcome x y room (judged f (fitted room (text_of v)))
  of_vector v e sound (all_printable a) =
      cases (ltb room (length (text_of v)))
      (λ l. rw l (number_10 v e a (ltb-true room (length (text_of v)) l)))
      (λ l. rw l (text_written v e a (ltb-false room (length (text_of v)) l)))
  of_vector v e (fault k n) (labels_at before s after h a g m h') =
      rw (h', zero-add) (number_15 v.shape before s after (e ∙ ap (λ (ss : List Series). vector (record { shape = v.shape; series = ss })) h) a g)
  of_vector v e (fault k n) (reading_at_lem before s after h a g t m h') =
      rw (h', zero-add) (number_16 v.shape before s after (e ∙ ap (λ (ss : List Series). vector (record { shape = v.shape; series = ss })) h) a g t)

  of_taken : (t : TakenVector) → take_vector 0 x y ≡ t → ExportOutcome x y room (export_taken room t)
  of_taken (vector v) e = rw (vector_is v (first_fault 0 v.series) refl) (of_vector v e (first_fault 0 v.series) (judge 0 v.series))
  of_taken (faulty n side i) e =
      let k = fault_of_lem 0 x y n side i e in
      rw k.names (numbered n i (e ∙ ap (λ (z : ℕ). faulty n z i) k.names) k.number)
    where
      numbered : (n i : ℕ) → take_vector 0 x y ≡ faulty n 0 i → FaultNumber n i → ExportOutcome x y room (refused n 0 i)
      numbered n i e (three_to_five h k) = number_3_to_5 n i h k e
      numbered n i e (eleven h k) = rw (h, k) (number_11 (rw (h, k) at e))

pub every_export : EveryExport
every_export x y room = rw (export_is x y room (take_vector 0 x y) refl) (of_taken x y room (take_vector 0 x y) refl)

pub no_other_export : NoOtherExport
no_other_export x y room o (number_3_to_5 n i h k e) = export_is x y room (faulty n 0 i) e
no_other_export x y room o (number_11 e) = export_is x y room (faulty 11 0 0) e
no_other_export x y room o (number_15 shape before s after e a g) =
    export_is x y room _ e
    ∙ vector_is x y room _ (fault 15 (length before)) (at_first before s after a ∙ bad_first (length before) s after g)
no_other_export x y room o (number_16 shape before s after e a g t) =
    export_is x y room _ e
    ∙ vector_is x y room _ (fault 16 (length before)) (at_first before s after a ∙ large_first (length before) s after g t)
no_other_export x y room o (number_10 v e a l) =
    export_is x y room _ e ∙ vector_is x y room v sound (printable_sound 0 v.series a) ∙ rw (lt-ltb room (length (text_of v)) l)
no_other_export x y room o (text_written v e a l) =
    export_is x y room _ e ∙ vector_is x y room v sound (printable_sound 0 v.series a) ∙ rw (le-ltb room (length (text_of v)) l)
