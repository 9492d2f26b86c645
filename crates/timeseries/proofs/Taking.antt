-- `take_vector`, a lemma for each way out. Assumes nothing.
use Prim.Native.Nat.{ℕ, ◌-◌, ◌*◌, ◌≤◌, ◌<◌}
use mathlib.Core.Path.{◌≡◌, refl, sym, ap, ◌∙◌}
use mathlib.Core.Bool.{Bool, true, false, not}
use mathlib.Core.List.{List}
use native.Mathlib.Nat.{mul-le-mul_left, mul-le-mul_right, le_trans}
use native.Mathlib.Omega.{arith}
use mir.Syntax.{w64}
use mir.Val.{Fits}
use lib.Dec.{leb, ltb, eqb}
use lib.ListN.{length, take, drop, length-drop}
use lib.Seq.{take_all, sets}
use borrow.Author.Tests.{le-leb, lt-leb, le-ltb, lt-ltb, leb-true, leb-false, eq-eqb, ne_eqb, not-true, not-false}
use Rattle.model.specs.Limits.{sizes_length, max_start, max_step}
use Rattle.model.specs.Vector.{Shape, Records, records, bad_record, records_in, series_of, with_readings}
use Rattle.model.specs.Vector.{two_bytes_at, shape_in, good_grid, take_vector}
use Rattle.model.proofs.Laws.Vector.{records_read, series_count_lem}
use Rattle.timeseries.specs.record_walk.Walks as Walks
use Rattle.timeseries.specs.record_walk.Walks.{whole, fault_number, fault_place, walk_answer, records_answer, WalkedInto}
use Rattle.side_parts.specs.declared.Shape as Code
use Rattle.side_parts.specs.Lent.{shape_of}
use Rattle.timeseries.specs.Takes.{sizes, fault, taken_answer, vector_answer, noted_in, TakenInto}
use Rattle.std.specs.Prelude.{Result, Ok, Err, ⊤}
use Rattle.timeseries.specs.declared.Vector as CodeVector
use Rattle.timeseries.specs.declared.VectorFault.{VectorFault}
use Rattle.timeseries.specs.declared.VectorFault.TheVariants as T

not_more : (m n : ℕ) (b : Bool) → leb m n ≡ b → ltb n m ≡ not b
not_more m n true e = le-ltb n m (leb-true m n e)
not_more m n false e = lt-ltb n m (leb-false m n e)

-- the tests of a grid
module _ (x : Code.Shape) where
  pub late : max_start < x.start → true ≡ not (good_grid (shape_of x))
  late h = rw (lt-leb x.start max_start h)

  module _ (g : x.start ≤ max_start) where
    pub still : x.step < 1 → true ≡ not (good_grid (shape_of x))
    still h = rw (le-leb x.start max_start g, lt-leb 1 x.step h)

    pub steady : 1 ≤ x.step → ltb max_step x.step ≡ not (good_grid (shape_of x))
    steady h =
        rw (le-leb x.start max_start g, le-leb 1 x.step h)
        (not_more x.step max_step (leb x.step max_step) refl)

pub product_fits : (n p : ℕ) → n ≤ 512 → p ≤ 1024 → Fits w64 (n * p)
product_fits n p h k = omega (arith, le_trans (mul-le-mul_left n k) (mul-le-mul_right 1024 h))

-- what the records come to, by what the walk found

whole_unread : (n : ℕ) (shape : Shape) (x : List ℕ) (o : Records) → whole ≡ records_answer o
    → (length x ≡ n * shape.points → ⊥) → fault 5 0 ≡ vector_answer (with_readings 0 n shape x o)
whole_unread n shape x (records ls) e h = rw (ne_eqb (length x) (n * shape.points) h)
whole_unread n shape x (bad_record k i) e h = absurd (let z : ◌≡◌ {A = ℕ} 0 1 = cc in omega arith)

whole_read : (n : ℕ) (shape : Shape) (s x : List ℕ) (o : Records) → records_in n 0 s ≡ o → whole ≡ records_answer o
    → length x ≡ n * shape.points → sizes n shape ≡ vector_answer (with_readings 0 n shape x o)
whole_read n shape s x (records ls) f e h =
    let count : length (series_of shape.points ls x) ≡ n =
    series_count_lem shape.points ls x ∙ (records_read n 0 s ls f).count in
    rw (eq-eqb (length x) (n * shape.points) h, count)
whole_read n shape s x (bad_record k i) f e h = absurd (let z : ◌≡◌ {A = ℕ} 0 1 = cc in omega arith)

record_fault : (n : ℕ) (shape : Shape) (x : List ℕ) (o : Records) (k i : ℕ) → Walks.fault k i ≡ records_answer o
    → fault k i ≡ vector_answer (with_readings 0 n shape x o)
record_fault n shape x (records ls) k i e = absurd (let z : ◌≡◌ {A = ℕ} 0 1 = cc in omega arith)
record_fault n shape x (bad_record l j) k i e = cc

module _ (s x before : List ℕ) where
  pub take-cut : length s < sizes_length → TakenInto s x before (Err (T.Cut 0)) before
  unfolding take_vector
  take-cut h = record { answer = rw (lt-leb sizes_length (length s) h); positions = rw (lt-leb sizes_length (length s) h) }

  module _ (h18 : sizes_length ≤ length s) (n : ℕ) (hn : n ≡ two_bytes_at s 0) where
    long_enough : leb sizes_length (length s) ≡ true
    long_enough = le-leb sizes_length (length s) h18

    pub take-many : 512 < n → TakenInto s x before (Err (T.Cut 0)) before
    unfolding take_vector
    take-many h =
        let many = lt-leb (two_bytes_at s 0) 512 (omega arith) in
        record { answer = rw (long_enough, many); positions = rw (long_enough, many) }

    module _ (few : n ≤ 512) (shape : Code.Shape) (stated : shape_of shape ≡ shape_in s) where
      few_enough : leb (two_bytes_at s 0) 512 ≡ true
      few_enough = le-leb (two_bytes_at s 0) 512 (omega arith)

      points_so : shape.points ≡ two_bytes_at s 2
      points_so = ap (λ (y : Shape). y.points) stated

      pub take-wide : 1024 < shape.points → TakenInto s x before (Err (T.Cut 0)) before
      unfolding take_vector
      take-wide h =
          let broad = lt-leb (two_bytes_at s 2) 1024 (omega (arith, h, points_so)) in
          record { answer = rw (long_enough, few_enough, broad); positions = rw (long_enough, few_enough, broad) }

      module _ (narrow : shape.points ≤ 1024) (b : Bool) (tested : b ≡ not (good_grid (shape_of shape))) where
        narrow_enough : leb (two_bytes_at s 2) 1024 ≡ true
        narrow_enough = le-leb (two_bytes_at s 2) 1024 (omega (arith, narrow, points_so))

        tested_so : not (good_grid (shape_in s)) ≡ b
        tested_so = ap (λ (y : Shape). not (good_grid y)) (sym stated) ∙ sym tested

        pub take_off_grid : b ≡ true → TakenInto s x before (Err T.BadGrid) before
        unfolding take_vector
        take_off_grid e =
            let off = not-true (good_grid (shape_in s)) (tested_so ∙ e) in
            record {
              answer = rw (long_enough, few_enough, narrow_enough, off);
              positions = rw (long_enough, few_enough, narrow_enough, off);
            }

        module _ (kept : b ≡ false) (size : ℕ) (hs : size ≡ two_bytes_at s 4) where
          on_grid : good_grid (shape_in s) ≡ true
          on_grid = not-false (good_grid (shape_in s)) (tested_so ∙ kept)

          pub take-other : (length s - sizes_length ≡ size → ⊥) → TakenInto s x before (Err (T.Cut 0)) before
          unfolding take_vector
          take-other h =
              let d : length (drop sizes_length s) ≡ two_bytes_at s 4 → ⊥ = λ e. h (sym (length-drop sizes_length s) ∙ e ∙ sym hs) in
              let other = ne_eqb (length (drop sizes_length s)) (two_bytes_at s 4) d in
              record {
                answer = rw (long_enough, few_enough, narrow_enough, on_grid, other);
                positions = rw (long_enough, few_enough, narrow_enough, on_grid, other);
              }

          module _ (long : length s - sizes_length ≡ size) (r : Result ⊤ VectorFault) (after : List ℕ)
              (w : WalkedInto n (take (length s - sizes_length) (drop sizes_length s)) before r after) where
            -- what the records come to
            abbrev found : Records
            found = records_in (two_bytes_at s 0) 0 (drop sizes_length s)

            all : take (length s - sizes_length) (drop sizes_length s) ≡ drop sizes_length s
            all = take_all (length s - sizes_length) (drop sizes_length s) (omega (arith, length-drop sizes_length s))

            walked : walk_answer r ≡ records_answer found
            walked = w.answer ∙ rw (all, hn)

            sized : eqb (length (drop sizes_length s)) (two_bytes_at s 4) ≡ true
            sized = eq-eqb (length (drop sizes_length s)) (two_bytes_at s 4) (length-drop sizes_length s ∙ long ∙ hs)

            taken_so : take_vector 0 s x ≡ with_readings 0 (two_bytes_at s 0) (shape_in s) x found
            unfolding take_vector
            taken_so = rw (long_enough, few_enough, narrow_enough, on_grid, sized)

            positions_so : after ≡ sets before 0 (noted_in s)
            positions_so = w.positions ∙ rw (all, hn, long_enough, few_enough, narrow_enough, on_grid, sized)

            taken_as : (t : Result CodeVector.Vector VectorFault) → taken_answer t ≡ vector_answer (with_readings 0 (two_bytes_at s 0) (shape_in s) x found)
                → TakenInto s x before t after
            taken_as t e = record { answer = e ∙ ap vector_answer (sym taken_so); positions = positions_so }

            product : n * shape.points ≡ two_bytes_at s 0 * two_bytes_at s 2
            product = ap (λ (a : ℕ). a * shape.points) hn ∙ ap (λ (a : ℕ). two_bytes_at s 0 * a) points_so

            pub take_unread : r ≡ Ok tt → (length x ≡ n * shape.points → ⊥) → TakenInto s x before (Err T.Readings) after
            take_unread e h =
                taken_as (Err T.Readings)
                (whole_unread (two_bytes_at s 0) (shape_in s) x found (rw e at walked) (λ z. h (z ∙ sym product)))

            pub take_whole : r ≡ Ok tt → length x ≡ n * shape.points → TakenInto s x before (Ok (record { series = n; shape = shape })) after
            take_whole e h =
                taken_as (Ok (record { series = n; shape = shape }))
                (ap (λ (a : ℕ). sizes a (shape_of shape)) hn ∙ ap (λ (y : Shape). sizes (two_bytes_at s 0) y) stated
                ∙ whole_read (two_bytes_at s 0) (shape_in s) (drop sizes_length s) x found refl (rw e at walked) (h ∙ product))

            pub take_record_fault : (f : VectorFault) → r ≡ Err f → TakenInto s x before (Err f) after
            take_record_fault f e =
                taken_as (Err f)
                (record_fault (two_bytes_at s 0) (shape_in s) x found (fault_number f) (fault_place f) (rw e at walked))
