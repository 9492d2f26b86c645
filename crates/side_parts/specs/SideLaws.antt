-- Laws of sides: records and rows by their number, and the positions of an encoded vector's records. Assumes nothing.
use Rattle.std.specs.Prelude.{ℕ, zero, suc, ◌+◌, ◌-◌, ◌*◌, ◌≤◌, ◌<◌, ◌≡◌, refl, List, [], ◌∷◌, ◌++◌, length, get_or, take, drop}
use Rattle.std.proofs.Common.{sym, ap, subst, ◌∙◌, append_assoc, append-nil, add-one, zero-mul, suc-mul, mul-le-mul_right, arith, length-append, length-take, length-drop, take_at, drop_at, drop-drop, get_or-take}
use Rattle.std.proofs.lemmas.List.{length-map}
use Rattle.std.proofs.Math.Seq.{take-nil}
use Rattle.model.specs.Limits.{sizes_length}
use Rattle.model.specs.Lists.{All}
use Rattle.model.specs.Labels.{Labels}
use Rattle.model.specs.Record.{encode}
use Rattle.model.specs.Vector.{Series, Shape, labels_of_all, label_part, label_bytes, readings_of, series_of, GoodSeries}
use Rattle.model.proofs.Laws.Vector.{series_again}
use Rattle.record_tags.specs.Lenient.{labels_of, labels_encoded}
use Rattle.side_parts.specs.Sides.{between, record_at, labels_from, labels_in, lent_series, row_at, ends, starts, Positions}

-- records by their number, at any positions

from_count : (array : List ℕ) (a : ℕ) (at : List ℕ) → length (labels_from array a at) ≡ length at
unfolding labels_from
from_count array a [] = refl
from_count array a (e ∷ at) = ap suc (from_count array e at)

pub labels_count : (array at : List ℕ) → length (labels_in array at) ≡ length at - 1
labels_count array [] = refl
labels_count array (a ∷ at) = from_count array a at ∙ (omega arith)

record_first : (array : List ℕ) (a e : ℕ) (at : List ℕ) → record_at array (a ∷ e ∷ at) 0 ≡ between array a e
unfolding record_at
record_first array a e at = refl

record_later : (array : List ℕ) (a : ℕ) (at : List ℕ) (i : ℕ) → record_at array (a ∷ at) (suc i) ≡ record_at array at i
unfolding record_at
record_later array a at i = rw (add-one (suc i), add-one i)

-- a record is no longer than its array
pub record_within : (array at : List ℕ) (i : ℕ) → length (record_at array at i) ≤ length array
unfolding record_at
record_within array at i = simp (length-take, length-drop) (omega arith)

from_at : (array : List ℕ) (a : ℕ) (at : List ℕ) (i : ℕ) (d : Labels) → i < length at → get_or (labels_from array a at) i d ≡ labels_of (record_at array (a ∷ at) i)
unfolding labels_from
from_at array a [] i d h = absurd (omega arith)
from_at array a (e ∷ at) zero d h = rw (record_first array a e at)
from_at array a (e ∷ at) (suc i) d h = rw (record_later array a (e ∷ at) i) (from_at array e at i d (omega arith))

pub labels_at : (array at : List ℕ) (i : ℕ) (d : Labels) → i + 1 < length at → get_or (labels_in array at) i d ≡ labels_of (record_at array at i)
labels_at array [] i d h = absurd (omega arith)
labels_at array (a ∷ at) i d h = from_at array a at i d (omega arith)

from_front : (array : List ℕ) (a : ℕ) (at : List ℕ) (i : ℕ) → labels_from array a (take i at) ≡ take i (labels_from array a at)
unfolding labels_from
from_front array a [] i = rw (take-nil i, take-nil i)
from_front array a (e ∷ at) zero = refl
from_front array a (e ∷ at) (suc i) = rw (from_front array e at i)

labels_front : (array at : List ℕ) (i : ℕ) → labels_in array (take (suc i) at) ≡ take i (labels_in array at)
labels_front array [] i = rw (take-nil i)
labels_front array (a ∷ at) i = from_front array a at i

-- the first i records have the first i + 1 positions
pub labels_first : (array at : List ℕ) (i : ℕ) → labels_in array (take (i + 1) at) ≡ take i (labels_in array at)
labels_first array at i = rw (add-one i) (labels_front array at i)

module _ (array at : List ℕ) (n : ℕ) (h : Positions array at) where
  first_below : (i : ℕ) → i < length (take n at) → (i < n) × (i < length at)
  first_below i k = let m = simp length-take at k in (omega arith, omega arith)

  pub positions_first : Positions array (take n at)
  positions_first = record {
    ascend = λ i k. let a = first_below i (omega arith) in let b = first_below (i + 1) k in rw
        (get_or-take n at i 0 a.0, get_or-take n at (i + 1) 0 b.0) (h.ascend i b.1);
    within = λ i k. let a = first_below i k in rw (get_or-take n at i 0 a.0) (h.within i a.1);
  }

-- rows by their number

pub row_at_lem : (p : ℕ) (ls : List Labels) (readings : List ℕ) (i : ℕ) (d : Series) → i < length ls → (get_or (series_of p ls readings) i d).row ≡ row_at p readings i
unfolding series_of
row_at_lem p [] readings i d h = absurd (omega arith)
row_at_lem p (l ∷ ls) readings zero d h = rw (zero-mul p)
row_at_lem p (l ∷ ls) readings (suc i) d h = rw (row_at_lem p ls (drop p readings) i d (omega arith), drop-drop, shift)
  where
    shift : p + i * p ≡ suc i * p
    shift = omega arith

-- encoded series

cut_out : (before x behind : List ℕ) → between (before ++ (x ++ behind)) (length before) (length before + length x) ≡ x
cut_out before x behind =
    let n : length before + length x - length before ≡ length x = omega arith in
    rw (drop_at before (x ++ behind) (length before) refl, n) (take_at x behind (length x) refl)

cut_labels : (before : List ℕ) (l : Labels) (behind : List ℕ)
    → labels_of (between (before ++ (encode l ++ behind)) (length before) (length before + length (encode l))) ≡ l
cut_labels before l behind = rw (cut_out before (encode l) behind) (ap labels_of (sym (append-nil (encode l))) ∙ labels_encoded l [])

labels_from_lem : (before : List ℕ) (ss : List Series) → labels_from (before ++ label_bytes ss) (length before) (ends (length before) (labels_of_all ss))
    ≡ labels_of_all ss
unfolding labels_from ends label_bytes
labels_from_lem before [] = refl
labels_from_lem before (s ∷ ss) =
    let n : length (before ++ encode s.labels) ≡ length before + length (encode s.labels) = length-append before (encode s.labels) in
    let P : List ℕ → ℕ → Type 0 = λ a k. labels_from a k (ends k (labels_of_all ss)) ≡ labels_of_all ss in
    let behind : P (before ++ (encode s.labels ++ label_bytes ss)) (length before + length (encode s.labels)) =
    subst (λ a. P a (length before + length (encode s.labels))) (append_assoc before (encode s.labels) (label_bytes ss))
    (subst (λ k. P ((before ++ encode s.labels) ++ label_bytes ss) k) n (labels_from_lem (before ++ encode s.labels) ss)) in
    rw (cut_labels before s.labels (label_bytes ss)) (ap (λ ls. s.labels ∷ ls) behind)

pub labels_starts : (ss : List Series) → labels_in (label_bytes ss) (starts 0 (labels_of_all ss)) ≡ labels_of_all ss
labels_starts ss = labels_from_lem [] ss

record_from : (before : List ℕ) (ss : List Series) (i : ℕ) (d : Labels) → i < length ss
    → record_at (before ++ label_bytes ss) (starts (length before) (labels_of_all ss)) i ≡ encode (get_or (labels_of_all ss) i d)
unfolding ends label_bytes
record_from before [] i d h = absurd (omega arith)
record_from before (s ∷ ss) zero d h =
    rw (record_first (before ++ (encode s.labels ++ label_bytes ss)) (length before) (length before + length (encode s.labels))
    (ends (length before + length (encode s.labels)) (labels_of_all ss))) (cut_out before (encode s.labels) (label_bytes ss))
record_from before (s ∷ ss) (suc i) d h =
    let n : length (before ++ encode s.labels) ≡ length before + length (encode s.labels) = length-append before (encode s.labels) in
    rw (record_later (before ++ (encode s.labels ++ label_bytes ss)) (length before)
    (starts (length before + length (encode s.labels)) (labels_of_all ss)) i)
    (rw (← append_assoc before (encode s.labels) (label_bytes ss), ← n) (record_from (before ++ encode s.labels) ss i d (omega arith)))

pub record_starts : (ss : List Series) (i : ℕ) (d : Labels) → i < length ss
    → record_at (label_bytes ss) (starts 0 (labels_of_all ss)) i ≡ encode (get_or (labels_of_all ss) i d)
record_starts ss i d h = record_from [] ss i d h

ends_count : (p : ℕ) (ls : List Labels) → length (ends p ls) ≡ length ls
unfolding ends
ends_count p [] = refl
ends_count p (l ∷ ls) = ap suc (ends_count (p + length (encode l)) ls)

pub starts_count : (p : ℕ) (ls : List Labels) → length (starts p ls) ≡ length ls + 1
starts_count p ls = rw (ends_count p ls, add-one)

later_behind : (p : ℕ) (ls : List Labels) (i : ℕ) → suc i < length (starts p ls) → get_or (starts p ls) i 0 ≤ get_or (starts p ls) (suc i) 0
unfolding ends
later_behind p [] i h = absurd (omega arith)
later_behind p (l ∷ ls) zero h = omega arith
later_behind p (l ∷ ls) (suc i) h = later_behind (p + length (encode l)) ls i (omega arith)

inside : (p : ℕ) (ss : List Series) (i : ℕ) → get_or (starts p (labels_of_all ss)) i 0 ≤ p + length (label_bytes ss)
unfolding ends label_bytes
inside p ss zero = omega arith
inside p [] (suc i) = omega arith
inside p (s ∷ ss) (suc i) = omega (arith, inside (p + length (encode s.labels)) ss i, length-append (encode s.labels) (label_bytes ss))

pub positions_starts : (ss : List Series) → Positions (label_bytes ss) (starts 0 (labels_of_all ss))
positions_starts ss = record {
  ascend = λ i h. rw (add-one i) (later_behind 0 (labels_of_all ss) i (omega (arith, add-one i)));
  within = λ i h. omega (arith, inside 0 ss i);
}

last_end : (p : ℕ) (ss : List Series) → get_or (starts p (labels_of_all ss)) (length ss) 0 ≡ p + length (label_bytes ss)
unfolding ends label_bytes
last_end p [] = omega arith
last_end p (s ∷ ss) = last_end (p + length (encode s.labels)) ss ∙ (omega (arith, length-append (encode s.labels) (label_bytes ss)))

-- the last position is the array's end
pub starts_end : (ss : List Series) → get_or (starts 0 (labels_of_all ss)) (length ss) 0 ≡ length (label_bytes ss)
starts_end ss = last_end 0 ss ∙ (omega arith)

pub side_starts : (p : ℕ) (ss : List Series) → All (GoodSeries p) ss → lent_series (label_bytes ss) (starts 0 (labels_of_all ss)) p (readings_of ss) ≡ ss
side_starts p ss a = rw (labels_starts ss) (series_again p ss a)

-- row i of a vector's readings is that of its series i
pub row_starts : (p : ℕ) (ss : List Series) (i : ℕ) (d : Series) → All (GoodSeries p) ss → i < length ss → row_at p (readings_of ss) i ≡ (get_or ss i d).row
row_starts p ss i d a h =
    let n : length (labels_of_all ss) ≡ length ss = length-map ss (λ s. s.labels) in
    sym (row_at_lem p (labels_of_all ss) (readings_of ss) i d (omega arith)) ∙ ap (λ (x : List Series). (get_or x i d).row) (series_again p ss a)

-- a taken label part is its sizes and its array
pub array_of : (shape : Shape) (ss : List Series) → drop sizes_length (label_part shape ss) ≡ label_bytes ss
unfolding label_part
array_of shape ss = refl

-- rows by their number

-- a row below n ends within n rows
pub row_in : (r n p : ℕ) → r < n → r * p + p ≤ n * p
row_in r n p h = rw (← suc-mul) (mul-le-mul_right p h)

-- a row that ends within the readings has its width
pub row_width : (p : ℕ) (rows x : List ℕ) (i : ℕ) → i * p + p ≤ length rows → x ≡ row_at p rows i → length x ≡ p
row_width p rows x i h e = rw e (simp (length-take, length-drop) (omega arith))
