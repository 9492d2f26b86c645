-- Laws of taking: what the code's answer says of the vector, and the positions of one that is taken. Assumes nothing.
use Rattle.std.specs.Prelude.{ℕ, ◌+◌, ◌-◌, ◌*◌, ◌≤◌, ◌<◌, ◌≡◌, refl, Bool, true, false, cond, ◌&&◌}
use Rattle.std.specs.Prelude.{List, [], ◌∷◌, ◌++◌, leb, eqb, length, take, drop, Result, Ok}
use Rattle.std.proofs.Common.{sym, ap, ◌∙◌, arith, length-append, take_at, drop_at, leb-true, eqb-true}
use Rattle.std.proofs.lemmas.List.{length-map}
use Rattle.std.proofs.lemmas.List.Edits.{sets, sets-eq}
use Rattle.std.proofs.Math.Seq.{length-sets}
use Rattle.model.specs.Limits.{max_series, max_points, sizes_length}
use Rattle.model.specs.Labels.{Labels}
use Rattle.model.specs.Record.{encode}
use Rattle.model.specs.Vector.{Shape, Vector, labels_of_all, label_bytes, TakenVector, vector, faulty, Records, records}
use Rattle.model.specs.Vector.{bad_record, records_in, series_of, with_readings, with_array, good_grid, with_grid, with_sizes}
use Rattle.model.specs.Vector.{two_bytes_at, shape_in, take_vector}
use Rattle.model.proofs.Laws.Booleans.{both_of}
use Rattle.model.proofs.Laws.Record.{decode_is}
use Rattle.model.proofs.Laws.Vector.{records_read, read_bytes, series_count_lem, series_labels, series_bytes}
use Rattle.model.specs.Encoded.{ReadAs}
use Rattle.model.proofs.Laws.Faults.{take-side}
use Rattle.model.specs.Encoded.{on_side}
use Rattle.side_parts.specs.Sides.{labels_in, lent_series, ends, starts, Positions}
use Rattle.side_parts.specs.SideLaws.{starts_count, labels_starts, positions_starts}
use Rattle.timeseries.specs.record_walk.Walks.{noted}
use Rattle.timeseries.specs.Takes.{TakenAnswer, sizes, taken_answer, vector_answer, answer_number, answer_place}
use Rattle.timeseries.specs.Takes.{taken_number, taken_place, noted_in, TakenInto}
use Rattle.side_parts.specs.Lent.{shape_of}
use Rattle.timeseries.specs.declared.VectorFault.{VectorFault}
use Rattle.timeseries.specs.declared.Vector as CodeVector

-- the positions that are noted of records that are read
read_positions : (size : ℕ) (ls : List Labels) (s : List ℕ) → length s ≤ size → ReadAs ls s → noted size (length ls) s ≡ starts (size - length s) ls
unfolding noted ends
read_positions size [] s h e = refl
read_positions size (l ∷ ls) s h e =
    let r = e.0 in
    let len : length s ≡ length (encode l) + length r = ap length (decode_is s l r e.1).bytes ∙ length-append (encode l) r in
    let here : size - length r ≡ size - length s + length (encode l) = omega (arith, h, len) in
    rw e.1
    (ap (λ (x : List ℕ). (size - length s) ∷ x) (read_positions size ls r (omega (arith, h, len)) e.2 ∙ ap (λ (p : ℕ). starts p ls) here))

-- the code's answer t, read back: what taking on a side gives

module _ (side : ℕ) (s x : List ℕ) (t : Result CodeVector.Vector VectorFault) (ht : taken_answer t ≡ vector_answer (take_vector 0 s x)) where
  refused : (o : TakenVector) → take_vector 0 s x ≡ o → 0 < taken_number t → taken_answer t ≡ vector_answer o
      → take_vector side s x ≡ faulty (taken_number t) side (taken_place t)
  refused (vector v) e h f = absurd (let z : taken_number t ≡ 0 = ap answer_number f in omega (arith, h, z))
  refused (faulty k other i) e h f =
      take-side side 0 s x ∙ ap (on_side side) e
      ∙ ap (λ (a : TakenAnswer). faulty (answer_number a) side (answer_place a)) (sym f)

  pub taken_refused : 0 < taken_number t → take_vector side s x ≡ faulty (taken_number t) side (taken_place t)
  taken_refused h = refused (take_vector 0 s x) refl h ht

-- a vector that is taken: w are the positions of its records in the array; x are its readings
pub record Parts (array x w : List ℕ) (v : Vector) : Type 0 where
  pub few : length v.series ≤ max_series
  pub narrow : v.shape.points ≤ max_points
  pub bytes : array ≡ label_bytes v.series
  pub rows : length x ≡ length v.series * v.shape.points
  pub series : series_of v.shape.points (labels_of_all v.series) x ≡ v.series
  pub positions : w ≡ starts 0 (labels_of_all v.series)

parts_read : (n : ℕ) (shape : Shape) (s x : List ℕ) (ls : List Labels) → n ≤ max_series → shape.points ≤ max_points
    → records_in n 0 s ≡ records ls → length x ≡ n * shape.points
    → Parts s x (noted (length s) n s) (record { shape = shape; series = series_of shape.points ls x })
parts_read n shape s x ls hn hp f h =
    let read = records_read n 0 s ls f in
    let count : length (series_of shape.points ls x) ≡ n = series_count_lem shape.points ls x ∙ read.count in
    let labels = series_labels shape.points ls x in
    let first : length s - length s ≡ 0 = omega arith in
    record {
      few = rw count hn;
      narrow = hp;
      bytes = read_bytes ls s read.reads ∙ sym (series_bytes shape.points ls x);
      rows = rw count h;
      series = rw labels;
      positions = ap (λ (m : ℕ). noted (length s) m s) (sym read.count)
          ∙ read_positions (length s) ls s (omega arith) read.reads ∙ rw (labels, first);
    }

readings_parts : (side n : ℕ) (shape : Shape) (s x : List ℕ) (v : Vector) (o : Records) → n ≤ max_series
    → shape.points ≤ max_points → records_in n 0 s ≡ o → with_readings side n shape x o ≡ vector v → Parts s x (noted (length s) n s) v
readings_parts side n shape s x v (bad_record k i) hn hp f e = absurd (let z : ◌≡◌ {A = ℕ} 0 1 = cc in omega arith)
readings_parts side n shape s x v (records ls) hn hp f e = go (eqb (length x) (n * shape.points)) refl e
  where
    go : (b : Bool) → eqb (length x) (n * shape.points) ≡ b
        → cond b (vector (record { shape = shape; series = series_of shape.points ls x })) (faulty 5 side 0) ≡ vector v
        → Parts s x (noted (length s) n s) v
    go false h e = absurd (let z : ◌≡◌ {A = ℕ} 0 1 = cc in omega arith)
    go true h e =
        let hv : record { shape = shape; series = series_of shape.points ls x } ≡ v = cc in
        rw hv at (parts_read n shape s x ls hn hp f (eqb-true (length x) (n * shape.points) h))

pub taken_parts : (side : ℕ) (s x : List ℕ) (v : Vector) → take_vector side s x ≡ vector v → Parts (drop sizes_length s) x (noted_in s) v
unfolding take_vector
taken_parts side s x v e = go (leb sizes_length (length s)) e
  where
    n : ℕ
    n = two_bytes_at s 0

    array : List ℕ
    array = drop sizes_length s

    few : Bool
    few = leb n max_series && leb (two_bytes_at s 2) max_points

    stated : Bool
    stated = eqb (length array) (two_bytes_at s 4)

    arrayed : few ≡ true → (b : Bool) → cond b (with_readings side n (shape_in s) x (records_in n 0 array)) (faulty 3 side 0) ≡ vector v
        → Parts array x (cond b (noted (length array) n array) []) v
    arrayed g true e =
        let y = both_of (leb n max_series) (leb (two_bytes_at s 2) max_points) g in
        readings_parts side n (shape_in s) array x v (records_in n 0 array) (leb-true n max_series y.0)
        (leb-true (two_bytes_at s 2) max_points y.1) refl e
    arrayed g false e = absurd (let z : ◌≡◌ {A = ℕ} 0 1 = cc in omega arith)

    gridded : few ≡ true → (b : Bool)
        → cond b (with_array side n (shape_in s) (two_bytes_at s 4) array x) (faulty 11 side 0) ≡ vector v
        → Parts array x (cond (b && stated) (noted (length array) n array) []) v
    gridded g true e = arrayed g stated e
    gridded g false e = absurd (let z : ◌≡◌ {A = ℕ} 0 1 = cc in omega arith)

    sized : (b : Bool) → few ≡ b
        → cond b (with_grid side n (shape_in s) (two_bytes_at s 4) array x) (faulty 3 side 0) ≡ vector v
        → Parts array x (cond (b && (good_grid (shape_in s) && stated)) (noted (length array) n array) []) v
    sized true g e = gridded g (good_grid (shape_in s)) e
    sized false g e = absurd (let z : ◌≡◌ {A = ℕ} 0 1 = cc in omega arith)

    go : (b : Bool) → cond b (with_sizes side n (shape_in s) (two_bytes_at s 4) array x) (faulty 3 side 0) ≡ vector v
        → Parts array x (cond (b && (few && (good_grid (shape_in s) && stated))) (noted (length array) n array) []) v
    go true e = sized few refl e
    go false e = absurd (let z : ◌≡◌ {A = ℕ} 0 1 = cc in omega arith)

-- the vector of n series on a shape that is taken on a side
pub record VectorTaken (side : ℕ) (s x : List ℕ) (n : ℕ) (shape : Shape) : Type 0 where
  pub v : Vector
  pub taken : take_vector side s x ≡ vector v
  pub count : length v.series ≡ n
  pub on : v.shape ≡ shape
  pub parts : Parts (drop sizes_length s) x (noted_in s) v

pub taken_vector : (side : ℕ) (s x : List ℕ) (t : Result CodeVector.Vector VectorFault) → taken_answer t ≡ vector_answer (take_vector 0 s x)
    → (r : CodeVector.Vector) → t ≡ Ok r → VectorTaken side s x r.series (shape_of r.shape)
taken_vector side s x t ht r e = go (take_vector 0 s x) refl (rw e at ht)
  where
    go : (o : TakenVector) → take_vector 0 s x ≡ o → sizes r.series (shape_of r.shape) ≡ vector_answer o
        → VectorTaken side s x r.series (shape_of r.shape)
    go (vector v) f g = record {
      v = v;
      taken = take-side side 0 s x ∙ ap (on_side side) f;
      count = cc;
      on = cc;
      parts = taken_parts 0 s x v f;
    }
    go (faulty k other i) f g = absurd (let z : ◌≡◌ {A = ℕ} 0 1 = cc in omega arith)

-- the positions stored over those before: the front is the vector's, what lies behind stays
module _ (before w after : List ℕ) (ls : List Labels) (noted-so : w ≡ starts 0 ls) (stored : after ≡ sets before 0 w)
    (room : length ls + 1 ≤ length before) where
  stored_so : after ≡ starts 0 ls ++ drop (length ls + 1) before
  stored_so =
      let size : length (starts 0 ls) ≡ length ls + 1 = starts_count 0 ls in
      let count : 0 + length (starts 0 ls) ≡ length ls + 1 = omega arith in
      stored ∙ ap (sets before 0) noted-so ∙ sets-eq (starts 0 ls) before 0 (omega arith) ∙ ap (λ (m : ℕ). starts 0 ls ++ drop m before) count

  pub positions_front : take (length ls + 1) after ≡ starts 0 ls
  positions_front = rw stored_so (take_at (starts 0 ls) (drop (length ls + 1) before) (length ls + 1) (starts_count 0 ls))

  pub positions_behind : drop (length ls + 1) after ≡ drop (length ls + 1) before
  positions_behind = rw stored_so (drop_at (starts 0 ls) (drop (length ls + 1) before) (length ls + 1) (starts_count 0 ls))

-- the array of positions keeps its length
pub taken_long : (s x before after : List ℕ) (t : Result CodeVector.Vector VectorFault) → TakenInto s x before t after → length after ≡ length before
taken_long s x before after t into = ap length into.positions ∙ length-sets before 0 (noted_in s)

-- a side as it is lent after taking: its array, the first n + 1 positions, its shape and its readings
pub record SideTaken (side : ℕ) (s x at : List ℕ) (n : ℕ) (shape : Shape) : Type 0 where
  pub v : Vector
  pub taken : take_vector side s x ≡ vector v
  pub count : length v.series ≡ n
  pub on : v.shape ≡ shape
  pub few : n ≤ max_series
  pub narrow : shape.points ≤ max_points
  pub rows : length x ≡ n * shape.points
  pub array : drop sizes_length s ≡ label_bytes v.series
  pub starting : take (n + 1) at ≡ starts 0 (labels_of_all v.series)
  pub positions : Positions (drop sizes_length s) (take (n + 1) at)
  pub entries : length (take (n + 1) at) ≡ n + 1
  pub labels : labels_in (drop sizes_length s) (take (n + 1) at) ≡ labels_of_all v.series
  pub series : lent_series (drop sizes_length s) (take (n + 1) at) shape.points x ≡ v.series

module _ (side : ℕ) (s x before after : List ℕ) (room : length before ≡ 513) (t : Result CodeVector.Vector VectorFault) (into : TakenInto s x before t after)
    (r : CodeVector.Vector) (e : t ≡ Ok r) where
  abbrev n : ℕ
  n = r.series

  abbrev shape : Shape
  shape = shape_of r.shape

  pub side_taken : SideTaken side s x after r.series (shape_of r.shape)
  side_taken =
      let w : VectorTaken side s x n shape = taken_vector side s x t into.answer r e in
      let points : w.v.shape.points ≡ shape.points = ap (λ (y : Shape). y.points) w.on in
      let ls = labels_of_all w.v.series in
      let many : length ls ≡ n = length-map w.v.series (λ y. y.labels) ∙ w.count in
      let few : n ≤ max_series = omega (arith, w.parts.few, w.count) in
      let front : take (n + 1) after ≡ starts 0 ls = ap (λ (m : ℕ). take (m + 1) after) (sym many)
      ∙ positions_front before (noted_in s) after ls w.parts.positions into.positions (omega (arith, many, few, room)) in
      let array = w.parts.bytes in
      let found : labels_in (drop sizes_length s) (take (n + 1) after) ≡ ls = rw (front, array) (labels_starts w.v.series) in
      record {
        v = w.v;
        taken = w.taken;
        count = w.count;
        on = w.on;
        few = few;
        narrow = omega (arith, w.parts.narrow, points);
        rows = w.parts.rows ∙ ap (λ (m : ℕ). m * w.v.shape.points) w.count ∙ ap (λ (m : ℕ). n * m) points;
        array = array;
        starting = front;
        positions = rw (front, array) (positions_starts w.v.series);
        entries = rw front (starts_count 0 ls ∙ ap (λ (m : ℕ). m + 1) many);
        labels = found;
        series = ap (λ (y : List Labels). series_of shape.points y x) found ∙ ap (λ (m : ℕ). series_of m ls x) (sym points) ∙ w.parts.series;
      }
