-- Faults of a vector: which numbers and places they have, and that the side is in their field alone. Assumes nothing.
use Rattle.std.specs.Prelude.{ℕ, zero, suc, ◌*◌, ◌≤◌, ◌≡◌, refl, Bool, true, false, cond, ◌&&◌, List, [], ◌∷◌, leb, eqb, length, drop}
use Rattle.std.proofs.Common.{sym, ap, ◌∙◌, arith}
use Rattle.model.specs.Encoded.{on_side}
use Rattle.model.specs.Limits.{max_series, max_points, sizes_length}
use Rattle.model.specs.Labels.{Labels}
use Rattle.model.specs.Record.{Decoded, decoded, cut, bad_key, decode}
use Rattle.model.specs.Vector.{Shape, Vector, TakenVector, vector, faulty, Records, records, bad_record, with_record, on_decoded, records_in}
use Rattle.model.specs.Vector.{series_of, with_readings, with_array, good_grid, with_grid, with_sizes, two_bytes_at, shape_in, take_vector}

not_bad : {X : Type 0} (ls : List Labels) (k i : ℕ) → records ls ≡ bad_record k i → X
not_bad ls k i e = absurd (let z : ◌≡◌ {A = ℕ} 0 1 = cc in omega arith)

-- records give 3 or 4
pub data RecordFault (k : ℕ) : Type 0 where
  three : k ≡ 3 → RecordFault k
  four : k ≡ 4 → RecordFault k

pub bad_number : (n i : ℕ) (s : List ℕ) (k j : ℕ) → records_in n i s ≡ bad_record k j → RecordFault k
unfolding records_in
bad_number zero i [] k j e = not_bad [] k j e
bad_number zero i (x ∷ s) k j e = three (let z : 3 ≡ k = cc in sym z)
bad_number (suc n) i s k j e = go (bad_number n (suc i)) (decode s) e
  where
    last : (l : Labels) (w : Records) → (w ≡ bad_record k j → RecordFault k) → with_record l w ≡ bad_record k j → RecordFault k
    last l (records ls) ih e = not_bad (l ∷ ls) k j e
    last l (bad_record m o) ih e = ih e

    go : ((s : List ℕ) (k j : ℕ) → records_in n (suc i) s ≡ bad_record k j → RecordFault k) → (d : Decoded)
        → on_decoded i d (records_in n (suc i)) ≡ bad_record k j → RecordFault k
    go ih (decoded l rest) e = last l (records_in n (suc i) rest) (ih rest k j) e
    go ih cut e = three (let z : 3 ≡ k = cc in sym z)
    go ih bad_key e = four (let z : 4 ≡ k = cc in sym z)

-- taking on another side differs in that field alone

cond_side : (b : Bool) (side : ℕ) (a c : TakenVector) → on_side side (cond b a c) ≡ cond b (on_side side a) (on_side side c)
cond_side true side a c = refl
cond_side false side a c = refl

readings_side : (side other n : ℕ) (shape : Shape) (x : List ℕ) (o : Records) → on_side side (with_readings other n shape x o)
    ≡ with_readings side n shape x o
readings_side side other n shape x (records ls) = cond_side (eqb (length x) (n * shape.points)) side _ _
readings_side side other n shape x (bad_record k i) = refl

array_side : (side other n : ℕ) (shape : Shape) (size : ℕ) (array x : List ℕ)
    → on_side side (with_array other n shape size array x) ≡ with_array side n shape size array x
array_side side other n shape size array x =
    let sized = eqb (length array) size in
    cond_side sized side (with_readings other n shape x (records_in n 0 array)) (faulty 3 other 0)
    ∙ ap (λ (t : TakenVector). cond sized t (faulty 3 side 0)) (readings_side side other n shape x (records_in n 0 array))

grid_side : (side other n : ℕ) (shape : Shape) (size : ℕ) (array x : List ℕ)
    → on_side side (with_grid other n shape size array x) ≡ with_grid side n shape size array x
grid_side side other n shape size array x =
    cond_side (good_grid shape) side (with_array other n shape size array x) (faulty 11 other 0)
    ∙ ap (λ (t : TakenVector). cond (good_grid shape) t (faulty 11 side 0)) (array_side side other n shape size array x)

sizes_side : (side other n : ℕ) (shape : Shape) (size : ℕ) (array x : List ℕ)
    → on_side side (with_sizes other n shape size array x) ≡ with_sizes side n shape size array x
sizes_side side other n shape size array x =
    let few = leb n max_series && leb shape.points max_points in
    cond_side few side (with_grid other n shape size array x) (faulty 3 other 0)
    ∙ ap (λ (t : TakenVector). cond few t (faulty 3 side 0)) (grid_side side other n shape size array x)

pub take-side : (side other : ℕ) (s x : List ℕ) → take_vector side s x ≡ on_side side (take_vector other s x)
unfolding take_vector
take-side side other s x =
    let whole = leb sizes_length (length s) in
    let n = two_bytes_at s 0 in
    sym (cond_side whole side (with_sizes other n (shape_in s) (two_bytes_at s 4) (drop sizes_length s) x) (faulty 3 other 0)
    ∙ ap (λ (t : TakenVector). cond whole t (faulty 3 side 0)) (sizes_side side other n (shape_in s) (two_bytes_at s 4) (drop sizes_length s) x))

-- a fault has 01's numbers, or 02's 11; numbers 5 and 11 have the place 0

pub data Fault (k i : ℕ) : Type 0 where
  cut_fault : k ≡ 3 → Fault k i
  key_fault : k ≡ 4 → Fault k i
  readings_fault : k ≡ 5 → i ≡ 0 → Fault k i
  grid_fault : k ≡ 11 → i ≡ 0 → Fault k i

fault_three : (side other k i j : ℕ) → faulty 3 side j ≡ faulty k other i → Fault k i
fault_three side other k i j e = cut_fault (let z : 3 ≡ k = cc in sym z)

not_faulty : {X : Type 0} (v : Vector) (k side i : ℕ) → vector v ≡ faulty k side i → X
not_faulty v k side i e = absurd (let z : ◌≡◌ {A = ℕ} 0 1 = cc in omega arith)

readings_fault_lem : (side other n : ℕ) (shape : Shape) (s x : List ℕ) (k i : ℕ) (o : Records) → records_in n 0 s ≡ o
    → with_readings side n shape x o ≡ faulty k other i → Fault k i
readings_fault_lem side other n shape s x k i (records ls) f e = go (eqb (length x) (n * shape.points)) e
  where
    go : (b : Bool) → cond b (vector (record { shape = shape; series = series_of shape.points ls x })) (faulty 5 side 0)
        ≡ faulty k other i → Fault k i
    go true e = not_faulty _ k other i e
    go false e = readings_fault (let z : 5 ≡ k = cc in sym z) (let z : 0 ≡ i = cc in sym z)
readings_fault_lem side other n shape s x k i (bad_record m j) f e = go (bad_number n 0 s m j f)
  where
    same : m ≡ k
    same = cc

    go : RecordFault m → Fault k i
    go (three h) = cut_fault (sym same ∙ h)
    go (four h) = key_fault (sym same ∙ h)

pub take-fault : (side other : ℕ) (s x : List ℕ) (k i : ℕ) → take_vector side s x ≡ faulty k other i → Fault k i
unfolding take_vector
take-fault side other s x k i e = go (leb sizes_length (length s)) e
  where
    n : ℕ
    n = two_bytes_at s 0

    array : List ℕ
    array = drop sizes_length s

    arrayed : (b : Bool) → cond b (with_readings side n (shape_in s) x (records_in n 0 array)) (faulty 3 side 0) ≡ faulty k other i → Fault k i
    arrayed true e = readings_fault_lem side other n (shape_in s) array x k i (records_in n 0 array) refl e
    arrayed false e = fault_three side other k i 0 e

    gridded : (b : Bool) → cond b (with_array side n (shape_in s) (two_bytes_at s 4) array x) (faulty 11 side 0) ≡ faulty k other i → Fault k i
    gridded true e = arrayed (eqb (length array) (two_bytes_at s 4)) e
    gridded false e = grid_fault (let z : 11 ≡ k = cc in sym z) (let z : 0 ≡ i = cc in sym z)

    sized : (b : Bool) → cond b (with_grid side n (shape_in s) (two_bytes_at s 4) array x) (faulty 3 side 0) ≡ faulty k other i → Fault k i
    sized true e = gridded (good_grid (shape_in s)) e
    sized false e = fault_three side other k i 0 e

    go : (b : Bool) → cond b (with_sizes side n (shape_in s) (two_bytes_at s 4) array x) (faulty 3 side 0) ≡ faulty k other i → Fault k i
    go true e = sized (leb n max_series && leb (shape_in s).points max_points) e
    go false e = fault_three side other k i 0 e

-- its number: 3 to 5, or 11 with the place 0
pub data FaultNumber (k i : ℕ) : Type 0 where
  three_to_five : 3 ≤ k → k ≤ 5 → FaultNumber k i
  eleven : k ≡ 11 → i ≡ 0 → FaultNumber k i

-- of the vector on a side: it names the side
pub record FaultOf (side k at i : ℕ) : Type 0 where
  pub number : FaultNumber k i
  pub names : at ≡ side

pub fault_of_lem : (side : ℕ) (s x : List ℕ) (k at i : ℕ) → take_vector side s x ≡ faulty k at i → FaultOf side k at i
fault_of_lem side s x k at i e = record { number = go (take-fault side at s x k i e); names = same }
  where
    same : at ≡ side
    same = let z : faulty k at i ≡ faulty k side i = sym e ∙ take-side side side s x ∙ ap (on_side side) e in cc

    go : Fault k i → FaultNumber k i
    go (cut_fault z) = three_to_five (omega (arith, z)) (omega (arith, z))
    go (key_fault z) = three_to_five (omega (arith, z)) (omega (arith, z))
    go (readings_fault z w) = three_to_five (omega (arith, z)) (omega (arith, z))
    go (grid_fault z w) = eleven z w
