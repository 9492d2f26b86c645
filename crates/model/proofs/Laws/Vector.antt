-- Vectors: a valid one, encoded, is taken to itself; and what is taken is valid, and the encoding of its result. Assumes nothing.
use Rattle.std.specs.Prelude.{ℕ, zero, suc, ◌+◌, ◌*◌, ◌/◌, ◌%◌, ◌≤◌, ◌<◌, ◌≡◌, Bool, ◌&&◌, List, [], ◌∷◌, ◌++◌, eqb, length, get_or, take, drop}
use Rattle.std.proofs.Math.Path.{refl}
use Rattle.std.proofs.Common.{sym, ap, ◌∙◌, arith, length-append, length-drop, take-append-drop, take_at, drop_at, drop-cons, length-take-le, le-leb, leb-true, eqb-true, eq-eqb}
use Rattle.std.proofs.Math.Bool.{true, false, cond}
use Rattle.std.proofs.Math.Dec.{leb}
use Rattle.model.specs.Encoded.{record_bytes, ReadAs}
use Rattle.model.specs.Limits.{max_series, max_points, max_tags, max_label_bytes, max_start, max_step, sizes_length}
use Rattle.model.specs.Lists.{All}
use Rattle.model.specs.Labels.{Labels, Bytes, WellFormed}
use Rattle.model.specs.Record.{Decoded, decoded, cut, bad_key, decode, encode}
use Rattle.model.specs.Vector.{Series, Shape, Vector, labels_of_all, label_bytes, readings_of, two_bytes, four_bytes, eight_bytes, sizes_of}
use Rattle.model.specs.Vector.{label_part, vector, faulty, Records, records, bad_record, with_record, on_decoded, records_in, series_of}
use Rattle.model.specs.Vector.{with_readings, with_array, good_grid, with_grid, with_sizes, two_bytes_at, four_bytes_at, eight_bytes_at, shape_in}
use Rattle.model.specs.Vector.{take_vector, Readings, GoodSeries, GoodGrid, Valid}
use Rattle.model.proofs.Laws.Booleans.{both_of}
use Rattle.model.proofs.Laws.Lists.{All-front, All-back, All-append}
use Rattle.model.proofs.Laws.Record.{decode_encode, decode_is, decode_well, good_encoded}

-- an encoded vector is taken

records_again : (p i : ℕ) (ss : List Series) → All (GoodSeries p) ss → records_in (length ss) i (label_bytes ss) ≡ records (labels_of_all ss)
unfolding records_in label_bytes
records_again p i [] a = refl
records_again p i (s ∷ ss) a = rw (decode_encode s.labels (label_bytes ss) a.0.few a.0.labels.order, records_again p (suc i) ss a.1)

pub series_again : (p : ℕ) (ss : List Series) → All (GoodSeries p) ss → series_of p (labels_of_all ss) (readings_of ss) ≡ ss
unfolding series_of readings_of
series_again p [] a = refl
series_again p (s ∷ ss) a =
    rw (take_at s.row (readings_of ss) p a.0.width, drop_at s.row (readings_of ss) p a.0.width, series_again p ss a.1)

pub readings_length : (p : ℕ) (ss : List Series) → All (GoodSeries p) ss → length (readings_of ss) ≡ length ss * p
unfolding readings_of
readings_length p [] a = omega arith
readings_length p (s ∷ ss) a = rw (length-append, readings_length p ss a.1, a.0.width) (omega arith)

-- a number that was written is read

two_bytes_lem : (n : ℕ) → n % 256 + 256 * (n / 256) ≡ n
two_bytes_lem n = omega arith

four_bytes_lem : (n : ℕ) → n % 65536 + 65536 * (n / 65536) ≡ n
four_bytes_lem n = omega arith

eight_bytes_lem : (n : ℕ) → n % 4294967296 + 4294967296 * (n / 4294967296) ≡ n
eight_bytes_lem n = omega arith

sizes_front : (n : ℕ) (shape : Shape) (size : ℕ) (r : List ℕ) → length (sizes_of n shape size ++ r) ≡ sizes_length + length r
sizes_front n shape size r = omega arith

grid_good : (shape : Shape) → GoodGrid shape → good_grid shape ≡ true
grid_good shape g = rw (le-leb shape.start max_start g.start, le-leb 1 shape.step g.least, le-leb shape.step max_step g.most)

good_grid_lem : (shape : Shape) → good_grid shape ≡ true → GoodGrid shape
good_grid_lem shape h =
    let y = both_of (leb shape.start max_start) (leb 1 shape.step && leb shape.step max_step) h in
    let z = both_of (leb 1 shape.step) (leb shape.step max_step) y.1 in
    record { start = leb-true shape.start max_start y.0; least = leb-true 1 shape.step z.0; most = leb-true shape.step max_step z.1 }

shape_again : (n : ℕ) (shape : Shape) (size : ℕ) (r : List ℕ) → shape_in (sizes_of n shape size ++ r) ≡ shape
shape_again n shape size r =
    rw (
      two_bytes_lem shape.points,
      two_bytes_lem (shape.start % 4294967296 % 65536),
      two_bytes_lem (shape.start % 4294967296 / 65536),
      four_bytes_lem (shape.start % 4294967296),
      two_bytes_lem (shape.start / 4294967296 % 65536),
      two_bytes_lem (shape.start / 4294967296 / 65536),
      four_bytes_lem (shape.start / 4294967296),
      eight_bytes_lem shape.start,
      two_bytes_lem (shape.step % 65536),
      two_bytes_lem (shape.step / 65536),
      four_bytes_lem shape.step,
    )

sized_again : (side : ℕ) (v : Vector) → Valid v
    → with_sizes side (length v.series) v.shape (length (label_bytes v.series)) (label_bytes v.series) (readings_of v.series) ≡ vector v
sized_again side v h =
    rw (
      le-leb (length v.series) max_series h.few,
      le-leb v.shape.points max_points h.points,
      grid_good v.shape h.grid,
      eq-eqb (length (label_bytes v.series)) (length (label_bytes v.series)) refl,
      records_again v.shape.points 0 v.series h.series,
      eq-eqb (length (readings_of v.series)) (length v.series * v.shape.points) (readings_length v.shape.points v.series h.series),
      series_again v.shape.points v.series h.series,
    )

pub take-valid : (side : ℕ) (v : Vector) → Valid v → take_vector side (label_part v.shape v.series) (readings_of v.series) ≡ vector v
unfolding take_vector label_part
take-valid side v h =
    let n = length v.series in
    let bytes = label_bytes v.series in
    let r = readings_of v.series in
    let shape = shape_in (sizes_of n v.shape (length bytes) ++ bytes) in
    rw (le-leb sizes_length (length (sizes_of n v.shape (length bytes) ++ bytes)) (omega (arith, sizes_front n v.shape (length bytes) bytes)))
    (ap (λ (m : ℕ). with_sizes side m shape (length bytes % 256 + 256 * (length bytes / 256)) bytes r) (two_bytes_lem n)
    ∙ ap (λ (m : ℕ). with_sizes side n shape m bytes r) (two_bytes_lem (length bytes))
    ∙ ap (λ (x : Shape). with_sizes side n x (length bytes) bytes r) (shape_again n v.shape (length bytes) bytes)
    ∙ sized_again side v h)

-- what is taken

-- labels as records have them
record GoodLabels (l : Labels) : Type 0 where
  well : WellFormed l
  few : length l.tags ≤ max_tags

pub record RecordsRead (n : ℕ) (s : List ℕ) (ls : List Labels) : Type 0 where
  pub count : length ls ≡ n
  pub reads : ReadAs ls s

no_records : {X : Type 0} (n i : ℕ) (ls : List Labels) → bad_record n i ≡ records ls → X
no_records n i ls e = absurd (let z : ◌≡◌ {A = ℕ} 0 1 = cc in omega arith)

pub records_read : (n i : ℕ) (s : List ℕ) (ls : List Labels) → records_in n i s ≡ records ls → RecordsRead n s ls
unfolding records_in
records_read zero i [] ls e = let h : ls ≡ [] = cc in rw h (record { count = refl; reads = refl })
records_read zero i (x ∷ s) ls e = no_records 3 i ls e
records_read (suc n) i s ls e = go (records_read n (suc i)) (decode s) refl e
  where
    Later : Type 0
    Later = (s : List ℕ) (ls : List Labels) → records_in n (suc i) s ≡ records ls → RecordsRead n s ls

    last : Later → (l : Labels) (r : List ℕ) → decode s ≡ decoded l r → (w : Records) → records_in n (suc i) r ≡ w
        → with_record l w ≡ records ls → RecordsRead (suc n) s ls
    last ih l r h (bad_record m j) g e = no_records m j ls e
    last ih l r h (records ms) g e =
        let rest = ih r ms g in
        let hls : ls ≡ l ∷ ms = cc in
        rw hls (record { count = ap suc rest.count; reads = (r, h, rest.reads) })

    go : Later → (d : Decoded) → decode s ≡ d → on_decoded i d (records_in n (suc i)) ≡ records ls → RecordsRead (suc n) s ls
    go ih cut h e = no_records 3 i ls e
    go ih bad_key h e = no_records 4 i ls e
    go ih (decoded l r) h e = last ih l r h (records_in n (suc i) r) refl e

pub read_bytes : (ls : List Labels) (s : List ℕ) → ReadAs ls s → s ≡ record_bytes ls
unfolding record_bytes
read_bytes [] s h = h
read_bytes (l ∷ ls) s h = (decode_is s l h.0 h.1).bytes ∙ ap (λ x. encode l ++ x) (read_bytes ls h.0 h.2)

read_good : (ls : List Labels) (s : List ℕ) → Bytes s → ReadAs ls s → All GoodLabels ls
read_good [] s b h = tt
read_good (l ∷ ls) s b h =
    let well = decode_well s l h.0 b h.1 in
    (record { well = well.0; few = (decode_is s l h.0 h.1).few }, read_good ls h.0 well.1 h.2)

series_good : (p : ℕ) (ls : List Labels) (r : List ℕ) → All GoodLabels ls → Readings r → length r ≡ length ls * p
    → All (GoodSeries p) (series_of p ls r)
unfolding series_of
series_good p [] r a b e = tt
series_good p (l ∷ ls) r a b e =
    let z : p ≤ length r = omega (arith, e) in
    let split : Readings (take p r ++ drop p r) = rw (take-append-drop p r) b in (
      record { labels = a.0.well; few = a.0.few; width = length-take-le p r z; readings = All-front _ (take p r) (drop p r) split },
      series_good p ls (drop p r) a.1 (All-back _ (take p r) (drop p r) split) (length-drop p r ∙ (omega (arith, e))),
    )

pub series_count_lem : (p : ℕ) (ls : List Labels) (r : List ℕ) → length (series_of p ls r) ≡ length ls
unfolding series_of
series_count_lem p [] r = refl
series_count_lem p (l ∷ ls) r = ap suc (series_count_lem p ls (drop p r))

pub series_labels : (p : ℕ) (ls : List Labels) (r : List ℕ) → labels_of_all (series_of p ls r) ≡ ls
unfolding series_of
series_labels p [] r = refl
series_labels p (l ∷ ls) r = ap (λ x. l ∷ x) (series_labels p ls (drop p r))

pub series_bytes : (p : ℕ) (ls : List Labels) (r : List ℕ) → label_bytes (series_of p ls r) ≡ record_bytes ls
unfolding series_of label_bytes record_bytes
series_bytes p [] r = refl
series_bytes p (l ∷ ls) r = ap (λ x. encode l ++ x) (series_bytes p ls (drop p r))

empty_of : (r : List ℕ) (p : ℕ) → length r ≡ 0 * p → r ≡ []
empty_of [] p e = refl
empty_of (x ∷ r) p e = absurd (omega (arith, e))

pub series_readings : (p : ℕ) (ls : List Labels) (r : List ℕ) → length r ≡ length ls * p → readings_of (series_of p ls r) ≡ r
unfolding series_of readings_of
series_readings p [] r e = sym (empty_of r p e)
series_readings p (l ∷ ls) r e = ap (λ x. take p r ++ x)
    (series_readings p ls (drop p r) (length-drop p r ∙ (omega (arith, e)))) ∙ take-append-drop p r

-- n bytes from the i-th on, one by one, in front of others
abbrev one_by_one : List ℕ → ℕ → ℕ → List ℕ → List ℕ
one_by_one s zero i rest = rest
one_by_one s (suc n) i rest = get_or s i 0 ∷ one_by_one s n (suc i) rest

one_by_one_lem : (s : List ℕ) (n i : ℕ) → i + n ≤ length s → drop i s ≡ one_by_one s n i (drop (i + n) s)
one_by_one_lem s zero i h = let z : i ≡ i + 0 = omega arith in ap (λ (j : ℕ). drop j s) z
one_by_one_lem s (suc n) i h =
    let z : suc i + n ≡ i + suc n = omega arith in
    drop-cons s i 0 (omega (arith, h))
    ∙ ap (λ t. get_or s i 0 ∷ t) (one_by_one_lem s n (suc i) (omega (arith, h)) ∙ ap (λ (j : ℕ). one_by_one s n (suc i) (drop j s)) z)

byte_at : (s : List ℕ) (i : ℕ) → Bytes s → get_or s i 0 < 256
byte_at [] i b = omega arith
byte_at (x ∷ s) zero b = b.0
byte_at (x ∷ s) (suc i) b = byte_at s i b.1

bytes_behind : (n : ℕ) (s : List ℕ) → Bytes s → Bytes (drop n s)
bytes_behind zero s b = b
bytes_behind (suc n) [] b = tt
bytes_behind (suc n) (x ∷ s) b = bytes_behind n s b.1

-- a number that was read is written

low_byte : (a b : ℕ) → a < 256 → (a + 256 * b) % 256 ≡ a
low_byte a b h = omega arith

high_byte : (a b : ℕ) → a < 256 → (a + 256 * b) / 256 ≡ b
high_byte a b h = omega arith

low_two : (a b : ℕ) → a < 65536 → (a + 65536 * b) % 65536 ≡ a
low_two a b h = omega arith

high_two : (a b : ℕ) → a < 65536 → (a + 65536 * b) / 65536 ≡ b
high_two a b h = omega arith

low_four : (a b : ℕ) → a < 4294967296 → (a + 4294967296 * b) % 4294967296 ≡ a
low_four a b h = omega arith

high_four : (a b : ℕ) → a < 4294967296 → (a + 4294967296 * b) / 4294967296 ≡ b
high_four a b h = omega arith

module _ (s : List ℕ) (b : Bytes s) where
  two_small : (i : ℕ) → two_bytes_at s i < 65536
  two_small i = omega (arith, byte_at s i b, byte_at s (suc i) b)

  four_small : (i : ℕ) → four_bytes_at s i < 4294967296
  four_small i = omega (arith, two_small i, two_small (suc (suc i)))

  two_again : (i : ℕ) (rest : List ℕ) → two_bytes (two_bytes_at s i) ++ rest ≡ one_by_one s 2 i rest
  two_again i rest = rw (low_byte (get_or s i 0) (get_or s (suc i) 0) (byte_at s i b), high_byte (get_or s i 0) (get_or s (suc i) 0) (byte_at s i b))

  four_again : (i : ℕ) (rest : List ℕ) → four_bytes (four_bytes_at s i) ++ rest ≡ one_by_one s 4 i rest
  four_again i rest =
      let j = suc (suc i) in
      rw (low_two (two_bytes_at s i) (two_bytes_at s j) (two_small i), high_two (two_bytes_at s i) (two_bytes_at s j) (two_small i))
      (two_again i (two_bytes (two_bytes_at s j) ++ rest) ∙ ap (one_by_one s 2 i) (two_again j rest))

  eight_again : (i : ℕ) (rest : List ℕ) → eight_bytes (eight_bytes_at s i) ++ rest ≡ one_by_one s 8 i rest
  eight_again i rest =
      let j = suc (suc (suc (suc i))) in
      rw (low_four (four_bytes_at s i) (four_bytes_at s j) (four_small i), high_four (four_bytes_at s i) (four_bytes_at s j) (four_small i))
      (four_again i (four_bytes (four_bytes_at s j) ++ rest) ∙ ap (one_by_one s 4 i) (four_again j rest))

  sizes_again : sizes_length ≤ length s → s ≡ sizes_of (two_bytes_at s 0) (shape_in s) (two_bytes_at s 4) ++ drop sizes_length s
  sizes_again h =
      let rest = drop sizes_length s in
      let steps = four_bytes (four_bytes_at s 14) ++ rest in
      let starts = eight_bytes (eight_bytes_at s 6) ++ steps in
      let sizes = two_bytes (two_bytes_at s 4) ++ starts in
      let points = two_bytes (two_bytes_at s 2) ++ sizes in
      one_by_one_lem s sizes_length 0 h
      ∙ sym (two_again 0 points
      ∙ ap (one_by_one s 2 0)
      (two_again 2 sizes
      ∙ ap (one_by_one s 2 2) (two_again 4 starts ∙ ap (one_by_one s 2 4) (eight_again 6 steps ∙ ap (one_by_one s 8 6) (four_again 14 rest)))))

pub record TakenIs (s r : List ℕ) (v : Vector) : Type 0 where
  pub valid : Valid v
  pub labels : s ≡ label_part v.shape v.series
  pub readings : r ≡ readings_of v.series

not_faulty : {X : Type 0} (n side i : ℕ) (v : Vector) → faulty n side i ≡ vector v → X
not_faulty n side i v e = absurd (let z : ◌≡◌ {A = ℕ} 0 1 = cc in omega arith)

vector_is : (v w : Vector) → vector v ≡ vector w → v ≡ w
vector_is v w e = cc

label_part_lem : (shape : Shape) (ss : List Series) → label_part shape ss ≡ sizes_of (length ss) shape (length (label_bytes ss)) ++ label_bytes ss
unfolding label_part
label_part_lem shape ss = refl

module _ (side : ℕ) (s r : List ℕ) (v : Vector) (bytes : Bytes s) (words : Readings r) where
  abbrev n : ℕ
  n = two_bytes_at s 0

  abbrev p : ℕ
  p = two_bytes_at s 2

  abbrev size : ℕ
  size = two_bytes_at s 4

  abbrev shape : Shape
  shape = shape_in s

  abbrev array : List ℕ
  array = drop sizes_length s

  taken_last : sizes_length ≤ length s → n ≤ max_series → p ≤ max_points → GoodGrid shape → length array ≡ size
      → (ls : List Labels) → RecordsRead n array ls → length r ≡ n * p
      → v ≡ record { shape = shape; series = series_of p ls r } → TakenIs s r v
  taken_last hs hn hp hg ha ls o hr hv =
      let count : length (series_of p ls r) ≡ n = series_count_lem p ls r ∙ o.count in
      let wide : length r ≡ length ls * p = rw o.count hr in
      let labels : label_bytes (series_of p ls r) ≡ array = series_bytes p ls r ∙ sym (read_bytes ls array o.reads) in
      let small : length array ≤ max_label_bytes = omega (arith, ha, byte_at s 4 bytes, byte_at s 5 bytes) in
      rw hv
      (record {
        valid = record {
          few = rw count hn;
          points = hp;
          grid = hg;
          bytes = rw labels small;
          series = series_good p ls r
              (read_good ls array (bytes_behind sizes_length s bytes) o.reads) words wide;
        };
        labels = rw (label_part_lem shape (series_of p ls r), count, labels, ha) (sizes_again s bytes hs);
        readings = sym (series_readings p ls r wide);
      })

  taken_readings : sizes_length ≤ length s → n ≤ max_series → p ≤ max_points → GoodGrid shape → length array ≡ size
      → (w : Records) → records_in n 0 array ≡ w → with_readings side n shape r w ≡ vector v
      → TakenIs s r v
  taken_readings hs hn hp hg ha (bad_record k i) h e = not_faulty k side i v e
  taken_readings hs hn hp hg ha (records ls) h e = go (eqb (length r) (n * p)) refl e
    where
      go : (t : Bool) → eqb (length r) (n * p) ≡ t
          → cond t (vector (record { shape = shape; series = series_of p ls r })) (faulty 5 side 0) ≡ vector v → TakenIs s r v
      go false ht e = not_faulty 5 side 0 v e
      go true ht e =
          taken_last hs hn hp hg ha ls (records_read n 0 array ls h) (eqb-true (length r) (n * p) ht)
          (sym (vector_is (record { shape = shape; series = series_of p ls r }) v e))

  taken_array : sizes_length ≤ length s → n ≤ max_series → p ≤ max_points → GoodGrid shape → (t : Bool) → eqb (length array) size ≡ t
      → cond t (with_readings side n shape r (records_in n 0 array)) (faulty 3 side 0) ≡ vector v → TakenIs s r v
  taken_array hs hn hp hg false h e = not_faulty 3 side 0 v e
  taken_array hs hn hp hg true h e = taken_readings hs hn hp hg (eqb-true (length array) size h) (records_in n 0 array) refl e

  taken_grid : sizes_length ≤ length s → n ≤ max_series → p ≤ max_points → (t : Bool) → good_grid shape ≡ t
      → cond t (with_array side n shape size array r) (faulty 11 side 0) ≡ vector v
      → TakenIs s r v
  taken_grid hs hn hp false h e = not_faulty 11 side 0 v e
  taken_grid hs hn hp true h e = taken_array hs hn hp (good_grid_lem shape h) (eqb (length array) size) refl e

  taken_sizes : sizes_length ≤ length s → (t : Bool) → (leb n max_series && leb p max_points) ≡ t
      → cond t (with_grid side n shape size array r) (faulty 3 side 0) ≡ vector v → TakenIs s r v
  taken_sizes hs false h e = not_faulty 3 side 0 v e
  taken_sizes hs true h e =
      let y = both_of (leb n max_series) (leb p max_points) h in
      taken_grid hs (leb-true n max_series y.0) (leb-true p max_points y.1) (good_grid shape) refl e

  pub taken_is : take_vector side s r ≡ vector v → TakenIs s r v
  unfolding take_vector
  taken_is e = go (leb sizes_length (length s)) refl e
    where
      go : (t : Bool) → leb sizes_length (length s) ≡ t → cond t (with_sizes side n shape size array r) (faulty 3 side 0) ≡ vector v → TakenIs s r v
      go false h e = not_faulty 3 side 0 v e
      go true h e = taken_sizes (leb-true sizes_length (length s) h) _ refl e

-- a valid vector's parts are of bytes and of readings

pub labels_bytes : (p : ℕ) (ss : List Series) → All (GoodSeries p) ss → Bytes (label_bytes ss)
unfolding label_bytes
labels_bytes p [] a = tt
labels_bytes p (s ∷ ss) a = All-append _ (encode s.labels) _ (good_encoded s.labels a.0.labels a.0.few) (labels_bytes p ss a.1)

pub readings_words : (p : ℕ) (ss : List Series) → All (GoodSeries p) ss → Readings (readings_of ss)
unfolding readings_of
readings_words p [] a = tt
readings_words p (s ∷ ss) a = All-append _ s.row _ a.0.readings (readings_words p ss a.1)
