-- A side of a call once it is taken: its label array, the positions of its records, and its readings. Assumes nothing.
use Rattle.std.specs.Prelude.{ℕ, zero, suc, ◌+◌, ◌-◌, ◌≤◌, ◌<◌, ◌≡◌, List, [], ◌∷◌, length, get_or, take, drop, Result, Ok}
use Rattle.std.proofs.Common.{sym, ap, ◌∙◌, append-nil, arith, Fits, length-drop, take_all}
use Rattle.std.specs.Int.{w8, w64}
use Rattle.model.specs.Limits.{max_series, sizes_length}
use Rattle.model.specs.Lists.{All}
use Rattle.model.specs.Labels.{Labels, Bytes, WellFormed}
use Rattle.model.specs.Record.{encode}
use Rattle.model.specs.Vector.{Series, Shape, Vector, Readings, GoodSeries, GoodGrid, vector, take_vector, label_part}
use Rattle.model.proofs.Laws.Vector.{taken_is}
use Rattle.record_tags.specs.Lenient.{labels_of, labels_encoded}
use Rattle.side_parts.specs.Sides.{record_at, lent_series}
use Rattle.side_parts.specs.SideLaws.{record_starts}
use Rattle.side_parts.specs.Lent.{Held, shape_of}
use Rattle.timeseries.specs.declared.Vector as Code
use Rattle.timeseries.specs.declared.VectorFault.{VectorFault}
use Rattle.timeseries.specs.Takes.{TakenInto}
use Rattle.timeseries.specs.TakeLaws.{SideTaken, side_taken, taken_long}
use Rattle.plan.specs.Laws.Common.{no_series, get_or-labels}
use Rattle.plan.specs.Pairs.{no_labels}

-- a side that is taken, with p readings a row: with any key numbers, one for each series, it is held
pub record TakenSide (p : ℕ) (array at rows : List ℕ) : Type 0 where
  pub some : 0 < length at
  pub few : length at ≤ max_series + 1
  pub held : (keys : List ℕ) → length at ≡ length keys + 1 → Held p (record { array = array; at = at; keys = keys; rows = rows })

-- the vector that it is, on its shape
abbrev pub lent_vector : Shape → List ℕ → List ℕ → List ℕ → Vector
lent_vector shape array at rows = record { shape = shape; series = lent_series array at shape.points rows }

-- numbers of a width are bytes, or readings

pub bytes_of : (s : List ℕ) → ((j : ℕ) → Fits w8 (get_or s j 0)) → Bytes s
bytes_of [] h = tt
bytes_of (x ∷ s) h = (small x (h zero), bytes_of s (λ j. h (suc j)))
  where
    small : (y : ℕ) → Fits w8 y → y < 256
    small y f = omega (arith, f)

pub readings_of_lem : (s : List ℕ) → ((j : ℕ) → Fits w64 (get_or s j 0)) → Readings s
readings_of_lem [] h = tt
readings_of_lem (x ∷ s) h = (small x (h zero), readings_of_lem s (λ j. h (suc j)))
  where
    small : (y : ℕ) → Fits w64 y → y < 18446744073709551616
    small y f = omega (arith, f)

good_at : (p : ℕ) (ss : List Series) (i : ℕ) → All (GoodSeries p) ss → i < length ss → WellFormed (get_or ss i no_series).labels
good_at p [] i a h = absurd (omega (arith, h))
good_at p (b ∷ ss) zero a h = a.0.labels
good_at p (b ∷ ss) (suc i) a h = good_at p ss i a.1 (omega (arith, h))

labels_again : (l : Labels) → labels_of (encode l) ≡ l
labels_again l = ap labels_of (sym (append-nil (encode l))) ∙ labels_encoded l []

-- what taking leaves of a side
module _ (side : ℕ) (s x after : List ℕ) (n : ℕ) (shape : Shape) (t : SideTaken side s x after n shape) where
  abbrev at : List ℕ
  at = take (n + 1) after

  pub lent_vector_lem : take_vector side s x ≡ vector (lent_vector shape (drop sizes_length s) (take (n + 1) after) x)
  lent_vector_lem =
      let whole : t.v ≡ lent_vector shape (drop sizes_length s) (take (n + 1) after) x =
      λ i. record { shape = t.on i; series = sym t.series i } in
      t.taken ∙ ap vector whole

  module _ (bytes : Bytes s) (words : Readings x) where
    record_is : (i : ℕ) → i < n → record_at (drop sizes_length s) at i ≡ encode (get_or t.v.series i no_series).labels
    record_is i h =
        rw (t.array, t.starting) (record_starts t.v.series i no_labels (omega (arith, h, t.count)) ∙ ap encode (get_or-labels t.v.series i))

    labels_is : (i : ℕ) → i < n → labels_of (record_at (drop sizes_length s) at i) ≡ (get_or t.v.series i no_series).labels
    labels_is i h = ap labels_of (record_is i h) ∙ labels_again (get_or t.v.series i no_series).labels

    pub taken_side : TakenSide shape.points (drop sizes_length s) (take (n + 1) after) x
    taken_side =
        let is = taken_is side s x t.v bytes words t.taken in
        record {
          some = omega (arith, t.entries);
          few = omega (arith, t.entries, t.few);
          held = λ keys count.
              let many : length keys ≡ n = omega (arith, count, t.entries) in
              record {
                records = record { positions = t.positions; short = omega (arith, is.valid.bytes, ap length t.array) };
                formed =
                    record {
                      labels = λ i h.
                          rw (labels_is i (omega (arith, h, t.entries)))
                          (good_at t.v.shape.points t.v.series i is.valid.series (omega (arith, h, t.entries, t.count)));
                      encoded = λ i h. let k : i < n = omega (arith, h, t.entries) in record_is i k ∙ ap encode (sym (labels_is i k));
                    };
                rows = record { narrow = t.narrow; few = rw many t.few; whole = rw many t.rows };
                count = count;
              };
        }

-- a side that is taken from a label part s and readings x, its n + 1 positions at the start of `after`: what a caller needs of it
pub record Took (side : ℕ) (s x after : List ℕ) (n : ℕ) (shape : Shape) : Type 0 where
  pub few : n ≤ max_series
  pub fits : Fits w64 (n + 1)
  pub entries : n + 1 ≤ length after
  pub lent : n + 1 ≡ length (take (n + 1) after)
  pub sizes : sizes_length ≤ length s
  pub grid : GoodGrid shape
  pub held : TakenSide shape.points (take (length s - sizes_length) (drop sizes_length s)) (take (n + 1) after) x
  pub vector : take_vector side s x ≡ vector (lent_vector shape (take (length s - sizes_length) (drop sizes_length s)) (take (n + 1) after) x)

part_long : (shape : Shape) (ss : List Series) → sizes_length ≤ length (label_part shape ss)
unfolding label_part
part_long shape ss = omega arith

behind_sizes : (s : List ℕ) → take (length s - sizes_length) (drop sizes_length s) ≡ drop sizes_length s
behind_sizes s = take_all (length s - sizes_length) (drop sizes_length s) (omega (arith, length-drop sizes_length s))

module _ (side : ℕ) (s x before after : List ℕ) (t : Result Code.Vector VectorFault) (into : TakenInto s x before t after)
    (room : length before ≡ max_series + 1) (r : Code.Vector) (e : t ≡ Ok r) where
  abbrev n : ℕ
  n = r.series

  abbrev shape : Shape
  shape = shape_of r.shape

  taken_so : SideTaken side s x after n shape
  taken_so = side_taken side s x before after room t into r e

  pub took : ((j : ℕ) → Fits w8 (get_or s j 0)) → ((j : ℕ) → Fits w64 (get_or x j 0)) → Took side s x after n shape
  took bytes words =
      let few : n ≤ max_series = taken_so.few in
      let is = taken_is side s x taken_so.v (bytes_of s bytes) (readings_of_lem x words) taken_so.taken in
      record {
        few = few;
        fits = omega arith;
        entries = omega (arith, few, taken_long s x before after t into, room);
        lent = sym taken_so.entries;
        sizes = rw is.labels (part_long taken_so.v.shape taken_so.v.series);
        grid = rw taken_so.on at is.valid.grid;
        held = rw (behind_sizes s) (taken_side side s x after n shape taken_so (bytes_of s bytes) (readings_of_lem x words));
        vector = rw (behind_sizes s) (lent_vector_lem side s x after n shape taken_so);
      }
