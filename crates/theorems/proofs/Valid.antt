-- What a call answers is a valid vector: the claim is in Claims.Valid. Assumes nothing.
use Rattle.std.specs.Prelude.{ℕ, zero, suc, ◌≤◌, ◌<◌, ◌≡◌, refl, Bool, cond, ◌&&◌, ◌||◌, T, leb, length, get_or, Float}
use Rattle.std.proofs.Common.{sym, ap, ◌∙◌, arith, ltb-false}
use Rattle.std.proofs.Math.Bool.{true, false}
use Rattle.std.proofs.Math.Option.{Option, none, some}
use mathlib.Core.List.{List, [], ◌∷◌, ◌++◌}
use Rattle.std.proofs.Math.Dec.{ltb}
use Rattle.std.specs.Float.{binary64}
use Rattle.std.specs.Float.Ieee.{of_bits, to_bits, fits}
use Rattle.std.specs.Float.Ieee.Fits.{add-fits, sub-fits, mul-fits, div-fits, rem-fits}
use Rattle.std.specs.Float.Ieee.Bits.{to_bits-lt, of_bits-fits}
use Rattle.operator.specs.declared.Operator.{Operator}
use Rattle.operator.specs.Kinds.{Arithmetic, sum, difference, product, quotient, remainder, Comparison, Kind, arithmetic, comparison, set_rule}
use Rattle.operator.specs.Kinds.{fallback, not_carried, SetRule, where_found, where_none, filled, kind_of}
use Rattle.model.specs.Limits.{max_tags, max_points}
use Rattle.model.specs.Lists.{cases, All}
use Rattle.model.specs.Reading.{missing, no_reading, calculated, holds, one_or_zero, comparison_value, compared, scalar_of_kind, scalar_op}
use Rattle.model.specs.Row.{only_missing, zip_with, merged, overwritten, overlaps}
use Rattle.model.specs.Labels.{Labels, WellFormed}
use Rattle.model.specs.Edits.{Names}
use Rattle.model.specs.Query.{Query, same_key, should_reset_metric_group, Matching, all, on, ignoring, Join, one_to_one, group, Side, left, right}
use Rattle.model.specs.Vector.{Series, Shape, Vector, vector, take_vector, sizes_of, label_part, label_bytes, readings_of}
use Rattle.model.specs.Vector.{Readings, GoodSeries, GoodGrid, Valid}
use Rattle.model.proofs.Laws.Booleans.{neither_of}
use Rattle.model.proofs.Laws.Lists.{All-map, All-append}
use Rattle.model.proofs.Laws.Edits.{clear_well, on_well, ignoring_well, set_tags_well}
use Rattle.model.proofs.Laws.Row.{overwritten_wide, zip_wide}
use Rattle.model.proofs.Laws.Vector.{take-valid, readings_length, labels_bytes, readings_words}
use Rattle.semantics.specs.Places.{Placed, numbered, placed, Rank}
use Rattle.semantics.specs.Events.{Ranked, Verdict, answer, duplicate}
use Rattle.semantics.specs.Rules.{with_row, merged_into}
use Rattle.semantics.specs.Binop.{edited_by, adjust_binary_op_tags, paired, skip_list, joined_labels, joined_pair, join_rows, join_work}
use Rattle.semantics.specs.Binop.{matched_rule, Found, first_reading, some_reading, filled_from, set_reading, pointwise, unless_only_missing, staying, met}
use Rattle.semantics.specs.Binop.{alone, adds, Seen, unmatched, scalar_side, is_bare, look, rule_of}
use Rattle.semantics.specs.Call.{refused, answered, concluded, verdict, fit, over_tags}
use Rattle.theorems.proofs.Laws.Sound.{Each, Keeps, Sure, Holds, run_holds, dropping_keeps, one_to_one_keeps, joined_keeps, set_rule_keeps}
use Rattle.theorems.specs.Claims.Outcomes.{written, series_in}
use Rattle.theorems.specs.Claims.Partition.{refused_otherwise}
use Rattle.theorems.specs.Claims.Valid.{ValidAnswer, AnswersAreValid}
use Rattle.theorems.proofs.Dealing.Fitting.{Fits, fits_fit, Way, fine, too_big, no_room, fit_way}
use Rattle.theorems.proofs.Outcomes.{taken_call}
use Rattle.theorems.proofs.Partition.{has_sides, left_valid, right_valid}

-- readings stay below 2^64

abbrev pub Word : ℕ → Type 0
Word x = x < 18446744073709551616

written_word : (v : Float) → T (fits binary64 v) → Word (to_bits binary64 v)
written_word v h = to_bits-lt binary64 v h

calculated_word : (k : Arithmetic) (a b : ℕ) → Word (calculated k a b)
unfolding calculated
calculated_word sum a b = written_word _ (add-fits binary64 (of_bits binary64 a) (of_bits binary64 b))
calculated_word difference a b = written_word _ (sub-fits binary64 (of_bits binary64 a) (of_bits binary64 b))
calculated_word product a b = written_word _ (mul-fits binary64 (of_bits binary64 a) (of_bits binary64 b))
calculated_word quotient a b = written_word _ (div-fits binary64 (of_bits binary64 a) (of_bits binary64 b))
calculated_word remainder a b = written_word _ (rem-fits binary64 (of_bits binary64 a) (of_bits binary64 b) (of_bits-fits binary64 a))

cond_word : (t : Bool) (x y : ℕ) → Word x → Word y → Word (cond t x y)
cond_word true x y h k = h
cond_word false x y h k = k

no_reading_word : Word no_reading
no_reading_word = omega arith

one_or_zero_word : (t : Bool) → Word (one_or_zero t)
one_or_zero_word true = omega arith
one_or_zero_word false = omega arith

value_word : (bool h : Bool) (a : ℕ) → Word a → Word (comparison_value bool h a)
value_word true h a k = cond_word (missing a) no_reading (one_or_zero h) no_reading_word (one_or_zero_word h)
value_word false h a k = cond_word h a no_reading k no_reading_word

compared_word : (bool : Bool) (c : Comparison) (a b : ℕ) → Word a → Word (compared bool c a b)
unfolding compared
compared_word bool c a b h = cond_word (missing b) no_reading _ no_reading_word (value_word bool (holds c a b) a h)

kind_word : (k : Kind) (bool : Bool) (a b : ℕ) → Word a → Word (scalar_of_kind k bool a b)
kind_word (arithmetic k) bool a b h = calculated_word k a b
kind_word (comparison c) bool a b h = compared_word bool c a b h
kind_word (set_rule s) bool a b h = no_reading_word
kind_word (fallback s) bool a b h = no_reading_word
kind_word not_carried bool a b h = no_reading_word

scalar_word : (o : Operator) (bool : Bool) (a b : ℕ) → Word a → Word (scalar_op o bool a b)
unfolding scalar_op
scalar_word o bool a b h = kind_word (kind_of o) bool a b h

-- rows

pub record GoodRow (p : ℕ) (r : List ℕ) : Type 0 where
  pub width : length r ≡ p
  pub words : Readings r

overwritten_words : (d s : List ℕ) → Readings d → Readings s → Readings (overwritten d s)
unfolding overwritten
overwritten_words [] s h k = tt
overwritten_words (x ∷ d) [] h k = h
overwritten_words (x ∷ d) (y ∷ s) h k = (cond_word (missing y) x y h.0 k.0, overwritten_words d s h.1 k.1)

zip_words : (op : ℕ → ℕ → ℕ) → ((a b : ℕ) → Word a → Word (op a b)) → (x y : List ℕ) → Readings x → Readings (zip_with op x y)
unfolding zip_with
zip_words op w [] y h = tt
zip_words op w (a ∷ x) [] h = tt
zip_words op w (a ∷ x) (b ∷ y) h = (w a b h.0, zip_words op w x y h.1)

zip_good : (p : ℕ) (o : Operator) (bool : Bool) (x y : List ℕ) → GoodRow p x → GoodRow p y → GoodRow p (zip_with (scalar_op o bool) x y)
zip_good p o bool x y h k =
    record { width = zip_wide (scalar_op o bool) p x y h.width k.width; words = zip_words (scalar_op o bool) (scalar_word o bool) x y h.words }

pub pointwise_length : (f : ℕ → ℕ → ℕ) (i : ℕ) (x : List ℕ) → length (pointwise f i x) ≡ length x
pointwise_length f i [] = refl
pointwise_length f i (a ∷ x) = ap suc (pointwise_length f (suc i) x)

pub pointwise_words : (f : ℕ → ℕ → ℕ) → ((i x : ℕ) → Word x → Word (f i x)) → (i : ℕ) (x : List ℕ) → Readings x → Readings (pointwise f i x)
pointwise_words f w i [] h = tt
pointwise_words f w i (a ∷ x) h = (w i a h.0, pointwise_words f w (suc i) x h.1)

word_at : (r : List ℕ) (i : ℕ) → Readings r → Word (get_or r i no_reading)
word_at [] i h = no_reading_word
word_at (x ∷ r) zero h = h.0
word_at (x ∷ r) (suc i) h = word_at r i h.1

-- series: well-formed labels and a row of p readings

pub record Proper (p : ℕ) (b : Series) : Type 0 where
  pub labels : WellFormed b.labels
  pub row : GoodRow p b.row

module _ (p : ℕ) where
  merge_sure_lem : (n : ℕ) (b c : Series) → Proper p b → Proper p c → Sure (Proper p) (merged_into n b c)
  unfolding merged_into merged
  merge_sure_lem n b c h k = go (leb (length b.row) 2 || ltb n (overlaps b.row c.row))
    where
      go : (t : Bool) → Sure (Proper p) (with_row b (cond t none (some (overwritten b.row c.row))))
      go true = tt
      go false =
          record {
            labels = h.labels;
            row = record {
              width = overwritten_wide b.row c.row
                  ∙ h.row.width;
              words = overwritten_words b.row c.row h.row.words k.row.words;
            };
          }

  edited_well : (m : Matching) (names : Names) (keep_names : Bool) (l : Labels) → WellFormed l → WellFormed (edited_by m names keep_names l)
  edited_well all names keep_names l h = ignoring_well [] l h
  edited_well on names keep_names l h = on_well _ l h
  edited_well ignoring names keep_names l h = ignoring_well names l h

  paired_proper : (q : Query) (b c : Series) → Proper p b → Proper p c → Proper p (paired q b c)
  unfolding paired adjust_binary_op_tags
  paired_proper q b c h k =
      record {
        labels = edited_well q.matching q.matching_list q.keep_names _ (clear_well (should_reset_metric_group q) b.labels h.labels);
        row = zip_good p q.operator q.bool b.row c.row h.row k.row;
      }

  joined_proper : (q : Query) (b c : Series) → Proper p b → Proper p c → Proper p (joined_pair q b c)
  unfolding joined_labels
  joined_proper q b c h k =
      record {
        labels = set_tags_well q.join_list (skip_list q.matching q.matching_list) c.labels _ k.labels
            (clear_well (should_reset_metric_group q) b.labels h.labels);
        row = k.row;
      }

  rows_good : (many : Side) (o : Operator) (bool : Bool) (x y : List ℕ) → GoodRow p x → GoodRow p y → GoodRow p (join_rows many (scalar_op o bool) x y)
  rows_good left o bool x y h k = zip_good p o bool x y h k
  rows_good right o bool x y h k = zip_good p o bool y x k h

  worked_proper : (q : Query) (many : Side) (b c : Series) → Proper p b → Proper p c → Proper p (join_work q many b c)
  unfolding join_work
  worked_proper q many b c h k = record { labels = k.labels; row = rows_good many q.operator q.bool b.row c.row h.row k.row }

  matched_keeps : (q : Query) (j : Join) → Keeps (Proper p) (matched_rule q j)
  matched_keeps q one_to_one = one_to_one_keeps (Proper p) q.allowance (merge_sure_lem q.allowance) (paired q) (paired_proper q)
  matched_keeps q (group many) =
      joined_keeps (Proper p) q.allowance (merge_sure_lem q.allowance) (joined_pair q) (joined_proper q) (join_work q many)
      (worked_proper q many) many

  FoundWord : Option Found → Type 0
  FoundWord none = Unit {0}
  FoundWord (some f) = Word f.reading

  found_word : (rs : List Placed) (i : ℕ) → Each (Proper p) rs → FoundWord (first_reading rs i)
  unfolding first_reading FoundWord
  found_word [] i a = tt
  found_word (r ∷ rs) i a = cases (missing (get_or r.series.row i no_reading)) (λ e. rw e (found_word rs i a.1))
      (λ e. rw e (word_at r.series.row i a.0.row.words))

  filled_word : (o : Option Found) (x : ℕ) → FoundWord o → Word x → Word (filled_from o x)
  unfolding FoundWord
  filled_word none x h k = k
  filled_word (some f) x h k = h

  set_word : (k : SetRule) (rs : List Placed) → Each (Proper p) rs → (i x : ℕ) → Word x → Word (set_reading k rs i x)
  set_word where_found rs a i x h = cond_word (some_reading rs i) x no_reading h no_reading_word
  set_word where_none rs a i x h = cond_word (some_reading rs i) no_reading x no_reading_word h
  set_word filled rs a i x h = cond_word (missing x) _ x (filled_word (first_reading rs i) x (found_word rs i a) h) h

  optional_sure : (b : Series) → Proper p b → Sure (Proper p) (unless_only_missing b)
  optional_sure b h = go (only_missing b.row)
    where
      go : (t : Bool) → Sure (Proper p) (cond t none (some b))
      go true = tt
      go false = h

  staying_sure : (k : SetRule) (b : Series) → Proper p b → Sure (Proper p) (staying k b)
  staying_sure where_found b h = optional_sure b h
  staying_sure where_none b h = optional_sure b h
  staying_sure filled b h = h

  met_sure : (k : SetRule) (b : Series) (rs : List Placed) → Proper p b → Each (Proper p) rs → Sure (Proper p) (met k b rs)
  unfolding met
  met_sure k b rs h a =
      staying_sure k _
      (record {
        labels = h.labels;
        row = record {
          width = pointwise_length _ 0 b.row
              ∙ h.row.width;
          words = pointwise_words (set_reading k rs) (set_word k rs a) 0 b.row h.row.words;
        };
      })

  alone_sure : (k : SetRule) (b : Series) → Proper p b → Sure (Proper p) (alone k b)
  alone_sure where_found b h = tt
  alone_sure where_none b h = h
  alone_sure filled b h = h

  unmatched_sure : (k : SetRule) (o : Option Series) → Sure (Proper p) o → (b : Series) → Proper p b → Sure (Proper p) (unmatched k o b)
  unmatched_sure k none s b h = alone_sure k b h
  unmatched_sure k (some r) s b h = met_sure k b _ h (s, tt)

  rule_keeps : (q : Query) (k : Kind) (c : Seen) → Sure (Proper p) c.fallback_to → Keeps (Proper p) (rule_of q k c)
  rule_keeps q (arithmetic a) c s = dropping_keeps (Proper p) (matched_rule q q.join) (matched_keeps q q.join)
  rule_keeps q (comparison t) c s = matched_keeps q q.join
  rule_keeps q (set_rule k) c s = set_rule_keeps (Proper p) (adds k && c.adds_right) (unmatched k c.fallback_to) (met k)
      (unmatched_sure k c.fallback_to s) (met_sure k)
  rule_keeps q (fallback k) c s = set_rule_keeps (Proper p) (adds k && c.adds_right) (unmatched k c.fallback_to) (met k)
      (unmatched_sure k c.fallback_to s) (met_sure k)
  rule_keeps q not_carried c s = record { keeps = λ s xs a b. tt }

  scalar_sure : (rs : List Series) → All (Proper p) rs → Sure (Proper p) (scalar_side rs)
  scalar_sure [] a = tt
  scalar_sure (r ∷ []) a = go (is_bare r.labels)
    where
      go : (t : Bool) → Sure (Proper p) (cond t (some r) none)
      go true = a.0
      go false = tt
  scalar_sure (r ∷ s ∷ rs) a = tt

  look_sure : (k : Kind) (ls rs : List Series) → All (Proper p) rs → Sure (Proper p) (look k ls rs).fallback_to
  look_sure (arithmetic a) ls rs h = tt
  look_sure (comparison t) ls rs h = tt
  look_sure (set_rule k) ls rs h = tt
  look_sure (fallback k) ls rs h = scalar_sure rs h
  look_sure not_carried ls rs h = tt

  pub numbered_each : (s : Side) (g : ℕ → ℕ) (bs : List Series) → All (Proper p) bs → Each (Proper p) (numbered s g bs)
  numbered_each s g [] a = tt
  numbered_each s g (b ∷ bs) a = (a.0, numbered_each s (λ i. g (suc i)) bs a.1)

  verdict_proper : (q : Query) (ls rs : List Series) → All (Proper p) ls → All (Proper p) rs → Holds (Proper p) (verdict q ls rs)
  unfolding verdict
  verdict_proper q ls rs a b =
      run_holds (Proper p) (same_key q) _ (rule_keeps q (kind_of q.operator) _
      (look_sure (kind_of q.operator) ls rs b)) (placed ls rs)
      (All-append _ (numbered left (λ i. i) ls) (numbered right (λ i. i) rs) (numbered_each left (λ i. i) ls a) (numbered_each right (λ i. i) rs b))

  pub proper_each : (bs : List Series) → All (GoodSeries p) bs → All (Proper p) bs
  proper_each bs a = All-map (λ b h. record { labels = h.labels; row = record { width = h.width; words = h.readings } }) bs a

  good_each : (bs : List Series) → All (Proper p) bs → over_tags bs ≡ false → All (GoodSeries p) bs
  good_each [] a t = tt
  good_each (b ∷ bs) a t =
      let h = neither_of (ltb max_tags (length b.labels.tags)) (over_tags bs) t in (
        record {
          labels = a.0.labels;
          few = ltb-false max_tags (length b.labels.tags)
              h.0;
          width = a.0.row.width;
          readings = a.0.row.words;
        },
        good_each bs a.1 h.1,
      )

series_each : (P : Series → Type 0) (l : List (Ranked Rank Series)) → All (λ e. P e.what) l → All P (series_in l)
series_each P [] a = tt
series_each P (e ∷ l) a = (a.0, series_each P l a.1)

not_refused : {X : Type 0} (k i j n : ℕ) (shape : Shape) (x y : List ℕ) → refused k i j ≡ answered n shape x y → X
not_refused k i j n shape x y e = absurd (let z : ◌≡◌ {A = ℕ} 0 1 = cc in omega arith)

taken_again : (side : ℕ) (v : Vector) → Valid v
    → take_vector side (sizes_of (length v.series) v.shape (length (label_bytes v.series)) ++ label_bytes v.series)
    (readings_of v.series) ≡ vector v
unfolding label_part
taken_again side v h = take-valid side v h

module _ (a b n : ℕ) (given : Shape) (x y : List ℕ) where
  -- an answer that fits
  borne_out : (v : Vector) → Valid v → Fits a b v.shape v.series
      → written v.shape v.series ≡ answered n given x y → ValidAnswer a b n given x y
  borne_out v h f e =
      let count : n ≡ length v.series = cc in
      let on_grid : given ≡ v.shape = cc in
      let labels : x ≡ label_bytes v.series = cc in
      let readings : y ≡ readings_of v.series = cc in
      let size = readings_length v.shape.points v.series h.series in
      record {
        v = v;
        count = count;
        on_grid = on_grid;
        labels = labels;
        readings = readings;
        valid = h;
        bytes = rw labels (labels_bytes v.shape.points v.series h.series);
        words = rw readings (readings_words v.shape.points v.series h.series);
        size = rw (readings, count, on_grid) size;
        labels_fit = rw labels f.labels;
        readings_fit = rw (readings, size) f.rows;
        again = λ side. rw (count, on_grid, labels, readings) (taken_again side v h);
      }

  fitted : (shape : Shape) (ss : List Series) → shape.points ≤ max_points → GoodGrid shape → All (Proper shape.points) ss
      → Way a b shape ss (fit a b shape ss)
      → fit a b shape ss ≡ answered n given x y
      → ValidAnswer a b n given x y
  fitted shape ss s r g (too_big w) e = not_refused 9 0 0 n given x y (sym w ∙ e)
  fitted shape ss s r g (no_room w) e = not_refused 10 0 0 n given x y (sym w ∙ e)
  fitted shape ss s r g (fine f) e =
      borne_out (record { shape = shape; series = ss })
      (record { few = f.few; points = s; grid = r; bytes = f.bytes; series = good_each shape.points ss g f.tags })
      f (sym (fits_fit a b shape ss f) ∙ e)

  pub concluded_valid : (shape : Shape) → shape.points ≤ max_points → GoodGrid shape → (v : Verdict) → Holds (Proper shape.points) v
      → concluded a b shape v ≡ answered n given x y → ValidAnswer a b n given x y
  concluded_valid shape s r (duplicate c) h e = not_refused _ _ _ n given x y e
  concluded_valid shape s r (answer l) h e = fitted shape (series_in l) s r (series_each _ l h) (fit_way a b shape (series_in l)) e

pub answers_are_valid : AnswersAreValid
answers_are_valid s ll lr rl rr bl wl br wr a b n given x y e =
    let o = has_sides s ll lr rl rr a b (ap refused_otherwise e) in
    let hl = left_valid s ll lr rl rr bl wl br wr o.q o.shape o.ls o.rs o.taken in
    let hr = right_valid s ll lr rl rr bl wl br wr o.q o.shape o.ls o.rs o.taken in
    concluded_valid a b n given x y o.shape hl.points hl.grid (verdict o.q o.ls o.rs)
    (verdict_proper o.shape.points o.q o.ls o.rs (proper_each o.shape.points o.ls hl.series)
    (proper_each o.shape.points o.rs hr.series))
    (sym (taken_call s ll lr rl rr o.q o.shape o.ls o.rs o.taken a b) ∙ e)
