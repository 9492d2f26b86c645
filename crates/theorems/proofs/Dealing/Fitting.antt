-- What fits, and that the parts of what fits fit. Assumes nothing.
use Rattle.std.specs.Prelude.{ℕ, ◌+◌, ◌*◌, ◌≤◌, ◌≡◌, refl, Bool, true, false, cond, ◌||◌, List, [], ◌∷◌, ltb, length}
use Rattle.std.proofs.Common.{sym, ap, ◌∙◌, arith, mul-le-mul_right, le_trans, length-append, ltb-false, le-ltb, lt-ltb}
use Rattle.model.specs.Limits.{max_series, max_tags, max_label_bytes}
use Rattle.model.specs.Lists.{cases}
use Rattle.model.specs.Record.{encode}
use Rattle.model.specs.Vector.{Series, Shape, label_bytes}
use Rattle.semantics.specs.Places.{Rank, rank_before}
use Rattle.semantics.specs.Events.{Ranked}
use Rattle.semantics.specs.Call.{Outcome, refused, fit, over_tags}
use Rattle.theorems.specs.Claims.Dealing.{insert, weave}
use Rattle.theorems.specs.Claims.Outcomes.{written, series_in}

pub record Fits (label_room room : ℕ) (shape : Shape) (ss : List Series) : Type 0 where
  pub few : length ss ≤ max_series
  pub tags : over_tags ss ≡ false
  pub bytes : length (label_bytes ss) ≤ max_label_bytes
  pub labels : length (label_bytes ss) ≤ label_room
  pub rows : length ss * shape.points ≤ room

pub fits_fit : (a b : ℕ) (shape : Shape) (ss : List Series) → Fits a b shape ss → fit a b shape ss ≡ written shape ss
unfolding fit
fits_fit a b shape ss h =
    rw (
      le-ltb max_series (length ss) h.few,
      h.tags,
      le-ltb max_label_bytes (length (label_bytes ss)) h.bytes,
      le-ltb a (length (label_bytes ss)) h.labels,
      le-ltb b (length ss * shape.points) h.rows,
    )

-- an answer fits, or it is refused
pub data Way (a b : ℕ) (shape : Shape) (ss : List Series) (o : Outcome) : Type 0 where
  fine : Fits a b shape ss → Way a b shape ss o
  too_big : o ≡ refused 9 0 0 → Way a b shape ss o
  no_room : o ≡ refused 10 0 0 → Way a b shape ss o

fit_cases : (a b : ℕ) (shape : Shape) (ss : List Series) (s t u v w : Bool)
    → ltb max_series (length ss) ≡ s → over_tags ss ≡ t → ltb max_label_bytes (length (label_bytes ss)) ≡ u → ltb a (length (label_bytes ss)) ≡ v
    → ltb b (length ss * shape.points) ≡ w
    → Way a b shape ss (cond (s || (t || u)) (refused 9 0 0) (cond (v || w) (refused 10 0 0) (written shape ss)))
fit_cases a b shape ss true t u v w e f g h i = too_big refl
fit_cases a b shape ss false true u v w e f g h i = too_big refl
fit_cases a b shape ss false false true v w e f g h i = too_big refl
fit_cases a b shape ss false false false true w e f g h i = no_room refl
fit_cases a b shape ss false false false false true e f g h i = no_room refl
fit_cases a b shape ss false false false false false e f g h i =
    fine (record { few = ltb-false _ _ e; tags = f; bytes = ltb-false _ _ g; labels = ltb-false _ _ h; rows = ltb-false _ _ i })

pub fit_way : (a b : ℕ) (shape : Shape) (ss : List Series) → Way a b shape ss (fit a b shape ss)
unfolding fit
fit_way a b shape ss = fit_cases a b shape ss _ _ _ _ _ refl refl refl refl refl

-- sizes add up when two answers are woven

module _ (size : Ranked Rank Series → ℕ) where
  abbrev total : List (Ranked Rank Series) → ℕ
  total [] = 0
  total (e ∷ l) = size e + total l

  total_insert : (e : Ranked Rank Series) (l : List (Ranked Rank Series)) → total (insert rank_before e l) ≡ size e + total l
  total_insert e [] = refl
  total_insert e (b ∷ bs) = cases (rank_before b.rank e.rank) (λ q. rw q (omega (arith, total_insert e bs))) (λ q. rw q)

  total_weave : (l m : List (Ranked Rank Series)) → total (weave rank_before l m) ≡ total l + total m
  total_weave [] m = omega arith
  total_weave (e ∷ l) m = omega (arith, total_insert e (weave rank_before l m), total_weave l m)

bytes_of : Ranked Rank Series → ℕ
bytes_of e = length (encode e.what.labels)

wide : Ranked Rank Series → ℕ
wide e = cond (ltb max_tags (length e.what.labels.tags)) 1 0

unit : Ranked Rank Series → ℕ
unit e = 1

length-total : (l : List (Ranked Rank Series)) → length (series_in l) ≡ total unit l
unfolding unit
length-total [] = refl
length-total (e ∷ l) = omega (arith, length-total l)

bytes_total : (l : List (Ranked Rank Series)) → length (label_bytes (series_in l)) ≡ total bytes_of l
unfolding label_bytes bytes_of
bytes_total [] = refl
bytes_total (e ∷ l) = rw (length-append, bytes_total l)

tags_total : (l : List (Ranked Rank Series)) → over_tags (series_in l) ≡ ltb 0 (total wide l)
unfolding wide
tags_total [] = refl
tags_total (e ∷ l) = go (ltb max_tags (length e.what.labels.tags)) (over_tags (series_in l)) (total wide l) (tags_total l)
  where
    go : (t u : Bool) (n : ℕ) → u ≡ ltb 0 n → (t || u) ≡ ltb 0 (cond t 1 0 + n)
    go true u n h = sym (lt-ltb 0 (1 + n) (omega arith))
    go false u n h = let z : n ≡ 0 + n = omega arith in h ∙ ap (ltb 0) z

pub length-weave : (l m : List (Ranked Rank Series)) → length (series_in (weave rank_before l m)) ≡ length (series_in l) + length (series_in m)
length-weave l m = rw (length-total l, length-total m, length-total (weave rank_before l m)) (total_weave unit l m)

pub bytes_weave : (l m : List (Ranked Rank Series)) → length (label_bytes (series_in (weave rank_before l m)))
    ≡ length (label_bytes (series_in l)) + length (label_bytes (series_in m))
bytes_weave l m = rw (bytes_total l, bytes_total m, bytes_total (weave rank_before l m)) (total_weave bytes_of l m)

-- a part of what fits
within : (a b : ℕ) (shape : Shape) (part ss : List Series) → length part ≤ length ss → length (label_bytes part) ≤ length (label_bytes ss)
    → over_tags part ≡ false → Fits a b shape ss → Fits a b shape part
within a b shape part ss n s t h =
    record {
      few = omega (arith, h.few);
      tags = t;
      bytes = omega (arith, h.bytes);
      labels = omega (arith, h.labels);
      rows = le_trans (mul-le-mul_right shape.points n) h.rows;
    }

no_tags_lem : (l m : List (Ranked Rank Series)) → over_tags (series_in (weave rank_before l m)) ≡ false
    → (over_tags (series_in l) ≡ false) × (over_tags (series_in m) ≡ false)
no_tags_lem l m h =
    let z : total wide (weave rank_before l m) ≤ 0 = ltb-false _ _ (sym (tags_total (weave rank_before l m)) ∙ h) in
    let y = total_weave wide l m in
    (tags_total l ∙ le-ltb 0 (total wide l) (omega (arith, y)), tags_total m ∙ le-ltb 0 (total wide m) (omega (arith, y)))

pub fits_weave : (a b : ℕ) (shape : Shape) (l m : List (Ranked Rank Series)) → Fits a b shape (series_in (weave rank_before l m))
    → Fits a b shape (series_in l) × Fits a b shape (series_in m)
fits_weave a b shape l m h =
    let t = no_tags_lem l m h.tags in
    let n = length-weave l m in
    let s = bytes_weave l m in (
      within a b shape (series_in l) (series_in (weave rank_before l m)) (omega (arith, n)) (omega (arith, s)) t.0 h,
      within a b shape (series_in m) (series_in (weave rank_before l m)) (omega (arith, n)) (omega (arith, s)) t.1 h,
    )
