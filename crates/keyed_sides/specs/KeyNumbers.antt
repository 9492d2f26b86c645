-- The code's key numbers are those of the plan. Assumes nothing.
use Rattle.std.specs.Prelude.{ℕ, ◌≤◌, ◌<◌, ◌≡◌, refl, false, List, [], ◌∷◌, ◌++◌, eqb, length, get_or, take, drop}
use Rattle.std.proofs.Common.{sym, ap, ◌∙◌, arith}
use Rattle.model.specs.Labels.{Labels}
use Rattle.model.specs.Query.{Query, same_key}
use Rattle.model.specs.Vector.{Series, series_of}
use Rattle.model.proofs.Laws.Vector.{series_labels, series_count_lem}
use Rattle.keyed_sides.specs.Dropped.{kept_number, dropped_missing}
use Rattle.key_numbers.specs.key_lookup.Keys.{same_keys, numbers}
use Rattle.key_numbers.specs.key_lookup.KeyLaws.{left_left_lem, left_right_lem, right_right_lem, left_below_lem, right_below_lem}
use Rattle.plan.specs.Laws.Common.{no_series, get_or-labels}
use Rattle.plan.specs.Laws.Numbers.{TellsKeys, KeysTold, dropped_keys}
use Rattle.plan.specs.Pairs.{no_labels}

-- series dropped by their rows in one array
pub dropped_rows : (p : ℕ) (rows : List ℕ) (ks : List ℕ) (ls : List Labels) → length ks ≡ length ls
    → dropped_keys ks (series_of p ls rows) ≡ dropped_missing p rows ks
unfolding dropped_keys dropped_missing series_of
dropped_rows p rows [] [] e = refl
dropped_rows p rows [] (l ∷ ls) e = absurd (omega (arith, e))
dropped_rows p rows (k ∷ ks) [] e = absurd (omega (arith, e))
dropped_rows p rows (k ∷ ks) (l ∷ ls) e = ap (λ x. kept_number (take p rows) k ∷ x) (dropped_rows p (drop p rows) ks ls (omega (arith, e)))

label_at : (p : ℕ) (ls : List Labels) (readings : List ℕ) (i : ℕ) → (get_or (series_of p ls readings) i no_series).labels ≡ get_or ls i no_labels
label_at p ls readings i = sym (get_or-labels (series_of p ls readings) i) ∙ ap (λ x. get_or x i no_labels) (series_labels p ls readings)

-- both sides numbered by first place
module _ (q : Query) (p : ℕ) (lefts rights : List Labels) (rows rows' keys keys' : List ℕ)
    (n : keys ≡ numbers false q.matching q.matching_list lefts lefts)
    (n' : keys' ≡ numbers false q.matching q.matching_list (lefts ++ rights) rights)
    (count : length keys ≡ length lefts) (count' : length keys' ≡ length rights) (few : length lefts ≤ 512) (few' : length rights ≤ 512) where
  abbrev ls : List Series
  ls = series_of p lefts rows

  abbrev rs : List Series
  rs = series_of p rights rows'

  tells : (cs ds : List Labels) (xs ys rows_c rows_d : List ℕ)
      → ((i j : ℕ) → i < length cs → j < length ds → eqb (get_or xs i 0) (get_or ys j 0)
      ≡ same_keys false q.matching q.matching_list (get_or cs i no_labels) (get_or ds j no_labels))
      → TellsKeys q (series_of p cs rows_c) (series_of p ds rows_d) xs ys
  unfolding same_key
  tells cs ds xs ys rows_c rows_d h =
      record {
        tells = λ i j hi hj. rw (label_at p cs rows_c i, label_at p ds rows_d j)
            (h i j (rw (series_count_lem p cs rows_c) at hi) (rw (series_count_lem p ds rows_d) at hj));
      }

  pub keys_told : KeysTold q (series_of p lefts rows) (series_of p rights rows') keys keys'
  keys_told =
      record {
        same_left = count ∙ sym (series_count_lem p lefts rows);
        same_right = count' ∙ sym (series_count_lem p rights rows');
        left_left = tells lefts lefts keys keys rows rows
            (left_left_lem false q.matching q.matching_list lefts rights keys keys' n n' no_labels);
        left_right = tells lefts rights keys keys' rows rows'
            (left_right_lem false q.matching q.matching_list lefts rights keys keys' n n' no_labels);
        right_right = tells rights rights keys' keys' rows' rows'
            (right_right_lem false q.matching q.matching_list lefts rights keys keys' n n' no_labels);
        left_below = λ i h. let z = left_below_lem false q.matching q.matching_list lefts rights
            keys keys' n n' no_labels i
            (rw (series_count_lem p lefts rows) at h) in omega (arith, z, few, few');
        right_below = λ i h. let z = right_below_lem false q.matching q.matching_list lefts rights
            keys keys' n n' no_labels i
            (rw (series_count_lem p rights rows') at h) in omega (arith, z, few, few');
      }
