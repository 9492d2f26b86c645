-- `walk_records`: what is left to walk gives what the whole gives, and the positions noted so far come before those left to note.
-- Assumes nothing.
use Prim.Native.Nat.{ℕ, suc, ◌+◌, ◌-◌, ◌≤◌, ◌<◌}
use mathlib.Core.Path.{◌≡◌, refl, sym, ap, subst, ◌∙◌}
use mathlib.Core.List.{List, [], ◌∷◌}
use native.Mathlib.Numerals.{add-one}
use native.Mathlib.Omega.{arith}
use lib.ListN.{length, drop, set, length-drop, drop_of_length-le}
use lib.Seq.{drop-cons, sets}
use Rattle.model.specs.Labels.{Labels}
use Rattle.model.specs.Record.{Decoded, decoded, cut, bad_key, decode}
use Rattle.model.specs.Vector.{Records, records, bad_record, with_record, on_decoded, records_in}
use Rattle.label_records.specs.Records.{refusal, record_answer, decoded_answer}
use Rattle.record_tags.specs.Lenient.{RecordAt, record_found}
use Rattle.std.specs.Prelude.{Result, Ok, Err, MatchResult, IsErrAnd}
use Rattle.label_records.specs.declared.RecordFault.{RecordFault}
use Rattle.label_records.specs.declared.RecordFault.TheVariants as R
use Rattle.timeseries.specs.record_walk.Walks.{whole, fault, record_fault, records_answer, on_rest, noted, WalkedInto}
use Rattle.timeseries.specs.declared.VectorFault.{VectorFault}
use Rattle.timeseries.specs.declared.VectorFault.TheVariants as W

-- i records are walked, up to p
pub record Walking (array : List ℕ) (n : ℕ) (before at : List ℕ) (i p : ℕ) : Type 0 where
  pub few : n ≤ 512
  pub passed : i ≤ n
  pub within : p ≤ length array
  pub outcome : records_answer (records_in n 0 array) ≡ records_answer (records_in (n - i) i (drop p array))
  pub positions : sets before 0 (noted (length array) n array) ≡ sets at i (noted (length array) (n - i) (drop p array))

pub walk_starts : (array : List ℕ) (n : ℕ) (before : List ℕ) → n ≤ 512 → Walking array n before before 0 0
walk_starts array n before h =
    let m : n - 0 ≡ n = omega arith in
    record { few = h; passed = omega arith; within = omega arith; outcome = rw m; positions = rw m }

-- the definitions, a record at a time

records_one : (k i : ℕ) (s : List ℕ) → records_in (suc k) i s ≡ on_decoded i (decode s) (records_in k (suc i))
unfolding records_in
records_one k i s = refl

noted_one : (size k : ℕ) (s : List ℕ) → noted size (suc k) s ≡ (size - length s) ∷ on_rest (decode s) (noted size k)
unfolding noted
noted_one size k s = refl

noted_last : (size : ℕ) (s : List ℕ) → noted size 0 s ≡ (size - length s) ∷ []
unfolding noted
noted_last size s = refl

walked_later : (l : Labels) (w : Records) → records_answer (with_record l w) ≡ records_answer w
walked_later l (records ls) = refl
walked_later l (bad_record k i) = refl

module _ (array : List ℕ) (n : ℕ) (before at : List ℕ) (i p : ℕ) (v : Walking array n before at i p) where
  start_here : length array - length (drop p array) ≡ p
  start_here = rw (length-drop p array) (omega (arith, v.within))

  module _ (h : i < n) where
    more : n - i ≡ suc (n - (i + 1))
    more = omega arith

    outcome_step : records_answer (records_in n 0 array) ≡ records_answer (on_decoded i (decode (drop p array)) (records_in (n - (i + 1)) (suc i)))
    outcome_step =
        v.outcome ∙ ap (λ (m : ℕ). records_answer (records_in m i (drop p array))) more
        ∙ ap records_answer (records_one (n - (i + 1)) i (drop p array))

    positions_step : sets before 0 (noted (length array) n array)
        ≡ sets (set at i p) (suc i) (on_rest (decode (drop p array)) (noted (length array) (n - (i + 1))))
    positions_step =
        v.positions
        ∙ ap (λ (m : ℕ). sets at i (noted (length array) m (drop p array))) more
        ∙ ap (sets at i) (noted_one (length array) (n - (i + 1)) (drop p array)
        ∙ ap (λ (x : ℕ). x ∷ on_rest (decode (drop p array)) (noted (length array) (n - (i + 1)))) start_here)

    module _ (x : Result ℕ RecordFault) (hx : record_answer x ≡ decoded_answer (length array) (decode (drop p array))) where
      walk_failed : (f : RecordFault) → x ≡ Err f → WalkedInto n array before (Err (record_fault f i)) (set at i p)
      walk_failed R.Cut ex = go (decode (drop p array)) refl (rw ex at hx)
        where
          go : (d : Decoded) → decode (drop p array) ≡ d → refusal 3 ≡ decoded_answer (length array) d
              → WalkedInto n array before (Err (W.Cut i)) (set at i p)
          go (decoded l r) e f = absurd (let z : ◌≡◌ {A = ℕ} 0 1 = cc in omega arith)
          go bad_key e f = absurd (let z : ◌≡◌ {A = ℕ} 3 4 = cc in omega arith)
          go cut e f = record {
            answer = sym (outcome_step ∙ rw e);
            positions = sym (positions_step ∙ rw e);
          }
      walk_failed R.BadKey ex = go (decode (drop p array)) refl (rw ex at hx)
        where
          go : (d : Decoded) → decode (drop p array) ≡ d → refusal 4 ≡ decoded_answer (length array) d
              → WalkedInto n array before (Err (W.BadKey i)) (set at i p)
          go (decoded l r) e f = absurd (let z : ◌≡◌ {A = ℕ} 0 1 = cc in omega arith)
          go cut e f = absurd (let z : ◌≡◌ {A = ℕ} 3 4 = cc in omega arith)
          go bad_key e f = record {
            answer = sym (outcome_step ∙ rw e);
            positions = sym (positions_step ∙ rw e);
          }

      walk_turn : (next : ℕ) → x ≡ Ok next → Walking array n before (set at i p) (i + 1) next
      walk_turn next ex =
          let w : RecordAt array p next = record_found array p next x hx ex in
          record {
            few = v.few;
            passed = omega arith;
            within = w.within;
            outcome = outcome_step ∙ rw (w.decoded_as, walked_later w.labels (records_in (n - (i + 1)) (suc i) (drop next array)), add-one);
            positions = positions_step ∙ rw (w.decoded_as, add-one);
          }

      -- as the code tells it: y is x with the record's place
      module _ (y : Result ℕ VectorFault) (P : RecordFault → VectorFault → Type 0)
          (m : MatchResult x (λ v. y ≡ Ok v) (λ e. IsErrAnd y (P e))) where
        pub walk_told : ((e : RecordFault) (f : VectorFault) → P e f → f ≡ record_fault e i) → (f : VectorFault)
            → y ≡ Err f → WalkedInto n array before (Err f) (set at i p)
        walk_told tells f ey = go x refl m
          where
            go : (u : Result ℕ RecordFault) → x ≡ u → MatchResult u (λ v. y ≡ Ok v) (λ e. IsErrAnd y (P e))
                → WalkedInto n array before (Err f) (set at i p)
            go (Ok v) ex m = absurd (let z : ◌≡◌ {A = ℕ} 0 1 = cc in omega arith)
            go (Err e) ex m = rw (tells e f (subst (λ y. IsErrAnd y (P e)) ey m)) (walk_failed e ex)

        went : (next : ℕ) → y ≡ Ok next → x ≡ Ok next
        went next ey = go x m
          where
            go : (u : Result ℕ RecordFault) → MatchResult u (λ v. y ≡ Ok v) (λ e. IsErrAnd y (P e)) → u ≡ Ok next
            go (Ok v) m = cc
            go (Err e) m = elim (subst (λ y. IsErrAnd y (P e)) ey m) [ ]

        pub walk_on : (next : ℕ) → y ≡ Ok next → Walking array n before (set at i p) (i + 1) next
        walk_on next ey = walk_turn next (went next ey)

  module _ (h : n ≤ i) where
    at_end : i ≡ n
    at_end = omega (arith, v.passed)

    none : n - i ≡ 0
    none = omega arith

    positions_end : sets before 0 (noted (length array) n array) ≡ set at n p
    positions_end =
        v.positions
        ∙ ap (λ (m : ℕ). sets at i (noted (length array) m (drop p array))) none
        ∙ ap (sets at i) (noted_last (length array) (drop p array) ∙ ap (λ (x : ℕ). x ∷ []) start_here)
        ∙ ap (λ (j : ℕ). set at j p) at_end

    outcome_end : records_answer (records_in n 0 array) ≡ records_answer (records_in 0 i (drop p array))
    outcome_end = v.outcome ∙ ap (λ (m : ℕ). records_answer (records_in m i (drop p array))) none

    left_over : p < length array → records_answer (records_in 0 i (drop p array)) ≡ fault 3 i
    unfolding records_in
    left_over k = rw (drop-cons array p 0 k)

    all_read : length array ≤ p → records_answer (records_in 0 i (drop p array)) ≡ whole
    unfolding records_in
    all_read k = rw (drop_of_length-le array k)

    pub walk_over : p < length array → WalkedInto n array before (Err (W.Cut n)) (set at n p)
    walk_over k = record { answer = sym (outcome_end ∙ left_over k ∙ ap (fault 3) at_end); positions = sym positions_end }

    pub walk_whole : length array ≤ p → WalkedInto n array before (Ok tt) (set at n p)
    walk_whole k = record { answer = sym (outcome_end ∙ all_read k); positions = sym positions_end }
