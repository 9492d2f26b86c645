-- Demand 3 proved: the claim is in Claims.Partition. Assumes nothing.
use Rattle.std.specs.Prelude.{ℕ, zero, suc, ◌+◌, ◌≤◌, ◌<◌, ◌≡◌, refl, Bool, true, false, ◌||◌, List, [], ◌∷◌, map, eqb, length}
use Rattle.std.proofs.Common.{sym, ap, ◌∙◌, arith, length-append, eqb-true}
use Rattle.std.proofs.lemmas.Bool.{false≢true}
use Rattle.model.specs.Lists.{cases, All}
use Rattle.model.specs.Labels.{Bytes}
use Rattle.model.specs.Record.{encode}
use Rattle.model.specs.Query.{Query, left, right}
use Rattle.model.specs.Vector.{Series, Shape, label_part, label_bytes, readings_of, Readings, GoodSeries, Valid}
use Rattle.model.proofs.Laws.Booleans.{never_so}
use Rattle.model.proofs.Laws.Lists.{map_map}
use Rattle.model.proofs.Laws.Vector.{take-valid, taken_is}
use Rattle.semantics.specs.Places.{Rank, rank_before}
use Rattle.semantics.specs.Events.{Ranked, Verdict, answer, duplicate}
use Rattle.semantics.specs.Call.{Outcome, refused, call, concluded, fit}
use Rattle.theorems.specs.Claims.Dealing.{Rising, Renumber, moved_ranked, moved_rank, moved_verdict, Deal, second_pile, pick, pile, whole_places}
use Rattle.theorems.specs.Claims.Dealing.{weave, merged_verdict}
use Rattle.theorems.specs.Claims.Partition.{is_refused, refused_otherwise, Splits, Partition, Sides, HasSides}
use Rattle.theorems.specs.Claims.Outcomes.{Taken, written, series_in, OutcomeOf, number_1, number_2, number_13, left_3_to_5}
use Rattle.theorems.specs.Claims.Outcomes.{right_3_to_5, left_11, right_11, number_6, number_12, number_7_or_8}
use Rattle.theorems.specs.Claims.Outcomes.{number_9, number_10, vector_answered}
use Rattle.theorems.proofs.Outcomes.{every_outcome, taken_call}
use Rattle.theorems.proofs.Dealing.Verdicts.{pile_verdict, verdicts, verdict_rising}
use Rattle.theorems.proofs.Dealing.Fitting.{Fits, fits_fit, Way, fine, too_big, no_room, fit_way, length-weave, bytes_weave, fits_weave}

series_same : (ρ : Renumber) (l : List (Ranked Rank Series)) → series_in (map (moved_ranked (moved_rank ρ) (λ s. s)) l) ≡ series_in l
series_same ρ l = map_map _ _ l

module _ (a b : ℕ) (shape : Shape) (ρ₁ ρ₂ : Renumber) where
  abbrev Claim : Verdict → Verdict → Outcome → Type 0
  Claim v w whole = Splits a b shape ρ₁ ρ₂ v w whole (concluded a b shape v) (concluded a b shape w)

  module _ (l m : List (Ranked Rank Series)) where
    abbrev firsts : List (Ranked Rank Series)
    firsts = map (moved_ranked (moved_rank ρ₁) (λ s. s)) l

    abbrev seconds : List (Ranked Rank Series)
    seconds = map (moved_ranked (moved_rank ρ₂) (λ s. s)) m

    abbrev merged : List (Ranked Rank Series)
    merged = weave rank_before firsts seconds

    -- all three answer
    all_answer : Rising rank_before merged → Fits a b shape (series_in merged) → Claim (answer l) (answer m) (fit a b shape (series_in merged))
    all_answer order h =
        let f = fits_weave a b shape firsts seconds h in
        let e₁ : fit a b shape (series_in l) ≡ written shape (series_in firsts) = sym (ap (fit a b shape) (series_same ρ₁ l))
        ∙ fits_fit a b shape (series_in firsts) f.0 in
        let e₂ : fit a b shape (series_in m) ≡ written shape (series_in seconds) = sym (ap (fit a b shape) (series_same ρ₂ m))
        ∙ fits_fit a b shape (series_in seconds) f.1 in
        let e₃ = fits_fit a b shape (series_in merged) h in
        record {
          first_call = refl;
          second_call = refl;
          together = rw (e₁, e₂, e₃);
          duplicates = λ r. absurd (false≢true (rw e₃ at r));
          answers = λ r. record {
            l = firsts;
            m = seconds;
            firsts = refl;
            seconds = refl;
            first_is = e₁;
            second_is = e₂;
            whole_is = e₃;
            order = order;
            count = length-weave firsts seconds;
            bytes = bytes_weave firsts seconds;
          };
        }

    fitted : Rising rank_before merged → Way a b shape (series_in merged) (fit a b shape (series_in merged))
        → refused_otherwise (fit a b shape (series_in merged)) ≡ false
        → Claim (answer l) (answer m) (fit a b shape (series_in merged))
    fitted order (fine h) r = all_answer order h
    fitted order (too_big e) r = never_so (rw e at r)
    fitted order (no_room e) r = never_so (rw e at r)

  one_refused : (o : Bool) → true ≡ (o || true)
  one_refused true = refl
  one_refused false = refl

  pub splits : (v w : Verdict)
      → ((k : List (Ranked Rank Series)) → merged_verdict (moved_verdict ρ₁ v) (moved_verdict ρ₂ w) ≡ answer k → Rising rank_before k)
      → refused_otherwise (concluded a b shape (merged_verdict (moved_verdict ρ₁ v) (moved_verdict ρ₂ w))) ≡ false
      → Claim v w (concluded a b shape (merged_verdict (moved_verdict ρ₁ v) (moved_verdict ρ₂ w)))
  splits (answer l) (answer m) up r = fitted l m (up _ refl) (fit_way a b shape (series_in (merged l m))) r
  splits (answer l) (duplicate y) up r =
      record {
        first_call = refl;
        second_call = refl;
        together = one_refused (is_refused (fit a b shape (series_in l)));
        duplicates = λ e. record { which = _; first = refl; is = refl };
        answers = λ e. never_so e;
      }
  splits (duplicate x) (answer m) up r =
      record {
        first_call = refl;
        second_call = refl;
        together = refl;
        duplicates = λ e. record { which = _; first = refl; is = refl };
        answers = λ e. never_so e;
      }
  splits (duplicate x) (duplicate y) up r =
      record {
        first_call = refl;
        second_call = refl;
        together = refl;
        duplicates = λ e. record { which = _; first = refl; is = refl };
        answers = λ e. never_so e;
      }

-- the piles' sides are valid, so their encodings are taken

pick_shorter : (d : ℕ → Bool) (bs : List Series) → length (pick d bs) ≤ length bs
pick_shorter d [] = omega arith
pick_shorter d (b ∷ bs) =
    let h = pick_shorter (λ i. d (suc i)) bs in
    cases (d zero) (λ e. rw e (omega (arith, h))) (λ e. rw e (omega (arith, h)))

pub bytes_cons : (b : Series) (bs : List Series) → length (label_bytes (b ∷ bs)) ≡ length (encode b.labels) + length (label_bytes bs)
unfolding label_bytes
bytes_cons b bs = length-append (encode b.labels) (label_bytes bs)

pick_bytes : (d : ℕ → Bool) (bs : List Series) → length (label_bytes (pick d bs)) ≤ length (label_bytes bs)
pick_bytes d [] = omega arith
pick_bytes d (b ∷ bs) =
    let h = pick_bytes (λ i. d (suc i)) bs in
    cases (d zero)
    (λ e. rw e (omega (arith, h, bytes_cons b bs, bytes_cons b (pick (λ i. d (suc i)) bs))))
    (λ e. rw e (omega (arith, h, bytes_cons b bs)))

All-pick : (P : Series → Type 0) (d : ℕ → Bool) (bs : List Series) → All P bs → All P (pick d bs)
All-pick P d [] a = tt
All-pick P d (b ∷ bs) a = cases (d zero) (λ e. rw e (a.0, All-pick P (λ i. d (suc i)) bs a.1)) (λ e. rw e (All-pick P (λ i. d (suc i)) bs a.1))

pub pick_valid : (shape : Shape) (d : ℕ → Bool) (bs : List Series) → Valid (record { shape = shape; series = bs })
    → Valid (record { shape = shape; series = pick d bs })
pick_valid shape d bs v =
    record {
      few = omega (arith, pick_shorter d bs, v.few);
      points = v.points;
      grid = v.grid;
      bytes = omega (arith, pick_bytes d bs, v.bytes);
      series = All-pick (GoodSeries shape.points) d bs v.series;
    }

module _ (s ll lr rl rr : List ℕ) (bl : Bytes ll) (wl : Readings lr) (br : Bytes rl) (wr : Readings rr) (q : Query) (shape : Shape)
    (ls rs : List Series) (t : Taken s ll lr rl rr q shape ls rs) where
  pub left_valid : Valid (record { shape = shape; series = ls })
  left_valid = (taken_is 0 ll lr _ bl wl t.lefts).valid

  pub right_valid : Valid (record { shape = shape; series = rs })
  right_valid = (taken_is 1 rl rr _ br wr t.rights).valid

  pile_taken : (deal : Deal)
      → Taken s (label_part shape (pile deal left ls)) (readings_of (pile deal left ls)) (label_part shape (pile deal right rs))
      (readings_of (pile deal right rs)) q shape (pile deal left ls) (pile deal right rs)
  pile_taken deal =
      record {
        asked = t.asked;
        lefts = take-valid 0 (record { shape = shape; series = pile deal left ls }) (pick_valid shape _ ls left_valid);
        rights = take-valid 1 (record { shape = shape; series = pile deal right rs }) (pick_valid shape _ rs right_valid);
      }

pub partition : Partition
partition s ll lr rl rr bl wl br wr q shape ls rs t deal d a b r =
    let whole = taken_call s ll lr rl rr q shape ls rs t a b ∙ ap (concluded a b shape) (verdicts q deal ls rs d) in
    rw (
      whole,
      taken_call s _ _ _ _ q shape _ _ (pile_taken s ll lr rl rr bl wl br wr q shape ls rs t deal) a b,
      taken_call s _ _ _ _ q shape _ _ (pile_taken s ll lr rl rr bl wl br wr q shape ls rs t (second_pile deal)) a b,
    )
    (splits a b shape (whole_places deal ls rs) (whole_places (second_pile deal) ls rs) (pile_verdict q deal ls rs)
    (pile_verdict q (second_pile deal) ls rs)
    (λ k e. verdict_rising q ls rs k (verdicts q deal ls rs d ∙ e)) (rw whole at r))

-- a call that is not refused by a number from 1 to 6, by 11 or by 12 has sides

otherwise : {X : Type 0} (n i j : ℕ) → n ≤ 6 → refused_otherwise (refused n i j) ≡ false → X
otherwise n i j h e = never_so (sym (rw (unequal n 7 (omega (arith, h)), unequal n 8 (omega (arith, h)))) ∙ e)
  where
    unequal : (m n : ℕ) → m < n → eqb m n ≡ false
    unequal m n h = cases (eqb m n) (λ e. absurd (let z = eqb-true m n e in omega (arith, z))) (λ e. e)

sides : (s ll lr rl rr : List ℕ) (a b : ℕ) (o : Outcome) → OutcomeOf s ll lr rl rr a b o → refused_otherwise o ≡ false → Sides s ll lr rl rr
sides s ll lr rl rr a b o (number_1 e) r = never_so r
sides s ll lr rl rr a b o (number_2 e) r = never_so r
sides s ll lr rl rr a b o (number_13 e) r = never_so r
sides s ll lr rl rr a b o (left_3_to_5 q e n i h k f) r = otherwise n 0 i (omega (arith, k)) r
sides s ll lr rl rr a b o (right_3_to_5 q e l g n i h k f) r = otherwise n 1 i (omega (arith, k)) r
sides s ll lr rl rr a b o (left_11 q e f) r = never_so r
sides s ll lr rl rr a b o (right_11 q e l g f) r = never_so r
sides s ll lr rl rr a b o (number_6 q e l g x h f) r = never_so r
sides s ll lr rl rr a b o (number_12 q e l g x h f k) r = never_so r
sides s ll lr rl rr a b o (number_7_or_8 q shape ls rs t x e) r = record { q = q; shape = shape; ls = ls; rs = rs; taken = t }
sides s ll lr rl rr a b o (number_9 q shape ls rs t l e f) r = record { q = q; shape = shape; ls = ls; rs = rs; taken = t }
sides s ll lr rl rr a b o (number_10 q shape ls rs t l e f g) r = record { q = q; shape = shape; ls = ls; rs = rs; taken = t }
sides s ll lr rl rr a b o (vector_answered q shape ls rs t l e f g) r = record { q = q; shape = shape; ls = ls; rs = rs; taken = t }

pub has_sides : HasSides
has_sides s ll lr rl rr a b r = sides s ll lr rl rr a b (call s ll lr rl rr a b) (every_outcome s ll lr rl rr a b) r
