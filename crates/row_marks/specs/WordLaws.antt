-- Words in which no bit is set, and rows of words. Assumes nothing.
use Rattle.std.specs.Prelude.{ℕ, zero, suc, ◌+◌, ◌-◌, ◌/◌, ◌%◌, ◌≤◌, ◌<◌, ◌≡◌, refl}
use Rattle.std.specs.Prelude.{Bool, true, false, ◌&&◌, List, [], ◌∷◌, eqb, ltb, length, get_or, take, drop}
use Rattle.std.proofs.Common.{sym, ap, ◌∙◌, arith, length-take, length-drop, get_or-take, get_or-drop, eqb-true, lt-ltb, ltb-true, ltb-false}
use Rattle.model.specs.Lists.{cases}
use Rattle.side_parts.specs.Sides.{row_at}
use Rattle.overwriting.specs.Marks.{bit, marked_behind, row_of_marked, MarksOf}
use Rattle.overwriting.specs.OverLaws.{over_none}
pub use Rattle.overwriting.specs.MarkLaws.{bit_zero}
use Rattle.row_marks.specs.Words.{unmarked, word_count, WordsPut, members_to, led_behind, MarksAt}

both_true : (a b : Bool) → (a && b) ≡ true → (a ≡ true) × (b ≡ true)
both_true true b h = (refl, h)
both_true false b h = absurd (let z : ◌≡◌ {A = ℕ} 0 1 = cc in omega arith)

pub unmarked_word : (words : List ℕ) (i : ℕ) → unmarked words ≡ true → get_or words i 0 ≡ 0
unfolding unmarked
unmarked_word [] i h = refl
unmarked_word (x ∷ words) zero h = eqb-true x 0 (both_true (eqb x 0) (unmarked words) h).0
unmarked_word (x ∷ words) (suc i) h = unmarked_word words i (both_true (eqb x 0) (unmarked words) h).1

-- where no bit is set, the leader's row stays
pub unmarked_row : (p : ℕ) (rows words : List ℕ) (o count : ℕ) → unmarked words ≡ true
    → row_of_marked p rows words o count ≡ row_at p rows o
unmarked_row p rows words o count h =
    over_none p rows (marked_behind words o) (count - suc o) (suc o) (row_at p rows o)
    (λ j l u.
    ap (λ (x : ℕ). bit x ((j - suc o) % 64)) (unmarked_word words ((j - suc o) / 64) h) ∙ bit_zero ((j - suc o) % 64))

-- the eight words from a place on, as a part
pub part_marks : (leads : List ℕ) (o at : ℕ) (marks : List ℕ) → length leads ≤ 512 → MarksAt leads o at marks
    → MarksOf leads o (take 8 (drop at marks))
part_marks leads o at marks few h = record {
  each = λ j w.
      ap (λ x. bit x (j % 64))
      (get_or-take 8 (drop at marks) (j / 64) 0 (omega (arith, w, few)) ∙ get_or-drop at marks (j / 64) 0)
      ∙ h.each j (omega (arith, w, few)) ∙ rw (lt-ltb (suc o + j) (length leads) w);
}

-- where the words were clean, and no place behind `last` has the leader o, the marks up to `last` are all
module _ (all leads : List ℕ) (o last at : ℕ) (before after : List ℕ)
    (put : WordsPut (members_to o last leads) o at before after) (inside : last < length leads)
    (none : (i : ℕ) → last < i → i < length all → eqb (get_or all i 0) o ≡ false) where
  abbrev words : ℕ
  words = word_count (length (members_to o last leads))

  members_long : length (members_to o last leads) ≡ last - o
  members_long = simp (length-take, length-drop) (omega (arith, inside))

  -- no place behind `last` is led
  behind : (j : ℕ) → last - o ≤ j → led_behind all o j ≡ false
  behind j l =
      cases (ltb (suc o + j) (length all))
      (λ e. rw e (none (suc o + j) (omega (arith, l)) (ltb-true (suc o + j) (length all) e)))
      (λ e. rw e)

  module _ (within : last < length all) (same : (i : ℕ) → o < i → i ≤ last → get_or leads i 0 ≡ get_or all i 0) where
    member_marked : (j : ℕ)
        → (ltb j (length (members_to o last leads)) && eqb (get_or (members_to o last leads) j 0) o) ≡ led_behind all o j
    member_marked j =
        rw members_long (cases (ltb j (last - o))
        (λ e. let l = ltb-true j (last - o) e in
        rw (e, lt-ltb (suc o + j) (length all) (omega (arith, l, within))) (ap (λ x. eqb x o) (there l)))
        (λ e. rw e (sym (behind j (ltb-false j (last - o) e)))))
      where
        there : j < last - o → get_or (members_to o last leads) j 0 ≡ get_or all (suc o + j) 0
        there l =
            let z : o + 1 + j ≡ suc o + j = omega arith in
            get_or-take (last - o) (drop (o + 1) leads) j 0 l ∙ get_or-drop (o + 1) leads j 0
            ∙ ap (λ i. get_or leads i 0) z ∙ same (suc o + j) (omega arith) (omega (arith, l))

    pub row_marks : ((i : ℕ) → at ≤ i → get_or before i 0 ≡ 0) → at + 8 ≤ length before → MarksAt all o at after
    row_marks clean room = record {
      each = λ j h.
          cases (ltb (j / 64) words)
          (λ e. put.marks j (ltb-true (j / 64) words e) (omega (arith, h, room)) ∙ member_marked j)
          (λ e. beyond j (ltb-false (j / 64) words e));
    }
      where
        beyond : (j : ℕ) → words ≤ j / 64 → bit (get_or after (at + j / 64) 0) (j % 64) ≡ led_behind all o j
        beyond j e =
            ap (λ x. bit x (j % 64))
            (put.frame.above (at + j / 64) (omega (arith, e)) ∙ clean (at + j / 64) (omega arith))
            ∙ bit_zero (j % 64) ∙ sym (behind j (omega (arith, e, members_long)))
