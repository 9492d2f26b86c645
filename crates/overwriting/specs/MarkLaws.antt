-- The row that marks tell: where the merges behind a leader succeed, the merged row; and how wide. Assumes nothing.
use Rattle.std.specs.Prelude.{ℕ, suc, ◌+◌, ◌-◌, ◌%◌, ◌^◌, ◌≡◌, false, List, length, drop}
use Rattle.std.proofs.Common.{ap, ◌∙◌, arith, length-drop, get_or-drop, ne_eqb}
use Rattle.std.proofs.Math.Nat.{zero-div}
use Rattle.plan.specs.Merging.{row, merge_lead}
use Rattle.side_parts.specs.Sides.{row_at}
use Rattle.overwriting.specs.Marks.{bit, mark_at, marked_behind, row_of_marked, MarksOf}
use Rattle.overwriting.specs.OverLaws.{over_wide, group_row_lem}

pub bit_zero : (n : ℕ) → bit 0 n ≡ false
unfolding bit
bit_zero n = rw (zero-div (2 ^ n)) (ne_eqb (0 % 2) 1 (λ e. omega (arith, e)))

pub marked_wide : (p : ℕ) (rows words : List ℕ) (o count : ℕ)
    → length (row_of_marked p rows words o count) ≡ length (row_at p rows o)
marked_wide p rows words o count = over_wide p rows (marked_behind words o) (count - suc o) (suc o) (row_at p rows o)

-- where the marks are those of the leads and all merge, the marked row is the merged one
pub marked_merged : (allowance p : ℕ) (rows leads words : List ℕ) (o : ℕ) → MarksOf leads o words
    → (d : List ℕ) → merge_lead allowance p rows leads o ≡ row d → row_of_marked p rows words o (length leads) ≡ d
unfolding merge_lead
marked_merged allowance p rows leads words o marks d h =
    rw (length-drop (suc o) leads) at
    (group_row_lem p rows allowance o (marked_behind words o) (drop (suc o) leads) (suc o) (row_at p rows o) d
    (λ j w.
    let n : suc o + j - suc o ≡ j = omega arith in
    ap (mark_at words) n ∙ marks.each j (omega (arith, w, length-drop (suc o) leads))
    ∙ rw (get_or-drop (suc o) leads j 0)) h)
