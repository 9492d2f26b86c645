-- The answer row of a code: `apply_join` and `put_join_row`. Assumes nothing.
use Prim.Native.Nat.{ℕ, ◌+◌, ◌*◌, ◌≤◌, ◌<◌}
use mathlib.Core.Path.{◌≡◌, refl, sym, ap, ◌∙◌}
use mathlib.Core.Bool.{Bool, true, false}
use mathlib.Core.List.{List, ◌++◌}
use native.Mathlib.Omega.{arith}
use lib.ListN.{length, take, drop, length-append, length-drop}
use lib.Seq.{length-take-le, take_at}
use Rattle.plan.specs.Joins.{many_place, one_place}
use Rattle.side_parts.specs.Sides.{row_at}
use Rattle.side_parts.specs.Lent.{Sides, BothRowsHeld}
use Rattle.side_parts.specs.SideLaws.{row_in, row_width}
use Rattle.overwriting.specs.Marks.{row_of_marked}
use Rattle.overwriting.specs.MarkLaws.{marked_wide}
use Rattle.row_marks.specs.Words.{unmarked}
use Rattle.row_marks.specs.WordLaws.{unmarked_row}
use Rattle.join_series.specs.declared.Work.{Work}
use Rattle.join_series.specs.Works.{worked_row}
use Rattle.join_series.specs.join_rows.Rows.{JoinCode, marked_row, coded_join_row, work_after}

-- `put_join_row`

module _ (s : Sides) (c : ℕ) (held : BothRowsHeld s) (code : JoinCode s c) where
  abbrev p : ℕ
  p = s.shape.points

  module _ (i : ℕ) (hi : i ≡ many_place c) where
    pub many_inside : i * p + p ≤ length s.left.rows
    many_inside = omega (arith, row_in i (length s.left.keys) p (rw hi code.many), held.left.whole)

    pub many_wide : (y : List ℕ) → y ≡ row_at p s.left.rows i → length y ≡ p
    many_wide y e = row_width p s.left.rows y i many_inside e

  module _ (o : ℕ) (ho : o ≡ one_place c) where
    pub one_standing : o < length s.right.keys
    one_standing = rw ho code.one

    pub one_inside : o * p + p ≤ length s.right.rows
    one_inside = omega (arith, row_in o (length s.right.keys) p one_standing, held.right.whole)

    pub one_wide : (y : List ℕ) → y ≡ row_at p s.right.rows o → length y ≡ p
    one_wide y e = row_width p s.right.rows y o one_inside e

  pub one_few : length s.right.keys ≤ 512
  one_few = held.right.few

  -- no row is marked

  module _ (w : Work) (marks : List ℕ) (b : Bool) (hb : b ≡ unmarked marks) (f : b ≡ true) where
    alone : (o : ℕ) → o ≡ one_place c → row_at p s.right.rows o ≡ marked_row s marks (one_place c)
    alone o ho = rw (unmarked_row p s.right.rows marks (one_place c) (length s.right.keys) (sym hb ∙ f), ho)

    pub alone_made : (i : ℕ) → i ≡ many_place c → (o : ℕ) → o ≡ one_place c
        → (many : List ℕ) → many ≡ row_at p s.left.rows i → (one : List ℕ) → one ≡ row_at p s.right.rows o
        → (out : List ℕ) → out ≡ worked_row w many one → out ≡ coded_join_row w s marks c
    alone_made i hi o ho many hm one h out e = e ∙ rw (h, alone o ho, hm, hi)

    pub work_kept : (before : List ℕ) → before ≡ work_after s marks c before
    work_kept before = rw (← hb, f)

  -- rows are put over one another at the start of the work row

  module _ (before : List ℕ) (room : p ≤ length before) where
    pub work_part : p ≡ length (take p before)
    work_part = sym (length-take-le p before room)

    pub merge_held : length s.right.keys * length (take p before) ≤ length s.right.rows
    merge_held = rw (← work_part) (omega (arith, held.right.whole))

    module _ (marks : List ℕ) (o : ℕ) (ho : o ≡ one_place c) (d : List ℕ)
        (put : d ≡ row_of_marked (length (take p before)) s.right.rows marks o (length s.right.keys)) where
      is_marked : d ≡ marked_row s marks (one_place c)
      is_marked = rw (← work_part, ho) at put

      merged_long : length d ≡ p
      merged_long =
          ap length is_marked ∙ marked_wide p s.right.rows marks (one_place c) (length s.right.keys)
          ∙ one_wide (one_place c) refl (row_at p s.right.rows (one_place c)) refl

      again : take p (d ++ drop p before) ≡ d
      again = take_at d (drop p before) p merged_long

      pub work_same : length (d ++ drop p before) ≡ length before
      work_same = omega (arith, length-append d (drop p before), merged_long, length-drop p before, room)

      pub work_there : p ≤ length (d ++ drop p before)
      work_there = omega (arith, work_same, room)

      pub work_again : p ≡ length (take p (d ++ drop p before))
      work_again = rw again (sym merged_long)

      pub work_wide : length (take p (d ++ drop p before)) ≡ p
      work_wide = sym work_again

      pub work_left : (b : Bool) → b ≡ unmarked marks → b ≡ false → d ++ drop p before ≡ work_after s marks c before
      work_left b hb f = rw (← hb, f, ← is_marked, merged_long)

      pub marked_made : (w : Work) (i : ℕ) → i ≡ many_place c → (many : List ℕ) → many ≡ row_at p s.left.rows i
          → (out : List ℕ) → out ≡ worked_row w many (take p (d ++ drop p before)) → out ≡ coded_join_row w s marks c
      marked_made w i hi many hm out e = e ∙ rw (again, is_marked, hm, hi)
