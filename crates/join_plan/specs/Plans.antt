-- What planning a join comes to: its first clash, or the codes of its answer rows and their marks. Assumes nothing.
use Rattle.std.specs.Prelude.{ℕ, suc, ◌+◌, ◌*◌, ◌≤◌, ◌<◌, ◌≡◌, Bool, cond, List, [], ◌∷◌, ◌++◌, length, get_or}
use Rattle.std.proofs.Math.Option.{Option, none, some}
use Rattle.model.specs.Labels.{Labels}
use Rattle.model.specs.Query.{Side}
use Rattle.semantics.specs.Events.{Duplicate}
use Rattle.plan.specs.Pairs.{no_labels}
use Rattle.plan.specs.Joins.{JoinWork, leads_for, many_place, one_place, join_clash, join_rows_from}
use Rattle.side_parts.specs.Lent.{Sides, side_labels}
use Rattle.answers.specs.declared.Clash.{Clash}
use Rattle.answers.specs.declared.Twice.{Twice}
use Rattle.answers.specs.declared.Twice.TheVariants.{Left, Right}
use Rattle.answers.specs.Plans.{noted_by}
use Rattle.row_marks.specs.Words.{MarksAt}
use Rattle.join_plan.specs.place_plans.Places.{Clean}

-- the first clash of a join
abbrev pub first_clash : JoinWork → Side → Sides → Option Duplicate
first_clash w many s = join_clash w many s s.left.keys (side_labels s.left)

-- the codes of its answer rows, in order
abbrev pub join_codes : JoinWork → Sides → List ℕ
join_codes w s = join_rows_from w s 0 s.left.keys (side_labels s.left)

-- rows where nothing clashes
abbrev pub unless_clash : Option Duplicate → List ℕ → List ℕ
unless_clash none rows = rows
unless_clash (some d) rows = []

-- the answer rows of the many-side places from m on, up to the first that has a clash; their keys and labels are `ks`
-- and `ls`
unfoldable pub rows_before_clash : JoinWork → Side → Sides → ℕ → List ℕ → List Labels → List ℕ
rows_before_clash w many s m [] ls = []
rows_before_clash w many s m (k ∷ ks) [] = []
rows_before_clash w many s m (k ∷ ks) (l ∷ ls) =
    unless_clash (join_clash w many s (k ∷ []) (l ∷ []))
    (join_rows_from w s m (k ∷ []) (l ∷ []) ++ rows_before_clash w many s (suc m) ks ls)

-- the codes that are noted when a join comes to its first clash
abbrev pub early_codes : JoinWork → Side → Sides → List ℕ
early_codes w many s = rows_before_clash w many s 0 s.left.keys (side_labels s.left)

-- the codes that its plan notes
abbrev pub noted_codes : JoinWork → Side → Sides → List ℕ
noted_codes w many s = noted_by (first_clash w many s) (join_codes w s) (early_codes w many s)

-- 01: 7 left or 8 right duplicate. Of a join, on the one side.
abbrev pub one_twice : Bool → Clash → Twice
one_twice left clash = cond left (Right clash) (Left clash)

-- the leaders of the many-side place m
abbrev pub leads_at : JoinWork → Sides → ℕ → List ℕ
leads_at w s m = leads_for w s (get_or (side_labels s.left) m no_labels) (get_or s.left.keys m 0)

-- row i of a plan has the marks of its code
abbrev pub RowMarks : JoinWork → Sides → List ℕ → List ℕ → ℕ → Type 0
RowMarks w s codes marks i =
    MarksAt (leads_at w s (many_place (get_or codes i 0))) (one_place (get_or codes i 0)) (i * 8) marks

-- each of n rows has its marks, where the list and the marks have room for it, and no row behind them has one
pub record MarksPlanned (w : JoinWork) (s : Sides) (n : ℕ) (codes before after : List ℕ) : Type 0 where
  pub long : length after ≡ length before
  pub each : (i : ℕ) → i < n → i < length codes → i * 8 + 8 ≤ length before → RowMarks w s codes after i
  pub none : Clean n after
