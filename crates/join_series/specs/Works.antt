-- What a join makes of two series, by its work and its two lists. Assumes nothing.
use Rattle.std.specs.Prelude.{ℕ, cond, List}
use Rattle.model.specs.Reading.{scalar_op}
use Rattle.model.specs.Edits.{Names}
use Rattle.model.specs.Query.{Side, left, right}
use Rattle.semantics.specs.Binop.{join_rows}
use Rattle.plan.specs.Joins.{JoinWork}
use Rattle.labels.specs.Names.{names_of}
use Rattle.side_parts.specs.Lent.{Slices, lent}
use Rattle.join_records.specs.Edits.{edited_by}
use Rattle.join_series.specs.declared.Work.{Work}

-- 01: many side left for group_left, right for group_right
abbrev pub many_side : Work → Side
many_side w = cond w.left left right

-- the operator on a many-side row and a one-side row
abbrev pub worked_row : Work → List ℕ → List ℕ → List ℕ
worked_row w many one = join_rows (many_side w) (scalar_op w.operator w.as_bool) many one

-- the labels that it joins by, and those that it leaves alone
abbrev pub coded_work : Work → Names → Names → JoinWork
coded_work w join skip = record { labels = edited_by join skip w.naming; rows = worked_row w; allowance = w.allowance }

-- both lists, lent in one array
abbrev pub work_by : Work → Slices → JoinWork
work_by w lists = coded_work w (names_of (lent lists 0)) (names_of (lent lists 1))
