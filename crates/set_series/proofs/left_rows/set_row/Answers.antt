-- `set_row` meets its contract: each closure gives the rule's reading at a point. Assumes nothing.
use Rattle.std.proofs.Common.{rules}
use Rattle.set_series.proofs.set_points.Points.{set_by_point}
use Rattle.set_series.proofs.left_rows.set_row.Goals as goal

pub returns-in-WhereFound : goal.returns-in-WhereFound
returns-in-WhereFound c = rw c.in-WhereFound.is (set_by_point _ _ _ _ _ (search rules)
    (λ i h. let e = c.put_points.ensures i h in search rules))

pub returns-in-WhereNone : goal.returns-in-WhereNone
returns-in-WhereNone c = rw c.in-WhereNone.is (set_by_point _ _ _ _ _ (search rules)
    (λ i h. let e = c.put_points-in-WhereNone.ensures i h in search rules))

pub returns-in-Filled : goal.returns-in-Filled
returns-in-Filled c = rw c.in-Filled.is (set_by_point _ _ _ _ _ (search rules)
    (λ i h. let e = c.put_points-in-Filled.ensures i h in search rules))
