-- `several_leave` meets its contract. Assumes nothing.
use Rattle.set_series.specs.set_points.Points.{meant}
use Rattle.set_series.proofs.set_points.Leaving.{Leaving}
use Rattle.set_series.proofs.set_points.several_leave.Given as goal

abbrev pub invariant-loop-i : goal.invariant-loop-i
invariant-loop-i l = Leaving (meant l.rule) l.rows l.places l.left l.i
