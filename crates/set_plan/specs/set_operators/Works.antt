-- What a set operator does, as the definitions say it. Assumes nothing.
use Rattle.plan.specs.Sets as Plan
use Rattle.set_series.specs.set_points.Points.{meant}
use Rattle.set_plan.specs.declared.set_operators.SetWork.{SetWork}

abbrev pub meant_work : SetWork → Plan.SetWork
meant_work w = record { rule = meant w.rule; falls = w.falls; adds = w.adds }
