-- `set_rule` meets its contract. Assumes nothing.
use Rattle.set_series.proofs.set_points.Rules.{and_rule, if_rule, unless_rule, if_not_rule}
use Rattle.set_series.proofs.set_points.set_rule.Goals as goal

pub returns-in-And : goal.returns-in-And
returns-in-And c = search and_rule

pub returns-in-If : goal.returns-in-If
returns-in-If c = search if_rule

pub returns-in-Unless : goal.returns-in-Unless
returns-in-Unless c = search unless_rule

pub returns-in-IfNot : goal.returns-in-IfNot
returns-in-IfNot c = search if_not_rule
