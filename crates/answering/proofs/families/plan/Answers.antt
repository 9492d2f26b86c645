-- `plan` meets its contract. Assumes nothing.
use Rattle.answering.proofs.Answers.{both_rows}
use Rattle.answering.proofs.families.Plans.{pairs_planned, join_planned, set_planned, groups_planned}
use Rattle.answering.proofs.families.plan.Goals as goal

pub plan_pairs-requires : goal.plan_pairs-requires
plan_pairs-requires c = both_rows _ c.requires.both_held

pub plan_groups-requires : goal.plan_groups-requires
plan_groups-requires c = c.requires.both_held.left.rows.few

pub returns-in-Pairs : goal.returns-in-Pairs
returns-in-Pairs c = pairs_planned _ _ _ _ c.requires.both_held _ c.in-Pairs.is _ _ _ _ c.requires.codes_len c.requires.marks_len c.plan_pairs.ensures

pub returns-in-Join : goal.returns-in-Join
returns-in-Join c = join_planned _ _ _ _ c.requires.both_held _ c.in-Join.is _ _ _ _ _ c.requires.codes_len c.requires.marks_len c.plan_join.ensures.planned_as c.plan_join.ensures.marks_planned

pub returns-in-Set : goal.returns-in-Set
returns-in-Set c = set_planned _ _ _ _ c.requires.both_held _ c.in-Set.is _ _ _ _ c.requires.codes_len c.requires.marks_len c.plan_set.ensures

pub returns-in-Groups : goal.returns-in-Groups
returns-in-Groups c = groups_planned _ _ _ _ c.requires.both_held _ c.in-Groups.is _ _ _ _ c.requires.codes_len c.requires.marks_len c.plan_groups.ensures
