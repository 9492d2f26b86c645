-- `labels::is_star` meets its contract. Assumes nothing.
use Rattle.std.proofs.Common.{rules}
use Rattle.labels.proofs.Names.{star_none, star_zero, star_cut, star_one, star_two, star_only}
use Rattle.labels.proofs.is_star.Goals as goal

pub returns-then-is_empty : goal.returns-then-is_empty
returns-then-is_empty c = star_none _ (search rules)

pub returns-then-count-eq0 : goal.returns-then-count-eq0
returns-then-count-eq0 c = star_zero _ (search rules) c.if-count-eq0.true

pub returns-in_default : goal.returns-in_default
returns-in_default c = star_cut _ (search rules) c.if-count-eq0.false _ c.field_at.ensures c.in_default.is

pub returns-then-count-eq1 : goal.returns-then-count-eq1
returns-then-count-eq1 c =
    star_one _ (search rules) c.if-count-eq0.false _ c.field_at.ensures _ c.in-Some.is c.if-count-eq1.true _ c.same_bytes.ensures

pub returns-in-Some-field_at : goal.returns-in-Some-field_at
returns-in-Some-field_at c =
    star_two _ (search rules) c.if-count-eq0.false _ c.field_at.ensures _ c.in-Some.is c.if-count-eq1.false
    _ c.field_at-2.ensures _ c.in-Some-field_at.is

pub returns-in-None : goal.returns-in-None
returns-in-None c =
    star_only _ (search rules) c.if-count-eq0.false _ c.field_at.ensures _ c.in-Some.is c.if-count-eq1.false
    _ c.field_at-2.ensures c.in-None.is _ c.same_bytes-in-None.ensures
