-- `record_tags::next_tag` meets its contract. Assumes nothing.
use Rattle.std.proofs.Common.{rules}
use Rattle.record_tags.proofs.Cursors.{next_none, next_no_key, next_no_value, next_found}
use Rattle.record_tags.proofs.next_tag.Goals as goal

pub returns-then-n-eq0 : goal.returns-then-n-eq0
returns-then-n-eq0 c = search next_none

pub returns-in_err-key : goal.returns-in_err-key
returns-in_err-key c = next_no_key _ _ _ c.if-n-eq0.false _ c.field_at.ensures (search rules) _ (search rules)

pub returns-in_err-value : goal.returns-in_err-value
returns-in_err-value c = next_no_value _ _ _ c.if-n-eq0.false _ c.field_at.ensures c.in_ok-key.key (search rules) _ c.field_at-2.ensures (search rules) _ (search rules)

pub returns : goal.returns
returns c = next_found _ _ _ c.if-n-eq0.false _ c.field_at.ensures c.in_ok-key.key (search rules) _ c.field_at-2.ensures c.in_ok-value.value (search rules)
