-- `metric_name::find_value` meets its contract. Assumes nothing.
use Rattle.std.proofs.Common.{rules}
use Rattle.metric_name.proofs.Lookups.{value_refused, value_named, value_tagged}
use Rattle.metric_name.proofs.find_value.Goals as goal

pub returns-in_err-read_record : goal.returns-in_err-read_record
returns-in_err-read_record c = value_refused _ _ _ c.read_record.ensures _ c.in_err-read_record.was _ (search rules)

pub returns-then-same_bytes : goal.returns-then-same_bytes
returns-then-same_bytes c = value_named _ _ _ c.read_record.ensures _ c.in_ok-read_record.was _ c.same_bytes.ensures c.if-same_bytes.true _ c.name_of.ensures

pub returns : goal.returns
returns c = value_tagged _ _ _ c.read_record.ensures _ c.in_ok-read_record.was _ c.same_bytes.ensures c.if-same_bytes.false _ c.find_tag.ensures
