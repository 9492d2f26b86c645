-- `label_records::read_record` meets its contract. Assumes nothing.
use Rattle.std.proofs.Common.{rules}
use Rattle.label_records.proofs.RecordsRead.{record_unnamed, record_uncounted, record_many, record_judged}
use Rattle.label_records.proofs.read_record.Goals as goal

pub returns-in_err-name : goal.returns-in_err-name
returns-in_err-name c = search (rules, record_unnamed)

pub returns-in_err-count : goal.returns-in_err-count
returns-in_err-count c = search (rules, record_uncounted)

pub returns-then-n-gt-MAX_TAGS : goal.returns-then-n-gt-MAX_TAGS
returns-then-n-gt-MAX_TAGS c = search (rules, record_many)

pub returns : goal.returns
returns c =
    record_judged _ _ _ c.in_ok-name.name c.field_at.ensures (search rules) _ c.from-n.result (search rules) (search rules) (search rules) c.read_tags.ensures
