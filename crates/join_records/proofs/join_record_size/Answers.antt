-- `join_record_size` meets its contract. Assumes nothing.
use Rattle.join_records.proofs.Records.{code_short, code_sized}
use Rattle.join_records.proofs.join_record_size.Goals as goal

pub set_tags_size-requires : goal.set_tags_size-requires
set_tags_size-requires c = code_short _ _ c.requires _ c.many_place.ensures _ c.one_place.ensures
    _ c.record-rec.ensures _ c.record-source.ensures

pub returns : goal.returns
returns c = code_sized _ _ c.requires _ c.many_place.ensures _ c.one_place.ensures
    _ c.record-rec.ensures _ c.record-source.ensures c.args.naming _ _ _ c.set_tags_size.ensures
