-- `record_tags::tags_of` meets its contract. Assumes nothing.
use Rattle.record_tags.proofs.Cursors.{tags_counted_lem, tags_uncounted, tags_unnamed}
use Rattle.record_tags.proofs.tags_of.Goals as goal

pub returns-in_default : goal.returns-in_default
returns-in_default c = search tags_unnamed

pub returns-then-rec-name : goal.returns-then-rec-name
returns-then-rec-name c = search tags_uncounted

pub returns : goal.returns
returns c =
    tags_counted_lem _ _ c.field_at.ensures c.in-Some.name c.in-Some.is _ c.if-rec-name.false c.from.ensures c.type_inv.rec
