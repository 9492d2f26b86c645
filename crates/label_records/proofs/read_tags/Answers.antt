-- `label_records::read_tags` meets its contract. Assumes nothing.
use Rattle.std.proofs.Common.{rules, arith}
use Rattle.label_records.proofs.TagsRead.{tags_cut, tags_cut_value, tags_turn, tags_fine, tags_bad}
use Rattle.fields.proofs.Fields.{place_within}
use Rattle.label_records.proofs.read_tags.Goals as goal

pub loop-init : goal.loop-init
loop-init c = record { within = search rules; same = grind arith }

pub returns-in_err-key : goal.returns-in_err-key
returns-in_err-key c = search (rules, tags_cut)

pub returns-in_err-value : goal.returns-in_err-value
returns-in_err-value c = search (rules, tags_cut_value)

pub loop-preserved : goal.loop-preserved
loop-preserved c = record {
  within = search (rules, place_within);
  same =
      tags_turn _ _ _ _ _ _ _ c.loop.invariant.same _ c.in_ok-key.key c.loop-test.true c.field_at.ensures (search rules)
      _ c.field_at-in-loop.ensures c.in_ok-value.value _ (search rules) c.may_follow-good.ensures;
}

pub returns-then-good : goal.returns-then-good
returns-then-good c = search (rules, tags_fine)

pub returns-else-good : goal.returns-else-good
returns-else-good c = search (rules, tags_bad)
