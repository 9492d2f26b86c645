-- `label_records::read_tags` meets its contract. Assumes nothing.
use Rattle.std.proofs.Common.{◌≡◌, ◌≤◌, ◌-◌, true, [], length, drop}
use Rattle.model.specs.Record.{decode_tags}
use Rattle.label_records.specs.Records.{tags_judged}
use Rattle.label_records.proofs.read_tags.Given as goal

abbrev pub invariant-loop : goal.invariant-loop
invariant-loop l = record {
  within : l.p ≤ length l.s;
  same : tags_judged (length l.s) true [] (decode_tags l.n (drop l.at l.s)) ≡ tags_judged (length l.s) l.good l.last (decode_tags (l.n - l.counter) (drop l.p l.s));
}
