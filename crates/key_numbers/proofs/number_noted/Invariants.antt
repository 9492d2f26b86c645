-- `key_numbers::number_noted` meets its contract. Assumes nothing.
use Rattle.labels.specs.Matchings.{matching_of}
use Rattle.side_parts.specs.Sides.{labels_in}
use Rattle.key_numbers.proofs.Numbering.{Numbering}
use Rattle.key_numbers.proofs.number_noted.Given as goal

abbrev pub invariant-loop-i : goal.invariant-loop-i
invariant-loop-i l = Numbering l.rule.named (matching_of l.rule.matching) l.rule.list.now
    (labels_in l.left.array.now l.left.at.now) l.left.hashes.now l.array l.at l.initial.keys l.hashes l.keys l.table l.i
