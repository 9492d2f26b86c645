-- `signature::hash_key` meets its contract. Assumes nothing.
use Rattle.std.proofs.Common.{◌≡◌}
use Rattle.model.specs.Record.{encode_tags}
use Rattle.labels.specs.Matchings.{matching_of}
use Rattle.chosen_tags.specs.Keys.{record_key, hash_bytes, hash_of}
use Rattle.chosen_tags.specs.Chosen.{chosen_left}
use Rattle.signature.proofs.hash_key.Given as goal

abbrev pub invariant-loop-tag : goal.invariant-loop-tag
invariant-loop-tag l =
    hash_of (record_key (matching_of l.fn.matching) l.list l.rec) ≡ hash_bytes l.x (encode_tags (chosen_left l.tag-iterator))
