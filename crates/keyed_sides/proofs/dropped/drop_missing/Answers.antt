-- `drop_missing` meets its contract. Assumes nothing.
use Rattle.std.proofs.Common.{rules, arith}
use Rattle.keyed_sides.proofs.dropped.Dropping.{drop-room, drop-ends}
use Rattle.keyed_sides.proofs.dropped.drop_missing.Goals as goal

pub row-requires : goal.row-requires
row-requires c = drop-room _ _ c.args.keys.now _ (omega arith) c.requires

pub returns : goal.returns
returns c = drop-ends _ _ _ _ (search rules) (λ k h. c.loop-i.invariant.0 k (omega arith))
