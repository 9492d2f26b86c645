-- `run_groups` meets its contract. Assumes nothing.
use Rattle.std.proofs.Common.{replicate}
use mathlib.Core.Path.{refl}
use Rattle.model.proofs.Laws.Lists.{front_long}
use Rattle.aggregate_vector.proofs.Stages.{side_few, room_held, keys_within, keys_front, keys_held, groups_ran}
use Rattle.aggregate_vector.proofs.run_groups.Goals as goal

pub slice_bounds-keys-end : goal.slice_bounds-keys-end
slice_bounds-keys-end c = search side_few

pub slice_bounds-number_groups-end : goal.slice_bounds-number_groups-end
slice_bounds-number_groups-end c = front_long _ _ (search side_few)

pub number_groups-requires-clause-positions : goal.number_groups-requires-clause-positions
number_groups-requires-clause-positions c = (room_held _ _ _ _ c.requires (replicate 512 0) refl).0

pub number_groups-requires-clause-at_len : goal.number_groups-requires-clause-at_len
number_groups-requires-clause-at_len c = (room_held _ _ _ _ c.requires _ refl).1.0

pub number_groups-requires-clause-keys_len_bound : goal.number_groups-requires-clause-keys_len_bound
number_groups-requires-clause-keys_len_bound c = (room_held _ _ _ _ c.requires _ refl).1.1

pub slice_bounds-keys-end-2 : goal.slice_bounds-keys-end-2
slice_bounds-keys-end-2 c = keys_within c.groups_of-g.result c.args.names.now _ _ _ _ c.requires _
    c.number_groups.ensures _

pub slice_bounds-run_numbered-end : goal.slice_bounds-run_numbered-end
slice_bounds-run_numbered-end c = keys_front c.groups_of-g.result c.args.names.now _ _ _ _ c.requires _
    c.number_groups.ensures _

pub run_numbered-requires : goal.run_numbered-requires
run_numbered-requires c = keys_held c.groups_of-g.result c.args.names.now _ _ _ _ c.requires _
    c.number_groups.ensures _

pub returns : goal.returns
returns c = groups_ran _ c.args.names.now _ _ _ _ c.requires _ c.number_groups.ensures _ c.args.a
    c.groups_of-g.ensures _ refl _ _ _ _ _ c.run_numbered.ensures
